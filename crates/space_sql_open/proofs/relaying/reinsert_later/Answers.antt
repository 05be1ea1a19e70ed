use Rattle.sqlite.specs.Held.{state}
use Rattle.space_sql_open.specs.Relaying.{Puts, listed, with_cells, with_later, with_namings, with_subs}
use Rattle.space_sql_open.proofs.Relays.{carries_then}
use Rattle.space_sql_open.proofs.relaying.reinsert_later.Goals as goal

pub returns-clause-puts : goal.returns-clause-puts
returns-clause-puts g c =
    let rows = listed c.args.aside.now in
    let a = state g.S.Store c.args.tx.now.conn.now in
    let b = state g.S.Store c.reinsert_subs.new.tx.conn.now in
    let d = state g.S.Store c.reinsert_all.new.tx.conn.now in
    carries_then (Puts (λ l. with_cells rows.cells (with_subs rows.subs l))) (Puts (with_namings rows.namings)) (Puts (with_later rows)) a b d _ _ _ (λ first then four l has. then four (with_cells rows.cells (with_subs rows.subs l)) (first four l has)) c.in_ok-reinsert_subs.ensures.puts (rw c.as_slice.ensures.value at c.in_ok-reinsert_all.ensures.puts)
