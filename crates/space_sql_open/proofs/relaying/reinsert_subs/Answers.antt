use Rattle.sqlite.specs.Held.{state}
use Rattle.space_sql_open.specs.Relaying.{Puts, with_cells, with_subs}
use Rattle.space_sql_open.proofs.Relays.{carries_then}
use Rattle.space_sql_open.proofs.relaying.reinsert_subs.Goals as goal

pub returns-clause-puts : goal.returns-clause-puts
returns-clause-puts g c =
    let a = state g.S.Store c.args.tx.now.conn.now in
    let b = state g.S.Store c.reinsert_all.new.tx.conn.now in
    let d = state g.S.Store c.reinsert_all-2.new.tx.conn.now in
    carries_then (Puts (with_subs c.args.aside.now.subs.items)) (Puts (with_cells c.args.aside.now.cells.items)) (Puts (λ l. with_cells c.args.aside.now.cells.items (with_subs c.args.aside.now.subs.items l))) a b d _ _ _ (λ first then four l has. then four (with_subs c.args.aside.now.subs.items l) (first four l has)) (rw c.as_slice.ensures.value at c.in_ok-reinsert_all.ensures.puts) (rw c.as_slice-2.ensures.value at c.in_ok-reinsert_all-2.ensures.puts)
