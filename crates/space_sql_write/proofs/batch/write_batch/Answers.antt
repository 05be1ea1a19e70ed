use Rattle.std.proofs.Common.{◌∷◌, subst}
use Rattle.sqlite.specs.Held.{state}
use Rattle.space_sql_write.specs.Statements.{MakesChange, MakesRest, MakesBatch}
use Rattle.space_sql_write.proofs.Batches.{change_then}
use Rattle.space_sql_write.proofs.Running.{runs_last}
use Rattle.space_sql_write.proofs.batch.write_batch.Goals as goal

pub returns-clause-changes : goal.returns-clause-changes
returns-clause-changes g c =
    let a = state g.S.Store c.args.tx.now.conn.now in
    let b = state g.S.Store c.write_change.new.tx.conn.now in
    let d = state g.S.Store c.write_rest.new.tx.conn.now in
    let first = c.args.first.now in
    let rest = c.args.rest.now in
    runs_last (λ _. MakesChange first.change c.as_slice.result.now) (λ _. MakesRest rest) (λ _. MakesBatch (first ∷ rest)) a b d _ c.write_rest.result
    (λ _ one others. change_then first rest a.now b.now d.now (subst (λ told. MakesChange first.change told a.now b.now) c.as_slice.ensures.value one) others) c.in_ok-write_change.ensures.changes c.write_rest.ensures.changes
