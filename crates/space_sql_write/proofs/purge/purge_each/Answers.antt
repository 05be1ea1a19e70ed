use Rattle.std.proofs.Common.{◌∷◌}
use Rattle.sqlite.specs.Held.{state}
use Rattle.space_sql_write.specs.Statements.{MakesLess, MakesLessAll, MakesLessRest}
use Rattle.space_sql_write.proofs.Purging.{less_then}
use Rattle.space_sql_write.proofs.Running.{runs_last}
use Rattle.space_sql_write.proofs.purge.purge_each.Goals as goal

pub returns-clause-goes : goal.returns-clause-goes
returns-clause-goes g c =
    let a = state g.S.Store c.args.tx.now.conn.now in
    let b = state g.S.Store c.purge_one.new.tx.conn.now in
    let d = state g.S.Store c.purge_rest.new.tx.conn.now in
    let first = c.args.first.now in
    let rest = c.args.rest.now in
    runs_last (λ _. MakesLess first) (λ _. MakesLessRest rest) (λ _. MakesLessAll (first ∷ rest)) a b d _ c.purge_rest.result
    (λ _ one others. less_then first rest a.now b.now d.now one others) c.in_ok-purge_one.ensures.goes c.purge_rest.ensures.goes
