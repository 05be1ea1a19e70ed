use Rattle.std.proofs.Common.{to_z, of_z, w64, Some, ◌≡◌, rules}
use Rattle.sqlite.specs.Held.{state}
use Rattle.entity_core.specs.Airspace.{EntityKey}
use Rattle.entity_purge.specs.declared.purge_item.PurgeItem.TheVariants.{Entity}
use Rattle.space_sql_write.specs.Layout.{Always, without_rows}
use Rattle.space_sql_write.specs.Statements.{FindsNumber, RelaysSound, MakesLess}
use Rattle.space_sql_write.proofs.Running.{runs_last}
use Rattle.space_sql_write.proofs.Removed.{lets_entity_go}
use Rattle.space_sql_write.proofs.purge.purge_entity.Goals as goal

pub returns-clause-goes : goal.returns-clause-goes
returns-clause-goes g c =
    let a = state g.S.Store c.args.tx.now.conn.now in
    let b = state g.S.Store c.number_of.new.tx.conn.now in
    let d = state g.S.Store c.clear_entity.new.tx.conn.now in
    let kind = c.args.kind in
    let id = c.args.id in
    let k : EntityKey = (kind, id) in
    let num = c.in-Some.num in
    let own : to_z w64 (of_z w64 num) ≡ num = search rules in
    let found = rw c.in-Some.is at c.in_ok-num.ensures.finds in
    let cleared = rw own at c.clear_entity.ensures.clears in
    runs_last (FindsNumber k) (λ _. RelaysSound Always (without_rows num)) (λ _. MakesLess (Entity kind id)) a b d (Some num) c.clear_entity.result
    (λ _ finds clears. lets_entity_go a.now b.now d.now kind id num finds clears) found cleared
