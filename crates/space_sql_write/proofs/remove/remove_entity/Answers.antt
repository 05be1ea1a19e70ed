use Rattle.std.proofs.Common.{to_z, of_z, w64, Some, ◌≡◌, ◌<◌, [], rules}
use Rattle.sqlite.specs.Held.{state}
use Rattle.entity_core.specs.Serial.{max_serial}
use Rattle.entity_core.specs.Airspace.{EntityKey}
use Rattle.space_core.specs.declared.space.Change.TheVariants.{Remove}
use Rattle.space_sql_write.specs.Layout.{without_rows, with_next_serial}
use Rattle.space_sql_write.specs.Statements.{FindsNumber, RelaysSound, MakesChange}
use Rattle.space_sql_write.proofs.Running.{runs_last}
use Rattle.space_sql_write.proofs.Removed.{removes_entity}
use Rattle.space_sql_write.proofs.remove.remove_entity.Goals as goal

pub returns-clause-changes : goal.returns-clause-changes
returns-clause-changes g c =
    let a = state g.S.Store c.args.tx.now.conn.now in
    let b = state g.S.Store c.number_of.new.tx.conn.now in
    let d = state g.S.Store c.remove_numbered.new.tx.conn.now in
    let kind = c.args.kind in
    let id = c.args.id in
    let k : EntityKey = (kind, id) in
    let num = c.in-Some.num in
    let own : to_z w64 (of_z w64 num) ≡ num = search rules in
    let found = rw c.in-Some.is at c.in_ok-num.ensures.finds in
    let removed = rw own at c.remove_numbered.ensures.removes in
    runs_last (FindsNumber k) (λ _. RelaysSound (λ l. l.serial < max_serial) (λ l. with_next_serial (without_rows num l))) (λ _. MakesChange (Remove kind id) []) a b d (Some num) c.remove_numbered.result
    (λ _ finds removes. removes_entity a.now b.now d.now kind id num finds removes) found removed
