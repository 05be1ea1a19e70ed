use Rattle.std.proofs.Common.{to_z, of_z, w64, Some, ◌≡◌, ◌<◌, ℕ, [], rules}
use Rattle.sqlite.specs.Held.{state}
use Rattle.sqlite.specs.Effect.{Database}
use Rattle.entity_core.specs.Serial.{max_serial}
use Rattle.space_core.specs.declared.space.Change.TheVariants.{RemoveSub}
use Rattle.space_sql_write.specs.Layout.{IsUnnamed, with_next_serial, without_sub_rows}
use Rattle.space_sql_write.specs.Statements.{FindsSubNumber, RelaysSound, MakesChange}
use Rattle.space_sql_write.proofs.Running.{runs_then}
use Rattle.space_sql_write.proofs.SubRemoved.{removes_sub}
use Rattle.space_sql_write.proofs.sub_remove.remove_sub.Goals as goal

pub returns-clause-changes : goal.returns-clause-changes
returns-clause-changes g c =
    let old = state g.S.Store c.args.tx.now.conn.now in
    let found = state g.S.Store c.sub_number_of.new.tx.conn.now in
    let left = state g.S.Store c.clear_sub.new.tx.conn.now in
    let new = state g.S.Store c.raise_serial.new.tx.conn.now in
    let id = c.args.id in
    let num = c.in-Some.num in
    let own : to_z w64 (of_z w64 num) ≡ num = search rules in
    let finds = rw c.in-Some.is at c.in_ok-num.ensures.finds in
    let Both = λ (_ : Unit {0}) (a d : Database). (b : Database) × FindsSubNumber id (Some num) a b × RelaysSound (IsUnnamed num) (without_sub_rows num) b d in
    let first = runs_then (FindsSubNumber id) (λ (_ : Unit {0}). RelaysSound (IsUnnamed num) (without_sub_rows num)) Both old found left (Some num) tt tt (λ finds clears. (found.now, finds, clears)) finds (rw own at c.in_ok-clear_sub.ensures.clears) in
    runs_then Both (λ (_ : ℕ). RelaysSound (λ l. l.serial < max_serial) with_next_serial) (λ (_ : Unit {0}). MakesChange (RemoveSub id) []) old left new tt _ tt
    (λ both raises. removes_sub old.now both.0 left.now new.now id num both.1 both.2.0 raises) first c.in_ok-raise_serial.ensures.raises
