use Rattle.std.proofs.Common.{to_z, of_z, w64, ◌≡◌, ℕ, List, rules}
use Rattle.sqlite.specs.Held.{state}
use Rattle.entity_core.specs.Airspace.{VersionedAvailability}
use Rattle.space_sql_schema.specs.Spelling.{availability_number, availability_values}
use Rattle.space_sql_write.specs.Layout.{Always, Relays, with_availability_row}
use Rattle.space_sql_write.proofs.Texts.{insert_availability_text}
use Rattle.space_sql_write.proofs.Running.{runs_on}
use Rattle.space_sql_write.proofs.Inserting.{inserts_availability}
use Rattle.space_sql_write.proofs.availability.insert_availability.Goals as goal

pub returns-clause-inserts : goal.returns-clause-inserts
returns-clause-inserts g c =
    let old = state g.S.Store c.args.tx.now.conn.now in
    let new = state g.S.Store c.execute.new.self.conn.now in
    let stated : VersionedAvailability = (c.args.availability, c.args.version.now) in
    let row : List ℕ × VersionedAvailability = (c.args.uss.now, stated) in
    let number : to_z w64 (of_z w64 c.availability_number.result) ≡ availability_number c.args.availability = search rules in
    runs_on old new insert_availability_text (availability_values row) c.execute.result (Relays Always (with_availability_row c.args.uss.now stated))
    (rw (c.params-to_sql.ensures, c.params-to_sql-2.ensures, c.params-to_sql-3.ensures, c.text.ensures.same, c.text-2.ensures.same, number) at c.execute.ensures.runs) c.execute.ensures.survives (inserts_availability old new row c.execute.result)
