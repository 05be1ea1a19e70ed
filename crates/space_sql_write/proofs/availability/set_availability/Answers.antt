use Rattle.std.specs.Prelude.{◌<◌, []}
use Rattle.sqlite.specs.Held.{state}
use Rattle.entity_core.specs.Airspace.{VersionedAvailability}
use Rattle.entity_core.specs.Serial.{max_serial}
use Rattle.space_core.specs.declared.space.Change.TheVariants.{Avail}
use Rattle.space_sql_write.specs.Layout.{ReplacesAvailability, with_next_serial}
use Rattle.space_sql_write.specs.Statements.{RelaysSound, MakesChange}
use Rattle.space_sql_write.proofs.Running.{runs_then}
use Rattle.space_sql_write.proofs.Availabilities.{sets_availability}
use Rattle.space_sql_write.proofs.availability.set_availability.Goals as goal

pub returns-clause-changes : goal.returns-clause-changes
returns-clause-changes g c =
    let a = state g.S.Store c.args.tx.now.conn.now in
    let b = state g.S.Store c.replace_availability.new.tx.conn.now in
    let d = state g.S.Store c.raise_serial.new.tx.conn.now in
    let uss = c.args.uss.now in
    let stated : VersionedAvailability = (c.args.availability, c.args.version.now) in
    let change = Avail uss c.args.availability c.args.version.now in
    runs_then (λ _. ReplacesAvailability uss stated) (λ _. RelaysSound (λ l. l.serial < max_serial) with_next_serial) (λ _. MakesChange change []) a b d _ _ _
    (λ replaces raises. sets_availability a.now b.now d.now uss c.args.availability c.args.version.now replaces raises)
    c.in_ok-replace_availability.ensures.replaces c.in_ok-raise_serial.ensures.raises
