use Rattle.sqlite.specs.Held.{state}
use Rattle.entity_core.specs.Airspace.{VersionedAvailability}
use Rattle.space_sql_write.specs.Layout.{Always, Relays, ReplacesAvailability, with_availability_row, without_availability_row}
use Rattle.space_sql_write.proofs.Running.{runs_then}
use Rattle.space_sql_write.proofs.availability.replace_availability.Goals as goal

pub returns-clause-replaces : goal.returns-clause-replaces
returns-clause-replaces g c =
    let uss = c.args.uss.now in
    let stated : VersionedAvailability = (c.args.availability, c.args.version.now) in
    runs_then (λ _. Relays Always (without_availability_row uss)) (λ _. Relays Always (with_availability_row uss stated)) (λ _. ReplacesAvailability uss stated)
    (state g.S.Store c.args.tx.now.conn.now) (state g.S.Store c.clear_availability.new.tx.conn.now) (state g.S.Store c.insert_availability.new.tx.conn.now) _ _ _
    (λ clears inserts. (c.insert_availability.ensures.stated, (λ l _ has. inserts (without_availability_row uss l) tt (clears l tt has))))
    c.in_ok-clear_availability.ensures.clears c.in_ok-insert_availability.ensures.inserts
