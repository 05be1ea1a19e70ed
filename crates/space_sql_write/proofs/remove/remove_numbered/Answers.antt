use Rattle.std.proofs.Common.{to_z-of_z}
use Rattle.std.specs.Prelude.{◌<◌}
use Rattle.sqlite.specs.Held.{state}
use Rattle.entity_core.specs.Serial.{max_serial}
use Rattle.space_sql_write.specs.Layout.{Always, without_rows, with_next_serial}
use Rattle.space_sql_write.specs.Statements.{RelaysSound}
use Rattle.space_sql_write.proofs.Running.{runs_then}
use Rattle.space_sql_write.proofs.remove.remove_numbered.Goals as goal

pub returns-clause-removes : goal.returns-clause-removes
returns-clause-removes g c =
    let num = c.args.num in
    runs_then (λ _. RelaysSound Always (without_rows num)) (λ _. RelaysSound (λ l. l.serial < max_serial) with_next_serial) (λ _. RelaysSound (λ l. l.serial < max_serial) (λ l. with_next_serial (without_rows num l)))
    (state g.S.Store c.args.tx.now.conn.now) (state g.S.Store c.clear_entity.new.tx.conn.now) (state g.S.Store c.raise_serial.new.tx.conn.now) _ _ _
    (λ clears raises. ((λ l low has. raises.0 (without_rows num l) low (clears.0 l tt has)), (λ l low has. raises.1 (without_rows num l) low (clears.0 l tt has))))
    (rw (to_z-of_z c.ranges.num) at c.in_ok-clear_entity.ensures.clears) c.in_ok-raise_serial.ensures.raises
