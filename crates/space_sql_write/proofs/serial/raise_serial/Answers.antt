use Rattle.std.specs.Prelude.{◌<◌}
use Rattle.sqlite.specs.Held.{state}
use Rattle.entity_core.specs.Serial.{max_serial}
use Rattle.space_sql_write.specs.Layout.{with_next_serial}
use Rattle.space_sql_write.specs.Statements.{RelaysSound}
use Rattle.space_sql_write.proofs.Texts.{raise_serial_text}
use Rattle.space_sql_write.proofs.Running.{runs_on}
use Rattle.space_sql_write.proofs.Serials.{raises_serial}
use Rattle.space_sql_write.proofs.serial.raise_serial.Goals as goal

pub returns-clause-raises : goal.returns-clause-raises
returns-clause-raises g c =
    let old = state g.S.Store c.args.tx.now.conn.now in
    let new = state g.S.Store c.execute.new.self.conn.now in
    runs_on old new raise_serial_text _ c.execute.result (RelaysSound (λ l. l.serial < max_serial) with_next_serial) c.execute.ensures.runs c.execute.ensures.survives (raises_serial old new c.execute.result)
