use Rattle.sqlite.specs.Held.{state}
use Rattle.space_sql_write.specs.Layout.{CanBeNotified, with_notified_row}
use Rattle.space_sql_write.specs.Statements.{RelaysSound}
use Rattle.space_sql_write.proofs.Texts.{raise_notes_text}
use Rattle.space_sql_write.proofs.Running.{runs_on}
use Rattle.space_sql_write.proofs.Updating.{raises_notes}
use Rattle.space_sql_write.proofs.notify.raise_notes.Goals as goal

pub returns-clause-raises : goal.returns-clause-raises
returns-clause-raises g c =
    let old = state g.S.Store c.args.tx.now.conn.now in
    let new = state g.S.Store c.execute.new.self.conn.now in
    let id = c.args.id.now in
    runs_on old new raise_notes_text _ c.execute.result (RelaysSound (CanBeNotified id) (with_notified_row id)) (rw c.params-to_sql.ensures at c.execute.ensures.runs) c.execute.ensures.survives (raises_notes old new id c.execute.result)
