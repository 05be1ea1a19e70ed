use Rattle.std.proofs.Common.{◌≡◌, ◌∙◌}
use Rattle.sqlite.specs.Held.{state}
use Rattle.entity_core.specs.EntityId.{printed}
use Rattle.space_sql_write.specs.Layout.{CanBeNotified, with_notified_row}
use Rattle.space_sql_write.specs.Statements.{RelaysSound}
use Rattle.space_sql_write.specs.SubPutting.{NotifiesRow}
use Rattle.space_sql_write.proofs.Running.{runs_as_well}
use Rattle.space_sql_write.proofs.Notifies.{tells_one}
use Rattle.space_sql_write.proofs.notify.notify_one.Goals as goal

pub returns-clause-tells : goal.returns-clause-tells
returns-clause-tells g c =
    let old = state g.S.Store c.args.tx.now.conn.now in
    let new = state g.S.Store c.raise_notes.new.tx.conn.now in
    let id = c.args.id in
    let text : c.as_str.result.now ≡ printed id = c.as_str.ensures.value ∙ c.in_ok-text.ensures.text in
    runs_as_well (λ _. RelaysSound (CanBeNotified (printed id)) (with_notified_row (printed id))) (λ _. NotifiesRow id) old new _ tt
    (λ raises. tells_one id old.now new.now raises) (rw text at c.in_ok-raise_notes.ensures.raises)
