use Rattle.std.proofs.Common.{List, ℕ, Some, subst, sym}
use Rattle.service_calls.specs.Decision.{Allows}
use Rattle.service_calls.specs.Service.{AnswersTo}
use Rattle.space_core.specs.Calls.{ForEachHeld}
use Rattle.service_calls.proofs.Outcome.{change_done, change_failed}
use Rattle.service_calls.proofs.service.answer_changed.Goals as goal

pub returns-in-Ok : goal.returns-in-Ok
returns-in-Ok g c =
    let q = c.args.admitted.now in
    change_done g.S.Space q c.args.space.now c.apply.new.self c.args.change c.items.result.now c.args.answer c.in-Ok.ensures.fixed c.in-Ok.ensures.changes c.in-Ok.ensures.tells
    (subst (λ (told : List ℕ). ForEachHeld g.S.Space c.args.space.now (λ a. Allows q a (Some c.args.change) told c.args.answer)) (sym c.items.ensures) c.requires.given)

pub returns-in-Err : goal.returns-in-Err
returns-in-Err g c =
    let q = c.args.admitted.now in
    subst (AnswersTo g.S.Space q c.args.space.now c.apply.new.self) (sym c.reply_to_fault.ensures)
    (change_failed g.S.Space q c.args.space.now c.apply.new.self c.args.change c.items.result.now c.args.answer c.in-Err.fault c.in-Err.ensures.fixed c.in-Err.ensures.changes c.in-Err.ensures.tells c.requires.admitted
    (subst (λ (told : List ℕ). ForEachHeld g.S.Space c.args.space.now (λ a. Allows q a (Some c.args.change) told c.args.answer)) (sym c.items.ensures) c.requires.given))
