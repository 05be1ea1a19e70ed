use Rattle.std.proofs.Common.{subst, sym}
use Rattle.service_calls.specs.Service.{AnswersTo}
use Rattle.service_calls.proofs.Outcome.{read_answers, halted_answers}
use Rattle.service_calls.proofs.Evaluated.{standing_none}
use Rattle.service_calls.proofs.service.answer_allowed.Goals as goal

pub returns-in-Err : goal.returns-in-Err
returns-in-Err g c =
    let q = c.args.admitted.now in
    subst (AnswersTo g.S.Space q c.args.space.now c.prepare.new.space) (sym c.reply_to_fault.ensures)
    (halted_answers g.S.Space q c.args.space.now c.prepare.new.space c.in-Err.halt _ c.in-Err.ensures c.requires.admitted (λ e s a h. standing_none a q.moment q.call.now (c.requires.given (c.in-Err.ensures.sound s) a h).0))

pub returns : goal.returns
returns g c =
    read_answers g.S.Space c.args.admitted.now c.args.space.now c.prepare.new.space c.args.facts.now c.in-Ok.made c.in-None.is c.in-Ok.ensures
    (λ s a h. g.met.S.Space.content_valid c.args.space.now a s h) c.requires.given
