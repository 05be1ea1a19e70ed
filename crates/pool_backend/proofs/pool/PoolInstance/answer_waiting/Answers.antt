use Rattle.std.proofs.Common.{◌∙◌, Ok, Result, Option, ap, refl, subst, sym}
use Rattle.pool_instance.specs.Does.{AnsweredAs}
use Rattle.pool_instance.specs.declared.fault.InstanceFault.{InstanceFault}
use Rattle.pool_instance.specs.declared.outcome.Outcome.{Outcome}
use Rattle.pool_backend.specs.Pool.{AnswersAs}
use Rattle.pool_backend.proofs.Did.{did_stopped}
use Rattle.pool_backend.proofs.Does.{answers_none, answers_some, for_same, released}
use Rattle.pool_backend.proofs.pool.PoolInstance.answer_waiting.Goals as goal

pub returns-in-Ok-Some : goal.returns-in-Ok-Some
returns-in-Ok-Some g c =
    let x = c.args.self.now in
    let z = record x { instance = c.answer_as.new.self } in
    let q = subst (λ (v : Result (Option Outcome) InstanceFault). AnsweredAs g.L.Log g.S.Space c.args.moment c.args.ticket x.instance c.answer_as.new.self v) (c.in-Ok-Some.is ∙ ap Ok c.in-Ok-Some.field-0-is) c.answer_as.ensures in
    subst (λ v. AnswersAs g.L.Log g.S.Space c.args.moment c.args.ticket v x z) (sym c.outcome_of.ensures)
    (answers_some g.L.Log g.S.Space c.args.moment c.args.ticket c.in-Ok-Some.outcome x z q refl)

pub returns-in-Ok-None : goal.returns-in-Ok-None
returns-in-Ok-None g c =
    let x = c.args.self.now in
    let q = subst (λ (v : Result (Option Outcome) InstanceFault). AnsweredAs g.L.Log g.S.Space c.args.moment c.args.ticket x.instance c.answer_as.new.self v) (c.in-Ok-None.is ∙ ap Ok c.in-Ok-None.field-0-is) c.answer_as.ensures in
    let z = record x { instance = c.answer_as.new.self } in
    released g.L.Log g.S.Space c.args.moment c.args.ticket x z q refl

pub returns-then-is_ended : goal.returns-then-is_ended
returns-then-is_ended g c = for_same g.L.Log g.S.Space c.args.self.now c.args.self.now (record { instance = refl; outcomes = refl })

pub give_up-requires : goal.give_up-requires
give_up-requires g c =
    let q = subst (λ (v : Result (Option Outcome) InstanceFault). AnsweredAs g.L.Log g.S.Space c.args.moment c.args.ticket c.args.self.now.instance c.answer_as.new.self v) c.in-Err.is c.answer_as.ensures in
    q.1 (sym c.is_ended.ensures ∙ c.if-is_ended.false)

pub returns-in-Err : goal.returns-in-Err
returns-in-Err g c =
    let x = c.args.self.now in
    let y = record x { instance = c.answer_as.new.self } in
    let q = subst (λ (v : Result (Option Outcome) InstanceFault). AnsweredAs g.L.Log g.S.Space c.args.moment c.args.ticket x.instance c.answer_as.new.self v) c.in-Err.is c.answer_as.ensures in
    answers_none g.L.Log g.S.Space c.args.ticket c.give_up.result x y c.give_up.new.self (did_stopped g.L.Log g.S.Space x.instance c.answer_as.new.self _ q.0) refl c.give_up.ensures
