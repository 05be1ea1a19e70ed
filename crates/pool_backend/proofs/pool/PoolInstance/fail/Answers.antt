use Rattle.std.proofs.Common.{◌∙◌, Option, subst, ap}
use Rattle.pool_instance.specs.Does.{GaveUpSo}
use Rattle.pool_instance.specs.declared.outcome.Unanswered.{Unanswered}
use Rattle.wire_http.specs.declared.unavailable.Unavailable.{Unavailable}
use Rattle.pool_backend.specs.Pool.{failure_for}
use Rattle.pool_backend.proofs.Does.{does_failed, does_not_fail, reason_is}
use Rattle.pool_backend.proofs.pool.PoolInstance.fail.Goals as goal

pub returns-in_default : goal.returns-in_default
returns-in_default g c =
    does_not_fail g.L.Log g.S.Space c.args.ticket c.args.self.now (record c.args.self.now { instance = c.fail.new.self; waiting = c.remove.new.self })
    (subst (λ (v : Option Unanswered). GaveUpSo g.L.Log g.S.Space c.args.ticket c.args.self.now.instance c.fail.new.self v) c.in_default.is c.fail.ensures) c.remove.ensures.given

pub returns : goal.returns
returns g c =
    let why = c.in-Some.unanswered in
    let reason = c.reason_of-reason.result in
    does_failed g.L.Log g.S.Space c.args.ticket c.args.self.now c.give.new.self c.fail.new.self why reason
    (subst (λ (v : Option Unanswered). GaveUpSo g.L.Log g.S.Space c.args.ticket c.args.self.now.instance c.fail.new.self v) c.in-Some.is c.fail.ensures)
    (λ id. ap (λ (v : Unavailable). failure_for v id) c.reason_of-reason.ensures ∙ reason_is c.args.is_assigned why id)
    c.give.ensures.instance c.give.ensures.outcomes
