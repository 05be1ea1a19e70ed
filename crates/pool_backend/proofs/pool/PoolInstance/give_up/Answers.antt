use Rattle.std.proofs.Common.{◌∙◌, true, Option, refl, subst, ap}
use Rattle.wire_http.specs.declared.unavailable.Unavailable.{Unavailable}
use Rattle.pool_instance.specs.Does.{GaveUpSo}
use Rattle.pool_instance.specs.declared.outcome.Unanswered.{Unanswered}
use Rattle.pool_backend.specs.Pool.{failure_for}
use Rattle.pool_backend.proofs.Does.{gave_up_for, reason_is}
use Rattle.pool_backend.proofs.pool.PoolInstance.give_up.Goals as goal

pub unreachable-requires : goal.unreachable-requires
unreachable-requires g c =
    (subst (λ (v : Option Unanswered). GaveUpSo g.L.Log g.S.Space c.args.ticket c.args.self.now.instance c.fail.new.self v) c.in-None.is c.fail.ensures).1 c.requires

pub returns : goal.returns
returns g c =
    record {
      did = gave_up_for g.L.Log g.S.Space c.args.ticket c.args.self.now.instance c.fail.new.self c.in-Some.unanswered c.reason_of.result
          (subst (λ (v : Option Unanswered). GaveUpSo g.L.Log g.S.Space c.args.ticket c.args.self.now.instance c.fail.new.self v) c.in-Some.is c.fail.ensures)
          (λ id. ap (λ (v : Unavailable). failure_for v id) c.reason_of.ensures ∙ reason_is true c.in-Some.unanswered id);
      left = refl;
    }
