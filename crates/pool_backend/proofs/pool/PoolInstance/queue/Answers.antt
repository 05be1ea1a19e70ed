use Rattle.std.proofs.Common.{ℕ, Result, refl, subst}
use Rattle.pool_instance.specs.Does.{QueuedSo}
use Rattle.pool_instance.specs.Request.{call_of}
use Rattle.pool_instance.specs.declared.fault.InstanceFault.{InstanceFault}
use Rattle.pool_backend.proofs.Did.{did_stopped}
use Rattle.pool_backend.proofs.pool.PoolInstance.queue.Goals as goal

pub returns-in-Ok : goal.returns-in-Ok
returns-in-Ok g c =
    let q = subst (λ (v : Result ℕ InstanceFault). QueuedSo g.L.Log g.S.Space c.args.moment (call_of c.args.request) c.args.self.now.instance c.queue.new.self v) c.in-Ok.is c.queue.ensures in
    (q.0, record { did = q.1; left = c.push.ensures })

pub returns-in-Err : goal.returns-in-Err
returns-in-Err g c =
    record {
      did = did_stopped g.L.Log g.S.Space c.args.self.now.instance c.queue.new.self _ (subst (λ (v : Result ℕ InstanceFault). QueuedSo g.L.Log g.S.Space c.args.moment (call_of c.args.request) c.args.self.now.instance c.queue.new.self v) c.in-Err.is c.queue.ensures);
      left = refl;
    }
