use Rattle.std.proofs.Common.{sym, subst}
use Rattle.pool_core.specs.Log.{entry_of}
use Rattle.pool_instance.specs.Does.{FailedSo}
use Rattle.pool_instance.specs.declared.fault.InstanceFault.{InstanceFault}
use Rattle.pool_instance.specs.declared.fault.InstanceFault.TheVariants.{Ended}
use Rattle.pool_instance.proofs.Took.{took_end, took_some}
use Rattle.pool_instance.proofs.instance.Instance.take.Goals as goal

pub returns-in-Some : goal.returns-in-Some
returns-in-Some g c =
    took_some g.L.Log g.S.Space c.args.self.now c.make.new.self (entry_of c.in-Ok-Some.entry) c.next.new.self c.in-Some.told (rw c.in-Ok-Some.field-0-is at c.in-Ok-Some.ensures.history) c.next.ensures.writer c.if-self.false c.in-Some.ensures

pub returns-in-Ok-Some : goal.returns-in-Ok-Some
returns-in-Ok-Some g c =
    subst (λ (v : InstanceFault). FailedSo g.L.Log g.S.Space c.args.self.now c.end.new.self v) (sym c.end.ensures.fault)
    (subst (λ v. FailedSo g.L.Log g.S.Space c.args.self.now v Ended) (sym c.end.ensures.ended)
    (took_end g.L.Log g.S.Space c.args.self.now c.make.new.self (entry_of c.in-Ok-Some.entry) c.next.new.self (rw c.in-Ok-Some.field-0-is at c.in-Ok-Some.ensures.history) c.next.ensures.writer c.make.result c.in-None.is c.make.ensures))
