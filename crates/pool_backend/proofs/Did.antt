-- Lemmas: the events of an instance in order.
use Rattle.std.proofs.Common.{List, [], refl, sym, subst, arith}
use Rattle.std.proofs.lemmas.List.{append-nil}
use Rattle.space_core.specs.declared.space.Space as spaces
use Rattle.pool_core.specs.declared.log.Log as logs
use Rattle.pool_instance.specs.Does.{Did, StoppedSo}
use Rattle.pool_instance.specs.State.{IsAfter}
use Rattle.pool_instance.specs.declared.fault.InstanceFault.{InstanceFault}
use Rattle.pool_instance.specs.declared.fault.InstanceFault.TheVariants.{Ended, NoMemory}
use Rattle.pool_instance.specs.declared.instance.Instance.{Instance}

module _ {L S : Type 0} (gl : logs.Ghosts L) (gs : spaces.Ghosts S) where
  pub did_none : (x : Instance L S) → Did gl gs x [] x
  did_none x = record {
    after = λ past start events is. subst (λ v. IsAfter gl gs past start v x) (sym (append-nil events)) is;
    salt = refl;
    writer = refl;
    retention = refl;
    sound = λ h. h;
    stays_ended = λ h. h;
    received = omega arith;
  }

  pub did_stopped : (old new : Instance L S) (fault : InstanceFault) → StoppedSo gl gs old new fault → Did gl gs old [] new
  did_stopped old new NoMemory h = h.0.did
  did_stopped old new Ended h = h.2
