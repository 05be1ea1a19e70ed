-- Lemmas: an operation that failed.
use Rattle.std.proofs.Common.{◌≡◌, ◌||◌, get_or, ℕ, Bool, not, true, false, if◌then◌else◌, List, map, refl, sym, subst, inl}
use Rattle.std.specs.Prelude.{All}
use Rattle.std.proofs.lemmas.List.Elements.{All-map}
use Rattle.policy_core.specs.declared.call.Call.{Call}
use Rattle.space_core.specs.declared.space.Space as spaces
use Rattle.pool_core.specs.Unlogged.{reads}
use Rattle.pool_core.specs.declared.log.Log as logs
use Rattle.pool_core.specs.declared.log.LogFault.{LogFault}
use Rattle.pool_core.specs.declared.log.LogFault.TheVariants as faults
use Rattle.pool_instance.specs.Does.{FailedSo, StoppedSo}
use Rattle.pool_instance.specs.Effects.{FailsLog, with_end}
use Rattle.pool_instance.specs.Lists.{asked}
use Rattle.pool_instance.specs.Parts.{is_ended, is_unasked, is_unasked_by}
use Rattle.pool_instance.specs.Request.{call_of}
use Rattle.pool_instance.specs.declared.fault.InstanceFault.{InstanceFault}
use Rattle.pool_instance.specs.Request.{call_of}
use Rattle.pool_instance.specs.declared.fault.InstanceFault.TheVariants.{Ended, NoMemory}
use Rattle.pool_instance.specs.declared.instance.Instance.{Instance}
use Rattle.pool_instance.specs.declared.waiting.Reading.{Reading}
use Rattle.pool_instance.specs.declared.waiting.Stage.{Stage}
use Rattle.pool_instance.specs.declared.waiting.Stage.TheVariants.{Asked, Fresh, Until}
use Rattle.pool_instance.proofs.After.{Alike, did_alike, did_nothing, ids_alike}

open_asked : (q : ℕ) (f : Bool) (call : Call) (may : Bool) → (not f || reads call.op) ≡ may → is_unasked_by f call (if may then Asked q else Fresh) ≡ false
open_asked q f call true is = refl
open_asked q f call false is = is

stage_asked : (q : ℕ) (f : Bool) (call : Call) (s : Stage) → is_unasked_by f call (if is_unasked_by f call s then Asked q else s) ≡ false
stage_asked q f call Fresh = open_asked q f call (not f || reads call.op) refl
stage_asked q f call (Asked p) = refl
stage_asked q f call (Until n) = refl

asked_one : (q : ℕ) (f : Bool) (r : Reading) → is_unasked f (asked f q r) ≡ false
asked_one q f r = stage_asked q f (call_of r.held.request) r.stage

pub none_unasked : (f : Bool) (q : ℕ) (rs : List Reading) → All (λ r. is_unasked f r ≡ false) (map (asked f q) rs)
none_unasked f q rs = All-map (λ r. is_unasked f r ≡ false) (asked f q) rs (λ k d lt. asked_one q f (get_or rs k d))

module _ {L S : Type 0} (gl : logs.Ghosts L) (gs : spaces.Ghosts S) where
  pub alike_self : (x : Instance L S) → Alike gl gs x x
  alike_self x = record { service = refl; history = refl; writer = refl; readings = refl; unsent = refl; in_flight = refl; taken = refl; received = refl; ended = λ h. h; retention = refl; heard = refl }

  alike_end : (old mid : Instance L S) → Alike gl gs old mid → Alike gl gs old (with_end mid)
  alike_end old mid a = record {
    service = a.service;
    history = a.history;
    writer = a.writer;
    readings = a.readings;
    unsent = a.unsent;
    in_flight = a.in_flight;
    taken = a.taken;
    received = a.received;
    ended = λ h. refl;
    retention = a.retention;
    heard = a.heard;
  }

  -- The instance had ended before.
  pub failed_before : (old : Instance L S) → is_ended old ≡ true → FailedSo gl gs old old Ended
  failed_before old h = (h, refl, inl (did_alike gl gs old old (alike_self old)))

  pub stopped_before : (old : Instance L S) → is_ended old ≡ true → StoppedSo gl gs old old Ended
  stopped_before old h = (h, refl, did_alike gl gs old old (alike_self old))

  pub stopped_end : (old : Instance L S) → StoppedSo gl gs old (with_end old) Ended
  stopped_end old = (refl, refl, did_alike gl gs old (with_end old) (alike_end old old (alike_self old)))

  -- The instance ended.
  pub failed_end : (old mid : Instance L S) → Alike gl gs old mid → FailedSo gl gs old (with_end mid) Ended
  failed_end old mid a = (refl, ids_alike gl gs old mid a, inl (did_alike gl gs old (with_end mid) (alike_end old mid a)))

  -- Memory ran out.
  pub failed_memory : (old mid : Instance L S) → Alike gl gs old mid → is_ended mid ≡ is_ended old → FailedSo gl gs old mid NoMemory
  failed_memory old mid a e = (did_nothing gl gs old mid a, e)

  -- A call of the log failed.
  pub failed_log : (fault : LogFault) (old mid new : Instance L S) (f : InstanceFault) → Alike gl gs old mid → is_ended mid ≡ is_ended old → FailsLog fault mid new f → FailedSo gl gs old new f
  failed_log faults.NoMemory old mid new f a e h =
      subst (λ (v : InstanceFault). FailedSo gl gs old new v) (sym h.0)
      (subst (λ (v : Instance L S). FailedSo gl gs old v NoMemory) (sym h.1) (failed_memory old mid a e))
  failed_log faults.Lost old mid new f a e h =
      subst (λ (v : InstanceFault). FailedSo gl gs old new v) (sym h.0)
      (subst (λ (v : Instance L S). FailedSo gl gs old v Ended) (sym h.1) (failed_end old mid a))
