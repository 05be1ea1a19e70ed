-- Acknowledged changes are kept.
use Rattle.std.proofs.Common.{◌≡◌, ◌||◌, Bool, true, false, List, [], ◌∷◌, map, Result, Ok, Err, ℕ, refl, sym, ap, subst, ◌∙◌}
use Rattle.std.specs.List.{AllByRecursion}
use Rattle.service_calls.specs.declared.service.Service.{Service}
use Rattle.service_calls.specs.Batches.{Batch, CallRecord, CalledInOrder, IsCommitted, MadeBatches, batch_stops, delivered_reply, replies_delivered, replies_made}
use Rattle.service_calls.specs.Held.{is_shut, space_of}
use Rattle.service_calls.specs.Purged.{MadeSegments, PurgesOnce, Segment}
use Rattle.service_calls.specs.Run.{has_stopped}
use Rattle.service_calls.proofs.InBatches.{Lawful, calls}
use Rattle.service_step.specs.declared.reply.Reply.{Reply}
use Rattle.space_core.specs.Space.{is_broken_after}
use Rattle.space_core.specs.declared.group_commit.GroupCommit as settles
use Rattle.space_core.specs.declared.space.Space as spaces
use Rattle.space_core.specs.declared.space.SpaceFault.{SpaceFault}
use Rattle.space_core.specs.declared.space.SpaceFault.TheVariants.{Broken, Unchanged}
use Rattle.database_laws.specs.Kept.{AreKept, FailsIfStopped}

either : {P : Type 0} (x : Bool) → (x ≡ true → P) → (x ≡ false → P) → P
either true is not = is refl
either false is not = not refl

-- A shut service has a broken space, and stays so.
broken_after : {T : Type 0} (result : Result T SpaceFault) (shut broken shut' broken' : Bool) → shut' ≡ is_broken_after shut result → broken' ≡ is_broken_after broken result → (shut ≡ true → broken ≡ true) → shut' ≡ true → broken' ≡ true
broken_after (Ok x) shut broken shut' broken' s b was is = b ∙ was (sym s ∙ is)
broken_after (Err Unchanged) shut broken shut' broken' s b was is = b ∙ was (sym s ∙ is)
broken_after (Err Broken) shut broken shut' broken' s b was is = b

made_same : (batch : Batch) → batch.settled ≡ Ok tt → replies_delivered batch ≡ replies_made batch
made_same batch ok = ap (λ (r : Result (Unit {0}) SpaceFault). map (delivered_reply r) batch.calls) ok

module _ {S : Type 0} (g : spaces.Ghosts S) (k : settles.Ghosts S) (laws : Lawful g k) where
  abbrev IsBrokenIfShut : Service S → Type 0
  IsBrokenIfShut s = is_shut s ≡ true → g.is_broken (space_of s) ≡ true

  after_calls : (old mid : Service S) (ms : List CallRecord) → CalledInOrder g k old ms mid → IsBrokenIfShut old → IsBrokenIfShut mid
  after_calls old mid ms made was is =
      let all = calls g k laws old ms mid made in
      either (is_shut old)
      (λ n. ap (λ (s : Service S). g.is_broken (space_of s)) (all.stays.shut n) ∙ was n)
      (λ n. all.breaks n ∙ ap (λ (x : Bool). x || g.is_broken (space_of old)) (sym (all.shuts n) ∙ is))

  stopped_shuts : (old mid : Service S) (ms : List CallRecord) → CalledInOrder g k old ms mid → has_stopped (map (λ m. m.reply) ms) ≡ true → is_shut mid ≡ true
  stopped_shuts old mid ms made stops =
      let all = calls g k laws old ms mid made in
      either (is_shut old)
      (λ n. ap (λ (s : Service S). is_shut s) (all.stays.shut n) ∙ n)
      (λ n. all.shuts n ∙ stops)

  batch_fails : (batch : Batch) (old mid end : Service S) → IsBrokenIfShut old → CalledInOrder g k old batch.calls mid → IsCommitted g k mid end batch.settled → FailsIfStopped batch
  batch_fails batch old mid end was made commits stops ok =
      let shut = stopped_shuts old mid batch.calls made (sym (ap has_stopped (made_same batch ok)) ∙ stops) in
      let broken : batch.settled ≡ Err Broken = commits.tells.stays_broken (after_calls old mid batch.calls made was shut) in
      let no : Ok tt ≡ Err Broken = sym ok ∙ broken in
      cc

  after_commit : (batch : Batch) (old mid end : Service S) → IsBrokenIfShut old → CalledInOrder g k old batch.calls mid → IsCommitted g k mid end batch.settled → IsBrokenIfShut end
  after_commit batch old mid end was made commits =
      broken_after batch.settled (is_shut mid) (g.is_broken (space_of mid)) (is_shut end) (g.is_broken (space_of end)) commits.shuts commits.tells.breaks (after_calls old mid batch.calls made was)

  batches_fail : (old new : Service S) (batches : List Batch) → IsBrokenIfShut old → MadeBatches g k old batches new → AllByRecursion FailsIfStopped batches × IsBrokenIfShut new
  batches_fail old new [] was same = (tt, subst (λ (s : Service S). IsBrokenIfShut s) (sym same) was)
  batches_fail old new (batch ∷ batches) was h =
      let rest = batches_fail h.1 new batches (after_commit batch old h.0 h.1 was h.2 h.3) h.4 in
      ((batch_fails batch old h.0 h.1 was h.2 h.3, rest.0), rest.1)

  after_purge : (until : ℕ) (old new : Service S) → PurgesOnce g k until old new → IsBrokenIfShut old → IsBrokenIfShut new
  after_purge until old new purge was is =
      either (is_shut old)
      (λ n. ap (λ (s : Service S). g.is_broken (space_of s)) (purge.2.shut n).0 ∙ was n)
      (λ n. broken_after purge.1 (is_shut old) (g.is_broken (space_of old)) (is_shut new) (g.is_broken (space_of new)) purge.2.shuts (purge.2.tells n).breaks was is)

  segments_fail : (old last : Service S) (segments : List Segment) → IsBrokenIfShut old → MadeSegments g k old segments last
      → AllByRecursion (λ segment. AllByRecursion FailsIfStopped segment.batches) segments × IsBrokenIfShut last
  segments_fail old last [] was same = (tt, subst (λ (s : Service S). IsBrokenIfShut s) (sym same) was)
  segments_fail old last (segment ∷ segments) was h =
      let first = batches_fail old h.0 segment.batches was h.2 in
      let rest = segments_fail h.1 last segments (after_purge segment.until h.0 h.1 h.3 first.1) h.4 in
      ((first.0, rest.0), rest.1)

  pub are_kept : (old last new : Service S) (segments : List Segment) (batches : List Batch) → is_shut old ≡ false → MadeSegments g k old segments last → MadeBatches g k last batches new → AreKept segments batches
  are_kept old last new segments batches goes segments_made made =
      let first = segments_fail old last segments (λ shut. let no : true ≡ false = sym shut ∙ goes in cc) segments_made in
      record { before = first.0; after = (batches_fail last new batches first.1 made).0 }
