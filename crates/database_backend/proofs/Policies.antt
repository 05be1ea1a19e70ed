-- The replies and the durable airspace over a cut of events.
use Rattle.std.proofs.Common.{ℕ, List, [], ◌∷◌, Option, subst}
use Rattle.entity_core.specs.Airspace.{Airspace, empty_at}
use Rattle.space_core.specs.declared.group_commit.GroupCommit as commits
use Rattle.space_core.specs.declared.space.Space as spaces
use Rattle.service_calls.specs.declared.service.Service.{Service}
use Rattle.service_calls.specs.Batches.{CallRecord, CalledInOrder}
use Rattle.service_calls.specs.Held.{salt_of, space_of}
use Rattle.service_calls.specs.Purged.{RunsPurged}
use Rattle.service_calls.proofs.InBatches.{Lawful}
use Rattle.service_calls.proofs.SegmentLaws.{purged_numbered}
use Rattle.service_calls.proofs.Segments.{open_segment}
use Rattle.service_purge.proofs.Known.{segments_aware}
use Rattle.service_purge.proofs.Unseen.{segments_unseen}
use Rattle.server_backend.specs.BackendEvent.{BackendEvent}
use Rattle.database_backend.specs.Batches.{Cut, batches_of}
use Rattle.database_backend.specs.Policy.{EventsAreKnown, EventsAreThePolicy, RunsFrom}

module _ {S : Type 0} (g : spaces.Ghosts S) (k : commits.Ghosts S) (laws : Lawful g k) where
  -- A space that is sound after calls was sound before them.
  sound_before : (xs : List CallRecord) (old new : Service S) → CalledInOrder g k old xs new → g.is_sound (space_of new) → g.is_sound (space_of old)
  sound_before [] old new h sound = subst (λ (s : Service S). g.is_sound (space_of s)) h sound
  sound_before (x ∷ xs) old new h sound = h.1.stays.sound (sound_before xs h.0 new h.3 sound)

  cut_runs : (retention : Option ℕ) (events : List BackendEvent) (old new : Service S) (a : Airspace) (cut : Cut g k retention events old new) → RunsFrom g k a old new
      → RunsPurged k (salt_of old) a cut.segments (batches_of cut) new
  cut_runs retention events old new a cut is =
      open_segment g k laws old cut.committed new cut.segments cut.batches cut.calls a (record {
        goes = is.goes;
        calm = is.calm;
        content = is.content;
        last = cut.last;
        segments_made = cut.segments_made;
        made = cut.made;
        sound = sound_before cut.calls cut.committed new cut.calls_made is.sound;
      }) cut.calls_made is.sound

  pub are_the_policy : EventsAreThePolicy g k
  are_the_policy retention events old new a cut from =
      let runs = cut_runs retention events old new a cut from in
      record { runs = runs; unseen = λ proper goes look. segments_unseen k _ a _ _ _ proper runs goes look }

  pub are_known : EventsAreKnown g k
  are_known retention events old new n cut from =
      let runs = cut_runs retention events old new (empty_at n) cut from in
      record {
        numbered = λ b held. purged_numbered k _ n _ _ _ b runs held;
        known = λ goes b held. segments_aware k _ n _ _ _ b runs goes held;
      }
