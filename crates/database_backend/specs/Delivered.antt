-- The replies that a database gave, and those of its batches.
use Rattle.std.specs.Prelude.{◌≡◌, false, List, [], ◌∷◌, map, Option, Some, IfSome}
use Rattle.service_step.specs.declared.reply.Reply.{Reply}
use Rattle.service_calls.specs.Purged.{all_delivered_in}
use Rattle.space_core.specs.declared.group_commit.GroupCommit as commits
use Rattle.space_core.specs.declared.space.Space as spaces
use Rattle.server_backend.specs.BackendEvent.{BackendEvent}
use Rattle.server_backend.specs.Does.{DoesAll}
use Rattle.server_backend.specs.Phase.{Quiet, phase_at_end}
use Rattle.server_backend.specs.Told.{told_replies}
use Rattle.database_backend.specs.Batches.{CutBetween, batches_of}
use Rattle.database_backend.specs.Database.{IsQuiet, StepsAs, is_open_in, tickets_of, told_of}
use Rattle.database_backend.specs.declared.database.Database.{Database}

-- Holds if there is a delivered reply for each request, and each reply that was given is the one at
-- its place.
abbrev pub AreDelivered : (told : List (Option Reply)) → (delivered : List Reply) → Type 0
AreDelivered [] delivered = delivered ≡ []
AreDelivered (told ∷ more) [] = ⊥
AreDelivered (told ∷ more) (reply ∷ replies) =
    IfSome told (λ it. it ≡ reply) × AreDelivered more replies

module _ {S : Type 0} (g : spaces.Ghosts S) (k : commits.Ghosts S) where
  -- What is known of a cut of events: the replies that the database gave to its requests are those
  -- that its batches deliver, each at its place. If all outcomes were given, so is each reply. If
  -- no call was made since the last commit, all calls are in batches.
  pub record IsDelivered (events : List BackendEvent) (old new : Database S)
      (cut : CutBetween g k events old new) : Type 0 where
    pub told : AreDelivered (told_replies events) (all_delivered_in cut.segments (batches_of cut))
    pub all_told : told_of new ≡ tickets_of new → told_replies events
        ≡ map (λ reply. Some reply) (all_delivered_in cut.segments (batches_of cut))
    pub committed : is_open_in new ≡ false → cut.calls ≡ []

  -- States that the outcome under a ticket, with its draft, is the delivered reply of the call that
  -- was drafted. So what a client gets is what the policy speaks of.
  abbrev pub OutcomesAreDelivered : Type 0
  OutcomesAreDelivered = (events : List BackendEvent) (old new : Database S)
      → DoesAll (StepsAs g k) events old new → IsQuiet old
      → (cut : CutBetween g k events old new) × IsDelivered events old new cut

  -- States that all outcomes are given, and no call is left without a commit, after events that end
  -- the batch and give its outcomes after the last request.
  abbrev pub RoundsAreTold : Type 0
  RoundsAreTold = (events : List BackendEvent) (old new : Database S)
      → DoesAll (StepsAs g k) events old new → IsQuiet old → told_of old ≡ tickets_of old
      → phase_at_end events Quiet ≡ Quiet → IsQuiet new × (told_of new ≡ tickets_of new)
