-- Properties of a run on an empty airspace.
use Rattle.std.specs.Prelude.{◌≡◌, ℕ, false, List}
use Rattle.entity_core.specs.Airspace.{Airspace, empty_at}
use Rattle.space_core.specs.Space.{IsContent}
use Rattle.space_core.specs.declared.space.Space.{Ghosts}
use Rattle.service_calls.specs.declared.service.Service.{Service}
use Rattle.service_calls.specs.Aware.{Aware}
use Rattle.service_calls.specs.Count.{Counts}
use Rattle.service_calls.specs.Held.{is_shut, salt_of, space_of}
use Rattle.service_calls.specs.Run.{TimedCall, has_stopped}
use Rattle.service_calls.specs.Stale.{AllNumbered}
use Rattle.service_step.specs.declared.reply.Reply.{Reply}

-- Holds if each entity has the OVN of its own serial after a run on an empty airspace, which can
-- have any serial.
abbrev pub RunIsNumbered : {S : Type 0} → Ghosts S → Service S → Service S → Type 0
RunIsNumbered g old new = g.is_sound (space_of new)
    → (n : ℕ) → IsContent g.holds (space_of old) (empty_at n)
    → (a : Airspace) → g.holds (space_of new) a → AllNumbered (salt_of old) a

module _ {S : Type 0} (g : Ghosts S) (old : Service S) (cs : List TimedCall) (rs : List Reply)
    (new : Service S) where
  -- Holds if P relates the empty airspace before the run to each airspace that the space may hold
  -- after it. Assumes that the service was not shut and no reply is `Stopped`. The empty airspace
  -- can have any serial.
  abbrev pub FromEmpty : (Airspace → Airspace → Type 0) → Type 0
  FromEmpty P = is_shut old ≡ false → g.is_sound (space_of new) → has_stopped rs ≡ false
      → (n : ℕ) → IsContent g.holds (space_of old) (empty_at n)
      → (a : Airspace) → g.holds (space_of new) a → P (empty_at n) a

  -- Holds if of two meeting entities, the last put of the later one knew the other.
  abbrev pub RunIsAware : Type 0
  RunIsAware = FromEmpty (λ empty a. Aware (salt_of old) empty cs rs a)

  -- Holds if the index of each subscription is the number of calls that notified it.
  abbrev pub RunIsCounted : Type 0
  RunIsCounted = FromEmpty (λ empty a. Counts (salt_of old) empty cs rs a)
