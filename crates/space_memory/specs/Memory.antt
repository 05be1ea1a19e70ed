-- The content of an in-memory space.
use Rattle.std.specs.Prelude.{ℕ, ◌+◌, ◌<◌, ◌≤◌, IsSome}
use Rattle.std.specs.FinMap.{get}
use Rattle.entity_core.specs.Airspace.{Airspace}
use Rattle.entity_core.specs.Serial.{max_serial}
use Rattle.entity_maps.specs.Lists.{airspace_of}
use Rattle.space_core.specs.declared.space.Change.{Change}
use Rattle.space_core.specs.declared.space.Change.TheVariants.{Put, Remove, Avail, PutSub, RemoveSub}
use Rattle.space_memory.specs.declared.memory.MemorySpace.{MemorySpace}

abbrev pub content_of : MemorySpace → Airspace
content_of s = airspace_of s.entities s.subscriptions s.availabilities s.serial

-- The number of times that it returned `Unchanged`.
abbrev pub refusals_of : MemorySpace → ℕ
refusals_of s = s.refusals

-- Holds for an availability or a subscription that replaces an existing one.
abbrev pub IsOver : Change → Airspace → Type 0
IsOver (Put e) a = ⊥
IsOver (Remove kind id) a = ⊥
IsOver (Avail uss availability version) a = IsSome (get a.availabilities uss)
IsOver (PutSub s) a = IsSome (get a.subscriptions s.id)
IsOver (RemoveSub id) a = ⊥

-- Holds if the index of a subscription that is put is at most the serial.
abbrev pub IndexIsWithin : ℕ → Change → Type 0
IndexIsWithin serial (Put e) = Unit {0}
IndexIsWithin serial (Remove kind id) = Unit {0}
IndexIsWithin serial (Avail uss availability version) = Unit {0}
IndexIsWithin serial (PutSub s) = s.index ≤ serial
IndexIsWithin serial (RemoveSub id) = Unit {0}

-- Holds if an in-memory space can replicate the change: its serial can be incremented, and no index
-- exceeds it then.
pub record CanFollow (change : Change) (a : Airspace) : Type 0 where
  pub room : a.serial < max_serial
  pub within : IndexIsWithin (a.serial + 1) change
