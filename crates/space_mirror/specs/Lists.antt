-- The effect of a batch on the store and on the mirror.
use Rattle.std.specs.Prelude.{◌≡◌, true, List, Option, None, Result, Ok, Err, OnOk, IsErrOf, ◌⊎◌, ◌↔◌}
use Rattle.entity_core.specs.Airspace.{Airspace}
use Rattle.space_core.specs.declared.batch.BatchChange.{BatchChange}
use Rattle.space_core.specs.declared.space.Space.{Ghosts}
use Rattle.space_core.specs.declared.space.SpaceFault.{SpaceFault}
use Rattle.space_core.specs.declared.space.SpaceFault.TheVariants.{Unchanged, Broken}
use Rattle.space_core.specs.Batch.{changed_all}
use Rattle.space_core.specs.Space.{IsContent, is_broken_after}
use Rattle.space_memory.specs.declared.memory.MemorySpace.{MemorySpace}
use Rattle.space_mirror.specs.declared.mirror_state.MirrorState.{MirrorState}
use Rattle.space_mirror.specs.declared.mirror_state.MirrorState.TheVariants.{Steady, Full, Dropped, RebuildDue}

-- Holds if applying a batch has its effects on the store: all of the batch is applied, or nothing.
pub record Making {S T : Type 0} (g : Ghosts S) (old new : S) (batch : List BatchChange)
    (result : Result T SpaceFault) : Type 0 where
  pub breaks : g.is_broken new ≡ is_broken_after (g.is_broken old) result
  pub stays_broken : g.is_broken old ≡ true → IsErrOf result Broken
  pub sound : g.is_sound new → g.is_sound old
  pub whole : g.is_sound new → g.is_whole old → g.is_whole new
  pub done : g.is_sound new → OnOk result ((a : Airspace) → g.holds old a
      → IsContent g.holds new (changed_all batch a))
  pub refused : g.is_sound new → IsErrOf result Unchanged → (a : Airspace)
      → g.holds old a ↔ g.holds new a
  pub no_other : g.is_sound new → (b : Airspace) → g.holds new b
      → g.holds old b ⊎ ((a : Airspace) × g.holds old a × (b ≡ changed_all batch a))

-- Holds if the mirror, unless it is full, and its state are right after the store's result. After
-- `Ok` both stay. After `Unchanged` the mirror is dropped and can be rebuilt. After `Broken` it is
-- dropped for good.
abbrev pub StaysOrDrops : {T : Type 0} → Result T SpaceFault → (mirror mirror' : Option MemorySpace)
    → (state state' : MirrorState) → Type 0
StaysOrDrops (Ok x) mirror mirror' state state' = (mirror' ≡ mirror) × (state' ≡ state)
StaysOrDrops (Err Unchanged) mirror mirror' state state' = (mirror' ≡ None) × (state' ≡ Dropped)
StaysOrDrops (Err Broken) mirror mirror' state state' = (mirror' ≡ None) × (state' ≡ Steady)

-- The same for each state. A full mirror is dropped for good, whatever the result.
abbrev pub MirrorStays : {T : Type 0} → Result T SpaceFault → (mirror mirror' : Option MemorySpace)
    → (state state' : MirrorState) → Type 0
MirrorStays result mirror mirror' Steady state' = StaysOrDrops result mirror mirror' Steady state'
MirrorStays result mirror mirror' Full state' = (mirror' ≡ None) × (state' ≡ Steady)
MirrorStays result mirror mirror' Dropped state' = StaysOrDrops result mirror mirror' Dropped state'
MirrorStays result mirror mirror' RebuildDue state' =
    StaysOrDrops result mirror mirror' RebuildDue state'

-- The state after the store's result for a change that it applies at once. After `Ok`, a dropped
-- mirror is due to be rebuilt.
abbrev pub state_after_change : {T : Type 0} → Result T SpaceFault → MirrorState → MirrorState
state_after_change result Steady = Steady
state_after_change result Full = Full
state_after_change (Ok x) Dropped = RebuildDue
state_after_change (Err fault) Dropped = Dropped
state_after_change result RebuildDue = RebuildDue

-- The state after the store's result for a purge. After `Broken`, there is no mirror for good.
abbrev pub state_after_purge : {T : Type 0} → Result T SpaceFault → MirrorState → MirrorState
state_after_purge (Ok x) state = state
state_after_purge (Err Unchanged) state = state
state_after_purge (Err Broken) state = Steady
