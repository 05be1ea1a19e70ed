-- What a purge leaves of a space, and what it returns.
use Rattle.std.specs.Prelude.{◌≡◌, ℕ, IsErr, MatchResult, Result, true}
use Rattle.entity_core.specs.Airspace.{Airspace}
use Rattle.entity_purge.specs.Purge.{IsPartlyPurged, purged}
use Rattle.space_core.specs.Space.{IsContent}
use Rattle.space_core.specs.declared.space.Space.{Ghosts}
use Rattle.space_core.specs.declared.space.SpaceFault.{SpaceFault}
use Rattle.dss_command.specs.PurgeCounts.{IsLess}
use Rattle.dss_command.specs.declared.purged.PurgeCounts.{PurgeCounts}

-- What a purge with this result leaves of the airspace. After `Ok` the space holds exactly the
-- purged airspace, and the counts are the difference. After a fault it holds only a partly purged
-- state, or the unchanged airspace.
abbrev pub LeavesPurged : {S : Type 0} → (S → Airspace → Type 0) → ℕ → Airspace → S
    → Result PurgeCounts SpaceFault → Type 0
LeavesPurged Holds until a new result =
    MatchResult result
    (λ told. IsContent Holds new (purged until a) × IsLess a (purged until a) told)
    (λ _. (b : Airspace) → Holds new b → IsPartlyPurged until a b)

-- States that a space was purged up to a time, completely or partly. Nothing was purged from a
-- broken space, and the result is a fault.
pub record PurgesSpace {S : Type 0} (g : Ghosts S) (until : ℕ) (old new : S)
    (result : Result PurgeCounts SpaceFault) : Type 0 where
  pub sound : g.is_sound new → g.is_sound old
  pub whole : g.is_sound new → g.is_whole old → g.is_whole new
  pub left : g.is_sound new → (a : Airspace) → IsContent g.holds old a
      → LeavesPurged g.holds until a new result
  pub stays_broken : g.is_broken old ≡ true → IsErr result
  pub frozen : g.is_sound new → g.is_broken old ≡ true → (b : Airspace) → g.holds new b
      → g.holds old b
