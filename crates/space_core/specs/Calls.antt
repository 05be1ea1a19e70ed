-- The results and effects of the calls of a space, stated with all of its trait.
use Rattle.std.specs.Prelude.{Result}
use Rattle.entity_core.specs.Airspace.{Airspace}
use Rattle.space_core.specs.declared.space.Space.{Ghosts}
use Rattle.space_core.specs.declared.space.SpaceFault.{SpaceFault}
use Rattle.space_core.specs.GroupCommit.{CommitEffect}
use Rattle.space_core.specs.Space.{Changes, Reads, ReportsFaultBy}

-- Holds if P holds for each airspace that a sound space can hold.
abbrev pub ForEachHeld : {S : Type 0} → Ghosts S → S → (Airspace → Type 0) → Type 0
ForEachHeld g s P = g.is_sound s → (a : Airspace) → g.holds s a → P a

module _ {S T : Type 0} (g : Ghosts S) (old new : S) (result : Result T SpaceFault) where
  -- States how a call reports faults.
  abbrev pub CallReportsFault : Type 0
  CallReportsFault = ReportsFaultBy g.refusals g.is_broken old new result

  -- States that a call reads: its result has P for each visible airspace.
  abbrev pub CallReads : (Airspace → T → Type 0) → Type 0
  CallReads P = Reads g.holds g.is_sound g.is_whole old new result P

  -- States that a call makes a change.
  abbrev pub CallChanges : (Airspace → Airspace) → Type 0
  CallChanges change =
      Changes g.holds g.is_sound g.is_whole (g.is_broken old) old new result change

  -- States that a call commits all pending changes or none.
  abbrev pub CallCommits : (S → Airspace → Type 0) → Type 0
  CallCommits Keeps = CommitEffect g.holds Keeps g.is_sound g.is_whole old new result
