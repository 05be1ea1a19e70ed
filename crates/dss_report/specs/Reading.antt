-- What a report leaves of a space, and returns of it.
use Rattle.std.specs.Prelude.{◌≡◌, ◌⊎◌, true, Result, IfOk, MatchResult}
use Rattle.entity_core.specs.Airspace.{Airspace}
use Rattle.entity_core.specs.Search.{all_in}
use Rattle.entity_core.specs.declared.nature.Kind.TheVariants.{Intent, Constraint}
use Rattle.space_core.specs.declared.space.Space.{Ghosts}
use Rattle.dss_report.specs.Fault.{IsReportFaultOf}
use Rattle.dss_report.specs.declared.fault.ReportFault.{ReportFault}
use Rattle.dss_report.specs.declared.contents.Contents.{Contents}

-- Holds if these contents are all that a report needs of the airspace.
abbrev pub AreContentsOf : Airspace → Contents → Type 0
AreContentsOf a kept =
    (kept.intents.items ≡ all_in a.entities Intent)
    × (kept.constraints.items ≡ all_in a.entities Constraint)
    × (kept.serial ≡ a.serial)

-- States that the result has the property P for each airspace that the space may hold. The space
-- holds the same airspace as before, and a broken space holds no other. A whole space stays whole.
-- A fault of the space is returned only if the space returned one.
pub record Reports {S T : Type 0} (g : Ghosts S) (old new : S) (result : Result T ReportFault)
    (P : Airspace → T → Type 0) : Type 0 where
  pub sound : g.is_sound new → g.is_sound old
  pub whole : g.is_sound new → g.is_whole old → g.is_whole new
  pub stays : g.is_sound new
      → (g.is_broken new ≡ true) ⊎ ((a : Airspace) → g.holds old a → g.holds new a)
  pub no_other : g.is_sound new → (a : Airspace) → g.holds new a → g.holds old a
  pub answer : g.is_sound new → IfOk result (λ found. (a : Airspace) → g.holds old a → P a found)
  pub told : MatchResult result
      (λ _. (g.refusals new ≡ g.refusals old) × (g.is_broken new ≡ g.is_broken old))
      (λ fault. IsReportFaultOf fault (g.refusals old) (g.refusals new) (g.is_broken old) (g.is_broken new))
