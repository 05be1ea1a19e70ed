-- What `report` prints of an airspace, and `purge` of what it purged.
use Rattle.std.specs.Prelude.{ℕ, ◌++◌, Bool, true, false, List, Option, codes, decimal}
use Rattle.std.specs.Io.KnownBytes.{Appends}
use Rattle.entity_core.specs.Airspace.{Airspace}
use Rattle.dss_report.specs.CellLines.{IsPlacesOf}
use Rattle.dss_report.specs.Report.{report_of}
use Rattle.dss_command.specs.declared.purged.PurgeCounts.{PurgeCounts}

-- Holds if the lines of the cells of its references are written.
abbrev pub WritesPlaces : Airspace → (before after : Option (List ℕ)) → Type 0
WritesPlaces a before after = (text : List ℕ) × IsPlacesOf a text × Appends before after text

-- Holds if those lines are written, or otherwise its report.
abbrev pub WritesReport : Bool → Airspace → (before after : Option (List ℕ)) → Type 0
WritesReport true a before after = WritesPlaces a before after
WritesReport false a before after = Appends before after (report_of a)

-- The line that reports what was purged.
abbrev pub purged_line : PurgeCounts → List ℕ
purged_line purged =
    codes "purged " ++ (decimal purged.intents
    ++ (codes " intents, " ++ (decimal purged.constraints
    ++ (codes " constraints, " ++ (decimal purged.subscriptions ++ codes " subscriptions\n")))))
