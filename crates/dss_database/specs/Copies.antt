-- What is printed of a copy of a database.
use Rattle.std.specs.Prelude.{ℕ, List, Option, false}
use Rattle.sqlite.specs.Recovery.{Image}
use Rattle.entity_core.specs.Airspace.{Airspace}
use Rattle.service_recovery.specs.Life.{StandFor}
use Rattle.space_core.specs.declared.space.Space as spaces
use Rattle.dss_command.specs.Print.{WritesReport}

-- Holds if the output is the report of the airspace that the copied files represent. It applies as
-- long as the space over them is sound, as one over memory is.
abbrev pub ReportsCopy : {S : Type 0} → spaces.Ghosts S → Image → (before after : Option (List ℕ)) → S → Type 0
ReportsCopy space image before after k =
    space.is_sound k → (a : Airspace) → StandFor image a → WritesReport false a before after
