-- The report of an airspace, as text.
use Rattle.std.specs.Prelude.{ℕ, ◌-◌, List, ◌++◌, codes, decimal, length, map}
use Rattle.std.specs.List.{concat, repeat}
use Rattle.grid_core.specs.Volumes.{span_of}
use Rattle.entity_core.specs.Airspace.{Airspace}
use Rattle.entity_core.specs.Entity.{kind_of, state_name}
use Rattle.entity_core.specs.EntityId.{printed}
use Rattle.entity_core.specs.Search.{all_in}
use Rattle.entity_core.specs.declared.entity.Entity.{Entity}
use Rattle.entity_core.specs.declared.nature.Kind.{Kind}
use Rattle.entity_core.specs.declared.nature.Kind.TheVariants as kind
use Rattle.entity_core.specs.declared.nature.Nature.{Nature}
use Rattle.entity_core.specs.declared.nature.Nature.TheVariants as nature
use Rattle.dss_report.specs.declared.contents.Contents.{Contents}

-- ---- columns

abbrev pub spaces : ℕ → List ℕ
spaces n = repeat n (codes " ")

-- A text at the left of a column of that width, if it fits.
abbrev pub left_in : ℕ → List ℕ → List ℕ
left_in width text = text ++ spaces (width - length text)

-- A text at the right of a column of that width, if it fits.
abbrev pub right_in : ℕ → List ℕ → List ℕ
right_in width text = spaces (width - length text) ++ text

-- ---- a line

abbrev pub kind_text : Kind → List ℕ
kind_text kind.Intent = codes "intent"
kind_text kind.Constraint = codes "constraint"

-- The state of an intent; `-` for a constraint.
abbrev pub state_text : Nature → List ℕ
state_text (nature.Intent state named) = state_name state
state_text nature.Constraint = codes "-"

-- The kind, id, version and state, separated by spaces.
abbrev pub front_of : Entity → List ℕ
front_of e =
    left_in 10 (kind_text (kind_of e.nature))
    ++ (codes " " ++ (printed e.id
    ++ (codes " " ++ (right_in 10 (decimal e.version)
    ++ (codes " " ++ left_in 13 (state_text e.nature))))))

-- The line of an entity: those columns, the first and last time, the manager, and a line end.
abbrev pub line_of : Entity → List ℕ
line_of e =
    front_of e
    ++ (codes " " ++ (right_in 12 (decimal (span_of e.volumes).0)
    ++ (codes " " ++ (right_in 12 (decimal (span_of e.volumes).1)
    ++ (codes " " ++ (e.manager ++ codes "\n"))))))

-- ---- the report

abbrev pub lines_of : List Entity → List ℕ
lines_of es = concat (map line_of es)

abbrev pub serial_line : ℕ → List ℕ
serial_line serial = codes "serial " ++ (decimal serial ++ codes "\n")

-- A line for each intent by ascending id, then for each constraint by ascending id, and the serial
-- last.
abbrev pub report_of : Airspace → List ℕ
report_of a =
    lines_of (all_in a.entities kind.Intent)
    ++ (lines_of (all_in a.entities kind.Constraint)
    ++ serial_line a.serial)

-- The report of what was read.
abbrev pub text_of : Contents → List ℕ
text_of kept =
    lines_of kept.intents.items ++ (lines_of kept.constraints.items ++ serial_line kept.serial)
