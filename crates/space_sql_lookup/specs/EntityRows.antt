-- Definitions of the rows of one entity, and the entity that they represent.
use Rattle.std.specs.Prelude.{◌≡◌, ℤ, List, [], ◌∷◌, Option, Some, None}
use Rattle.sqlite_value.specs.Order.{Row}
use Rattle.sqlite_value.specs.declared.value.Value.TheVariants.{Int}
use Rattle.sqlite_rules.specs.Lists.{Has}
use Rattle.sqlite.specs.Effect.{Database}
use Rattle.entity_core.specs.declared.entity.Entity.{Entity}
use Rattle.entity_core.specs.Airspace.{Airspace}
use Rattle.space_sql_schema.specs.Spelling.{Group, Spells, entity_values}
use Rattle.space_sql_select.specs.Selecting.{Answers}
use Rattle.space_sql_lookup.specs.Naming.{FindsNaming}
use Rattle.space_sql_lookup.specs.Texts.{own_cells_read, own_volumes_read}
use Rattle.space_sql_lookup.specs.declared.entity_rows.OwnRows.{OwnRows}

-- Holds if the rows are the result of querying `volume` by a number. `AnswersCells` says so of
-- `cell`.
abbrev pub AnswersVolumes : ℤ → Database → List Row → Type 0
AnswersVolumes num db rows = Answers own_volumes_read (Int num ∷ []) db rows

abbrev pub AnswersCells : ℤ → Database → List Row → Type 0
AnswersCells num db rows = Answers own_cells_read (Int num ∷ []) db rows

-- Holds if the rows are the result of the further queries by an entity's number.
pub record AnswersOwn (num : ℤ) (db : Database) (rows : OwnRows) : Type 0 where
  pub volumes : AnswersVolumes num db rows.volumes.items
  pub cells : AnswersCells num db rows.cells.items
  pub named : FindsNaming num db rows.named

-- Holds if the result is the entity of the row of `entity`, if there is one.
pub record IsOfHead (heads : List Row) (gs : List Group) (found : Option Entity) : Type 0 where
  pub none : heads ≡ [] → found ≡ None
  pub own : (g : Group) → Has gs g → heads ≡ entity_values g.row ∷ [] → found ≡ Some g.entity

-- Holds if the result is right for the airspace that the tables represent, if they represent one.
abbrev pub FindsOfHead : List Row → Database → Option Entity → Type 0
FindsOfHead heads db found = (a : Airspace) (s : Spells db a) → IsOfHead heads s.groups found
