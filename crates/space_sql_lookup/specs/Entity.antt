-- Definitions of looking up one entity, by its kind and id or by its number.
use Rattle.std.specs.Prelude.{◌≡◌, ℤ, List, [], ◌∷◌, Option, Some, IfSome}
use Rattle.std.specs.FinMap.{get}
use Rattle.sqlite_value.specs.Order.{Row}
use Rattle.sqlite_value.specs.declared.value.Value.TheVariants.{Int, Text}
use Rattle.sqlite_rules.specs.Lists.{Has}
use Rattle.sqlite.specs.Effect.{Database}
use Rattle.entity_core.specs.declared.entity.Entity.{Entity}
use Rattle.entity_core.specs.Airspace.{Airspace, EntityKey}
use Rattle.entity_core.specs.EntityId.{printed}
use Rattle.space_rows.specs.Rows.{kind_number}
use Rattle.space_sql_schema.specs.Spelling.{Group, Spells}
use Rattle.space_sql_select.specs.Selecting.{Answers}
use Rattle.space_sql_lookup.specs.Texts.{head_read, numbered_read}

-- Holds if the rows are the result of querying `entity` by a kind and an id.
abbrev pub AnswersNamed : EntityKey → Database → List Row → Type 0
AnswersNamed k db rows =
    Answers head_read (Int (kind_number k.0) ∷ Text (printed k.1) ∷ []) db rows

-- Holds if the result is the entity with the kind and id, in the airspace that the tables
-- represent, if they represent one.
abbrev pub FindsNamed : EntityKey → Database → Option Entity → Type 0
FindsNamed k db found = (a : Airspace) → Spells db a → found ≡ get a.entities k

-- Holds if the rows are the result of querying `entity` by a number.
abbrev pub AnswersNumber : ℤ → Database → List Row → Type 0
AnswersNumber num db rows = Answers numbered_read (Int num ∷ []) db rows

-- Holds if the result is the entity whose rows have the number, or none if no rows have it.
pub record IsNumbered (num : ℤ) (gs : List Group) (found : Option Entity) : Type 0 where
  pub own : (g : Group) → Has gs g → g.row.num ≡ num → found ≡ Some g.entity
  pub kept : IfSome found (λ e. (g : Group) × Has gs g × (g.row.num ≡ num) × (g.entity ≡ e))

-- Holds if the result is the entity with the number, in the airspace that the tables represent, if
-- they represent one.
abbrev pub FindsNumbered : ℤ → Database → Option Entity → Type 0
FindsNumbered num db found = (a : Airspace) (s : Spells db a) → IsNumbered num s.groups found
