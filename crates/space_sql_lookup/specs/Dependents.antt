-- Definitions of looking up the entities that reference a subscription.
use Rattle.std.specs.Prelude.{◌≡◌, ℕ, ℤ, List, [], ◌∷◌}
use Rattle.std.specs.List.{AllZip}
use Rattle.sqlite_value.specs.Order.{Row}
use Rattle.sqlite_value.specs.declared.value.Value.TheVariants.{Int, Text}
use Rattle.sqlite_rules.specs.Lists.{Has}
use Rattle.sqlite.specs.Effect.{Database}
use Rattle.entity_core.specs.Airspace.{Airspace}
use Rattle.entity_core.specs.EntityId.{printed}
use Rattle.entity_core.specs.Search.{dependents_in}
use Rattle.space_sql_schema.specs.Spelling.{Group, Spells}
use Rattle.space_sql_select.specs.Selecting.{Answers}
use Rattle.space_sql_lookup.specs.Texts.{id_read, namers_read, sub_num_read}

-- Holds if the rows are the result of querying a subscription's number by its id.
abbrev pub AnswersSubNum : ℕ → Database → List Row → Type 0
AnswersSubNum id db rows = Answers sub_num_read (Text (printed id) ∷ []) db rows

-- Holds if the rows are the result of querying the numbers of the entities that reference the
-- subscription with a number.
abbrev pub AnswersNamers : ℤ → Database → List Row → Type 0
AnswersNamers num db rows = Answers namers_read (Int num ∷ []) db rows

-- Holds if the rows are the result of querying an entity's id by its number.
abbrev pub AnswersId : ℤ → Database → List Row → Type 0
AnswersId num db rows = Answers id_read (Int num ∷ []) db rows

-- Holds if the id is that of the entity whose rows have the number.
abbrev pub IsIdOf : List Group → ℤ → ℕ → Type 0
IsIdOf gs num id = (g : Group) → Has gs g → g.row.num ≡ num → id ≡ g.entity.id

-- Holds if the id is that of the entity with the number, in the airspace that the tables represent,
-- if they represent one.

abbrev pub FindsId : ℤ → Database → ℕ → Type 0
FindsId num db id = (a : Airspace) (s : Spells db a) → IsIdOf s.groups num id

-- Holds if the ids are those of the entities whose rows have the numbers, one by one.
abbrev pub FindsIds : List ℤ → Database → List ℕ → Type 0
FindsIds numbers db ids = (a : Airspace) (s : Spells db a) → AllZip (IsIdOf s.groups) numbers ids

-- Holds if the ids are those of the entities that reference the subscription with an id, in
-- ascending order.
abbrev pub FindsDependents : ℕ → Database → List ℕ → Type 0
FindsDependents id db found = (a : Airspace) → Spells db a → found ≡ dependents_in a.entities id
