-- Definitions of looking up the subscription that an entity references.
use Rattle.std.specs.Prelude.{◌≡◌, ℕ, ℤ, List, [], ◌∷◌, Option}
use Rattle.sqlite_value.specs.Order.{Row}
use Rattle.sqlite_value.specs.declared.value.Value.TheVariants.{Int}
use Rattle.sqlite_rules.specs.Lists.{Has}
use Rattle.sqlite.specs.Effect.{Database}
use Rattle.entity_core.specs.Airspace.{Airspace}
use Rattle.entity_core.specs.Entity.{subscription_of}
use Rattle.space_sql_schema.specs.Spelling.{Group, Spells}
use Rattle.space_sql_select.specs.Selecting.{Answers}
use Rattle.space_sql_lookup.specs.Texts.{naming_read, sub_id_read}

-- Holds if the rows are the result of querying `naming` by an entity's number.
abbrev pub AnswersNaming : ℤ → Database → List Row → Type 0
AnswersNaming num db rows = Answers naming_read (Int num ∷ []) db rows

-- Holds if the rows are the result of querying the id of the subscription with a number.
abbrev pub AnswersSubId : ℤ → Database → List Row → Type 0
AnswersSubId num db rows = Answers sub_id_read (Int num ∷ []) db rows

-- Holds if the result is the id of the subscription that the entity with the number references, if
-- any.
abbrev pub FindsNaming : ℤ → Database → Option ℕ → Type 0
FindsNaming num db found = (a : Airspace) (s : Spells db a) (g : Group) → Has s.groups g
    → g.row.num ≡ num → found ≡ subscription_of g.entity.nature
