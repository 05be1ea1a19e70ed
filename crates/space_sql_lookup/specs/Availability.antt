-- Definitions of looking up the availability that a USS set.
use Rattle.std.specs.Prelude.{◌≡◌, ℕ, List, [], ◌∷◌, Option, Some, None}
use Rattle.std.specs.FinMap.{get}
use Rattle.sqlite_value.specs.Order.{Row}
use Rattle.sqlite_value.specs.declared.value.Value.TheVariants.{Text}
use Rattle.sqlite.specs.Effect.{Database}
use Rattle.entity_core.specs.Airspace.{Airspace, VersionedAvailability}
use Rattle.space_sql_schema.specs.Spelling.{Spells, availability_values}
use Rattle.space_sql_select.specs.Selecting.{Answers}
use Rattle.space_sql_lookup.specs.Texts.{availability_read}

-- Holds if the rows are the result of querying `availability` for a USS.
abbrev pub AnswersStated : List ℕ → Database → List Row → Type 0
AnswersStated uss db rows = Answers availability_read (Text uss ∷ []) db rows

-- Holds if the result is the availability of the USS in the airspace that the tables represent, if
-- they represent one.
abbrev pub FindsStated : List ℕ → Database → Option VersionedAvailability → Type 0
FindsStated uss db found = (a : Airspace) → Spells db a → found ≡ get a.availabilities uss

-- The row of `availability` of a USS that set this, if it set anything.
abbrev pub rows_of_setting : List ℕ → Option VersionedAvailability → List Row
rows_of_setting uss None = []
rows_of_setting uss (Some stated) = availability_values (uss, stated) ∷ []
