-- Definitions of what the table `meta` says.
use Rattle.std.specs.Prelude.{◌≡◌, ◌≢◌, ℕ, pos, ◌≤◌, List, [], ◌∷◌, map}
use Rattle.sqlite_value.specs.declared.value.Value.{Value}
use Rattle.sqlite_value.specs.declared.value.Value.TheVariants.{Int}
use Rattle.sqlite_value.specs.Order.{Row}
use Rattle.sqlite.specs.Effect.{Database}
use Rattle.entity_core.specs.Serial.{max_serial}
use Rattle.space_sql_schema.specs.Spelling.{meta_columns, meta_values}
use Rattle.space_sql_schema.specs.Trees.{meta_tree}
use Rattle.space_sql_select.specs.declared.meta.Meta.{Meta}
use Rattle.space_sql_select.specs.declared.meta.Meta.TheVariants.{Ours, Other, Neither}
use Rattle.space_sql_select.specs.Reading.{ShowsAll}

-- Holds if `meta` has one row, and its format is neither 1 nor 2.
pub record IsOtherFormat (db : Database) : Type 0 where
  pub one : Value
  pub format : Value
  pub serial : Value
  pub only : map meta_columns (db.trees meta_tree) ≡ (one ∷ format ∷ serial ∷ []) ∷ []
  pub not_one : format ≢ Int (pos 1)
  pub not_two : format ≢ Int (pos 2)

abbrev pub ShowsMeta : Database → List Row → Type 0
ShowsMeta db rows = ShowsAll meta_columns meta_tree db rows

-- Holds if there is one row, and its format is neither 1 nor 2.
pub record AreOtherFormat (rows : List Row) : Type 0 where
  pub one : Value
  pub format : Value
  pub serial : Value
  pub only : rows ≡ (one ∷ format ∷ serial ∷ []) ∷ []
  pub not_one : format ≢ Int (pos 1)
  pub not_two : format ≢ Int (pos 2)

-- Holds if the rows of `meta` say this.
abbrev pub IsMeta : List Row → Meta → Type 0
IsMeta rows (Ours serial) = (rows ≡ meta_values 2 serial ∷ []) × (serial ≤ max_serial)
IsMeta rows Other = AreOtherFormat rows
IsMeta rows Neither = ((serial : ℕ) → rows ≢ meta_values 2 serial ∷ []) × ¬ AreOtherFormat rows
