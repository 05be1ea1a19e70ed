-- Definitions of the numbers under which the tables store entities and subscriptions.
use Rattle.std.specs.Prelude.{ℕ, ℤ, List, [], ◌∷◌, map, IsSome}
use Rattle.std.specs.FinMap.{get}
use Rattle.sqlite_value.specs.declared.value.Value.TheVariants.{Int, Text}
use Rattle.sqlite_value.specs.Order.{Row, column}
use Rattle.sqlite_rules.specs.Lists.{Has}
use Rattle.sqlite.specs.Effect.{Database, IsDatabase}
use Rattle.entity_core.specs.EntityId.{printed}
use Rattle.entity_core.specs.Airspace.{Airspace, EntityKey}
use Rattle.space_core.specs.declared.batch.BatchChange.{BatchChange}
use Rattle.space_core.specs.Batch.{changed_all, changed_once}
use Rattle.space_rows.specs.Rows.{kind_number}
use Rattle.space_sql_schema.specs.Spelling.{Spells}
use Rattle.space_sql_schema.specs.Trees.{entity_tree, subscription_tree}

-- The number, kind and id of a row of `entity`.
abbrev pub entity_head : Row → Row
entity_head r = column r 0 ∷ column r 2 ∷ column r 3 ∷ []

-- Holds if a row of `entity` has this number, kind and id.
abbrev pub IsEntityAt : Database → EntityKey → ℤ → Type 0
IsEntityAt db k num =
    Has (map entity_head (db.trees entity_tree))
    (Int num ∷ Int (kind_number k.0) ∷ Text (printed k.1) ∷ [])

-- The number and id of a row of `subscription`.
abbrev pub sub_head : Row → Row
sub_head r = column r 0 ∷ column r 2 ∷ []

-- Holds if a row of `subscription` has this number and id.
abbrev pub IsSubAt : Database → ℕ → ℤ → Type 0
IsSubAt db id num =
    Has (map sub_head (db.trees subscription_tree)) (Int num ∷ Text (printed id) ∷ [])

-- Holds if each entity and each subscription that exists before and after keeps its number, even if
-- it is stored anew.
pub record KeepsNumbers (before after : Airspace) (old new : Database) : Type 0 where
  pub entities : (k : EntityKey) → IsSome (get before.entities k) → IsSome (get after.entities k)
      → (num : ℤ) → IsEntityAt old k num → IsEntityAt new k num
  pub subscriptions : (id : ℕ) → IsSome (get before.subscriptions id)
      → IsSome (get after.subscriptions id) → (num : ℤ) → IsSubAt old id num → IsSubAt new id num

-- Holds if the database represents the airspace after the change, its rows obey the schema, and
-- each item that exists before and after keeps its number.
abbrev pub Makes : (before after : Airspace) → Database → Database → Type 0
Makes before after old new =
    Spells new after × IsDatabase new × KeepsNumbers before after old new

-- ---- batches of changes

-- Holds if an airspace, and each one that the changes of a batch lead to, has P.
abbrev pub Throughout : (Airspace → Type 0) → List BatchChange → Airspace → Type 0
Throughout P [] a = P a
Throughout P (c ∷ cs) a = P a × Throughout P cs (changed_once c a)

-- Holds if each entity and each subscription that exists before a batch and after each of its
-- changes keeps its number.
pub record KeepsNumbersThroughout (batch : List BatchChange) (a : Airspace) (old new : Database)
    : Type 0 where
  pub entities : (k : EntityKey) → Throughout (λ b. IsSome (get b.entities k)) batch a → (num : ℤ)
      → IsEntityAt old k num → IsEntityAt new k num
  pub subscriptions : (id : ℕ) → Throughout (λ b. IsSome (get b.subscriptions id)) batch a
      → (num : ℤ) → IsSubAt old id num → IsSubAt new id num

-- Holds if a database is the result of a batch of changes, as `Makes` says for one change.
abbrev pub MakesAll : List BatchChange → Airspace → Database → Database → Type 0
MakesAll batch a old new =
    Spells new (changed_all batch a) × IsDatabase new × KeepsNumbersThroughout batch a old new
