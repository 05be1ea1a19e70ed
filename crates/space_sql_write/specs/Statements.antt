-- Definitions of the effects of statements in a transaction.
use Rattle.std.specs.Prelude.{◌≡◌, ℕ, ℤ, Bool, true, ◌&&◌, IsTrue, List, [], ◌∷◌, map, filter, Option, Result, IfOk, MatchOption, IsPermutation}
use Rattle.std.specs.Ordering.{int_eq, eq_by_cmp}
use Rattle.sqlite_value.specs.declared.value.Value.TheVariants.{Int}
use Rattle.sqlite_value.specs.Order.{Row, column}
use Rattle.sqlite_rules.specs.Lists.{Has}
use Rattle.sqlite.specs.Effect.{Database, IsDatabase}
use Rattle.sqlite.specs.State.{State, HasCleanDisk, KeepsCommit, Survives}
use Rattle.sqlite.specs.declared.error.Error.{Error}
use Rattle.entity_core.specs.Airspace.{Airspace, EntityKey, text_cmp}
use Rattle.entity_purge.specs.declared.purge_item.PurgeItem.{PurgeItem}
use Rattle.entity_purge.specs.PurgeItem.{CanPurgeAll, CanPurge, without_items, without_item}
use Rattle.space_core.specs.declared.batch.BatchChange.{BatchChange}
use Rattle.space_core.specs.declared.space.Change.{Change}
use Rattle.space_core.specs.Batch.{FitAll}
use Rattle.space_core.specs.Space.{Fits, changed}
use Rattle.space_rows.specs.declared.rows.EntityRow.{EntityRow}
use Rattle.space_rows.specs.Finds.{Finds}
use Rattle.space_sql_schema.specs.Spelling.{Spells, IsSubNumber}
use Rattle.space_sql_write.specs.Numbering.{Makes, MakesAll}
use Rattle.space_sql_write.specs.Layout.{Layout, LaysOut, IsNumberOf, Relays, has_id}

-- Holds if the transaction stays open, and the last commit stays.
pub record GoesOn (old new : State) : Type 0 where
  pub inside : new.in_transaction ≡ true
  pub committed : new.committed ≡ old.committed

-- Holds if R relates the result of statements in an open transaction, the database before them, and
-- the one after them. Whatever the result, the last commit stays. A crash leaves what it would have
-- left before.
pub record Runs {X : Type 0} (R : X → Database → Database → Type 0) (old new : State)
    (result : Result X Error) : Type 0 where
  pub done : HasCleanDisk new → IsTrue old.in_transaction
      → IfOk result (λ x. R x old.now new.now × GoesOn old new)
  pub kept : HasCleanDisk new → IsTrue old.in_transaction → KeepsCommit old new
  pub survives : Survives old new (λ _. ⊥)

-- Returns true if a row of `entity` has this kind and id.
abbrev pub is_of : ℤ → List ℕ → EntityRow → Bool
is_of kind id row = int_eq row.kind kind && eq_by_cmp text_cmp row.id id

-- The numbers of the rows that pass a test, as a query shows them.
abbrev pub numbers_of : {R : Type 0} → (R → ℤ) → (R → Bool) → List R → List Row
numbers_of number passes rows = map (λ r. Int (number r) ∷ []) (filter passes rows)

-- Holds if these numbers of the rows of a table are shown, in any order, and the tables stay the
-- same.
abbrev pub ShowsNumbers : {R : Type 0} → (Layout → List R) → (R → ℤ) → (R → Bool) → List Row
    → Database → Database → Type 0
ShowsNumbers rows number passes shown old new =
    (l : Layout) → LaysOut old l
    → (new ≡ old) × IsPermutation (numbers_of number passes (rows l)) shown

-- Holds if the numbers of the entities with a kind and an id are shown.
abbrev pub ShowsEntities : ℤ → List ℕ → List Row → Database → Database → Type 0
ShowsEntities kind id = ShowsNumbers (λ l. l.entities) (λ e. e.num) (is_of kind id)

-- Holds if the numbers of the subscriptions with an id are shown.
abbrev pub ShowsSubs : List ℕ → List Row → Database → Database → Type 0
ShowsSubs id = ShowsNumbers (λ l. l.subs) (λ s. s.num) (has_id id)

-- Holds if the result is one of the shown numbers, or none if none is shown.
abbrev pub IsShown : List Row → Option ℤ → Type 0
IsShown shown found =
    MatchOption found (shown ≡ []) (λ num. (row : Row) × Has shown row × (column row 0 ≡ Int num))

-- Holds if the result is the number of an entity, if the tables have it, and the tables stay the
-- same.
abbrev pub FindsNumber : EntityKey → Option ℤ → Database → Database → Type 0
FindsNumber k found old new =
    (a : Airspace) (p : Spells old a)
    → (new ≡ old) × Finds (λ num. IsNumberOf num k p.groups) found

-- Holds if the result is the number of a subscription, if the tables have it, and the tables stay
-- the same.
abbrev pub FindsSubNumber : ℕ → Option ℤ → Database → Database → Type 0
FindsSubNumber id found old new =
    (a : Airspace) (p : Spells old a)
    → (new ≡ old) × Finds (λ num. IsSubNumber p.subs num id) found

-- Holds if the rows are changed, and obey the schema afterwards.
abbrev pub RelaysSound : (P : Layout → Type 0) (change : Layout → Layout)
    → Database → Database → Type 0
RelaysSound P change old new =
    Relays P change old new × ((l : Layout) → P l → LaysOut old l → IsDatabase new)

-- Holds if a change that fits and may notify these subscriptions is made in any airspace that the
-- tables represented.
abbrev pub MakesChange : Change → List ℕ → Database → Database → Type 0
MakesChange change told old new =
    (a : Airspace) → Spells old a → Fits change told a
    → Makes a (changed change told a) old new

-- Holds if all changes of a batch are made in any airspace that the tables represented. Each change
-- must fit the airspace that the previous ones leave.
abbrev pub MakesBatch : List BatchChange → Database → Database → Type 0
MakesBatch batch old new =
    (a : Airspace) → Spells old a → FitAll batch a → MakesAll batch a old new

-- The same for changes that can be none, if the rows obeyed the schema.
abbrev pub MakesRest : List BatchChange → Database → Database → Type 0
MakesRest batch old new =
    (a : Airspace) → Spells old a → FitAll batch a → IsDatabase old → MakesAll batch a old new

-- Holds if one item is purged from any airspace that the tables represented, if it can be.
abbrev pub MakesLess : PurgeItem → Database → Database → Type 0
MakesLess gone old new =
    (a : Airspace) → Spells old a → CanPurge gone a → Makes a (without_item a gone) old new

-- Holds if all items are purged from any airspace that the tables represented. Each item must be
-- purgeable from the airspace that the previous ones leave.
abbrev pub MakesLessAll : List PurgeItem → Database → Database → Type 0
MakesLessAll gone old new =
    (a : Airspace) → Spells old a → CanPurgeAll gone a → Makes a (without_items gone a) old new

-- The same for items that can be none, if the rows obeyed the schema.
abbrev pub MakesLessRest : List PurgeItem → Database → Database → Type 0
MakesLessRest gone old new =
    (a : Airspace) → Spells old a → CanPurgeAll gone a → IsDatabase old
    → Makes a (without_items gone a) old new
