-- Definitions of reading the tables and its effects.
use Rattle.std.specs.Prelude.{◌≡◌, ℕ, List, map, IsPermutation, IsTrue, Result, IfOk, OnOk}
use Rattle.std.specs.declared.cmp.Ordering.{Ordering}
use Rattle.std.specs.declared.cmp.Ordering.TheVariants.{Less}
use Rattle.sqlite_value.specs.Order.{Row}
use Rattle.sqlite_trees.specs.Tree.{IsAscending}
use Rattle.sqlite.specs.Effect.{Database}
use Rattle.sqlite.specs.State.{State, HasCleanDisk, KeepsCommit, Survives}
use Rattle.sqlite.specs.declared.error.Error.{Error}
use Rattle.entity_core.specs.Airspace.{Airspace}
use Rattle.space_sql_schema.specs.Tables.{dss_schema}
use Rattle.space_sql_schema.specs.Making.{IsSettled}
use Rattle.space_sql_schema.specs.Spelling.{Spells}

-- ---- rows of a table

-- Holds if the rows show these columns of all rows of a table, in some order.
abbrev pub ShowsAll : (Row → Row) → ℕ → Database → List Row → Type 0
ShowsAll columns tree db rows = IsPermutation (map columns (db.trees tree)) rows

-- Holds if the rows show all rows of the table, and show any ascending list whose values the table
-- has.
pub record ShowsRising {X : Type 0} (compare : X → X → Ordering) (values : X → Row)
    (columns : Row → Row) (tree : ℕ) (db : Database) (rows : List Row) : Type 0 where
  pub all : ShowsAll columns tree db rows
  pub rising : (xs : List X) → IsAscending (λ x y. compare x y ≡ Less) xs
      → IsPermutation (map values xs) (map columns (db.trees tree)) → rows ≡ map values xs

-- ---- reads

-- Holds if, with tables of format 2, the result has P of the visible database, which stays.
-- Whatever the result, the last commit stays. A crash leaves what it would have left before.
pub record Reads {X : Type 0} (P : Database → X → Type 0) (old new : State)
    (result : Result X Error) : Type 0 where
  pub answer : HasCleanDisk new → IfOk result (λ x. old.now.schema ≡ dss_schema → P old.now x)
  pub same : HasCleanDisk new → OnOk result (old.now.schema ≡ dss_schema → new.now ≡ old.now)
  pub kept : HasCleanDisk new → old.now.schema ≡ dss_schema → KeepsCommit old new
  pub survives : Survives old new (λ _. ⊥)

-- Holds if both the visible and the committed database are what was committed before.
pub record GoesBack (old new : State) : Type 0 where
  pub now_is : new.now ≡ old.committed
  pub committed_is : new.committed ≡ old.committed
  pub was_open : IsTrue old.is_open

-- Holds if the database that was visible is visible and committed.
abbrev pub IsAsFound : State → State → Type 0
IsAsFound old new = IsSettled new × (new.now ≡ old.now)

-- Holds if `IsAsFound` holds when the tables are those of format 2.
abbrev pub RestsAs : State → State → Type 0
RestsAs old new = old.now.schema ≡ dss_schema → IsAsFound old new

-- Holds for a read in a separate transaction, which is rolled back. With tables of format 2, its
-- result has P of the database that was visible. The committed database is visible again. Nothing
-- is committed.
pub record ReadsAlone {X : Type 0} (P : Database → X → Type 0) (old new : State)
    (result : Result X Error) : Type 0 where
  pub answer : HasCleanDisk new → IfOk result (λ x. old.now.schema ≡ dss_schema → P old.now x)
  pub back : HasCleanDisk new → IsTrue new.is_open → old.now.schema ≡ dss_schema
      → GoesBack old new
  pub survives : Survives old new (λ _. ⊥)

-- The same, if the store is alive after a result. Then the database that was visible is visible and
-- committed.
pub record ReadsAlive {X : Type 0} (P : Database → X → Type 0) (old new : State)
    (result : Result X Error) : Type 0 where
  pub answer : HasCleanDisk new → IfOk result (λ x. old.now.schema ≡ dss_schema → P old.now x)
  pub rests : HasCleanDisk new → OnOk result (RestsAs old new)
  pub is_open : HasCleanDisk new → OnOk result (IsTrue new.is_open)
  pub survives : Survives old new (λ _. ⊥)

-- Holds if the result has P of the airspace that the tables represent, if they represent one.
-- Nothing is committed. After a result the store is open and has the same content.
pub record ReadsTables {X : Type 0} (old new : State) (result : Result X Error)
    (P : Airspace → X → Type 0) : Type 0 where
  pub answer : HasCleanDisk new → IfOk result (λ found. (a : Airspace) → Spells old.now a
      → P a found)
  pub rests : HasCleanDisk new → OnOk result (RestsAs old new)
  pub is_open : HasCleanDisk new → OnOk result (IsTrue new.is_open)
  pub survives : Survives old new (λ _. ⊥)
