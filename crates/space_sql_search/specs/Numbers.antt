-- Definitions of the numbers of items with certain cells.
use Rattle.std.specs.Prelude.{◌≡◌, ℤ, ◌≤ℤ◌, List, [], ◌∷◌, map}
use Rattle.std.specs.List.{AllByRecursion}
use Rattle.sqlite_value.specs.Order.{Row}
use Rattle.sqlite_value.specs.declared.value.Value.TheVariants.{Int}
use Rattle.sqlite_rules.specs.Lists.{Has}
use Rattle.sqlite.specs.Effect.{Database}
use Rattle.space_sql_search.specs.declared.search_ranges.SearchRanges.{SearchRanges}
use Rattle.space_sql_search.specs.declared.cell_table.CellTable.{CellTable}
use Rattle.space_sql_search.specs.declared.cell_table.RangeMatch.{RangeMatch}
use Rattle.space_sql_search.specs.declared.cell_table.RangeMatch.TheVariants.{Within, Exactly}
use Rattle.space_sql_search.specs.declared.interval.Interval.{Interval}
use Rattle.space_sql_search.specs.CellTable.{StoredCell, stored_columns, stored_values, tree_of}

-- Holds if the cell is a row of the table.
abbrev pub IsCellIn : CellTable → Database → StoredCell → Type 0
IsCellIn table db c = Has (map (stored_columns table) (db.trees (tree_of table))) (stored_values c)

-- Holds if the interval of the cell starts in this range, or equals it.
abbrev pub IsInRange : RangeMatch → Interval → StoredCell → Type 0
IsInRange Within i c = (i.lo ≤ℤ c.lo) × (c.lo ≤ℤ i.hi)
IsInRange Exactly i c = (c.lo ≡ i.lo) × (c.hi ≡ i.hi)

-- Holds if the rows show the numbers of all matching cells.
abbrev pub ShowsNumbers : CellTable → RangeMatch → Interval → Database → List Row → Type 0
ShowsNumbers table range i db rows =
    (c : StoredCell) → IsCellIn table db c → IsInRange range i c → Has rows (Int c.num ∷ [])

-- Holds if those numbers are among these.
abbrev pub HasNumbers : CellTable → RangeMatch → Database → List ℤ → Interval → Type 0
HasNumbers table range db numbers i =
    (c : StoredCell) → IsCellIn table db c → IsInRange range i c → Has numbers c.num

-- Holds if the numbers include all that the index finds for the ranges.
pub record FindsNumbers (table : CellTable) (searched : SearchRanges) (db : Database) (numbers : List ℤ)
    : Type 0 where
  pub in_ranges : AllByRecursion (HasNumbers table Within db numbers) searched.ranges.items
  pub above : AllByRecursion (HasNumbers table Exactly db numbers) searched.ancestors.items
