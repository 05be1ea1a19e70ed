-- Proofs about adding the numbers that rows show to others.
use Rattle.std.proofs.Common.{◌≡◌, ℤ, List, [], ◌∷◌, Ok, Err, Result, IfOk, OnOk, subst, sym}
use Rattle.std.specs.List.{AllByRecursion}
use Rattle.sqlite_value.specs.Order.{Row}
use Rattle.sqlite_value.specs.declared.value.Value.TheVariants.{Int}
use Rattle.sqlite_rules.specs.Lists.{Has}
use Rattle.sqlite.specs.Effect.{Database}
use Rattle.sqlite.specs.declared.error.Error.{Error}
use Rattle.space_rows.proofs.Chunks.{all_turned}
use Rattle.space_sql_search.specs.declared.cell_table.CellTable.{CellTable}
use Rattle.space_sql_search.specs.declared.cell_table.RangeMatch.{RangeMatch}
use Rattle.space_sql_search.specs.declared.interval.Interval.{Interval}
use Rattle.space_sql_search.specs.SearchRanges.{IsSubset}
use Rattle.space_sql_search.specs.Numbers.{ShowsNumbers, HasNumbers}

pub numbers_told : (table : CellTable) (range : RangeMatch) (i : Interval) (db : Database) (rows sliced : List Row) (numbers : List ℤ) (r : Result (Unit {0}) Error) → sliced ≡ rows → OnOk r ((n : ℤ) → Has sliced (Int n ∷ []) → Has numbers n) → ShowsNumbers table range i db rows → IfOk r (λ _. HasNumbers table range db numbers i)
numbers_told table range i db rows sliced numbers (Ok x) e each shows = λ c there p. each c.num (subst (λ (l : List Row). Has l (Int c.num ∷ [])) (sym e) (shows c there p))
numbers_told table range i db rows sliced numbers (Err x) e each shows = tt

-- Numbers that are present stay present.
pub numbers_stay : (table : CellTable) (range : RangeMatch) (db : Database) (before after : List ℤ) (is : List Interval) → IsSubset before after → AllByRecursion (HasNumbers table range db before) is → AllByRecursion (HasNumbers table range db after) is
numbers_stay table range db before after is keeps all = all_turned (HasNumbers table range db before) (HasNumbers table range db after) (λ i h c there p. keeps c.num (h c there p)) is all
