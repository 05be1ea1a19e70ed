-- The tables of cells, and the texts that query their indexes.
use Rattle.std.specs.Prelude.{ℕ, ◌+◌, ℤ, List, [], ◌∷◌, codes}
use Rattle.sqlite_value.specs.Order.{Row, column}
use Rattle.sqlite_value.specs.declared.value.Value.TheVariants.{Int}
use Rattle.space_sql_search.specs.declared.cell_table.CellTable.{CellTable}
use Rattle.space_sql_search.specs.declared.cell_table.CellTable.TheVariants.{OfEntities, OfSubscriptions}
use Rattle.space_sql_search.specs.declared.cell_table.RangeMatch.{RangeMatch}
use Rattle.space_sql_search.specs.declared.cell_table.RangeMatch.TheVariants.{Within, Exactly}
use Rattle.space_sql_schema.specs.Trees.{cell_tree, subscription_cell_tree}

-- The text of the query for the numbers of items with a cell whose interval starts in a range, or
-- equals it.
abbrev pub text_of : CellTable → RangeMatch → List ℕ
text_of OfEntities Within = codes "SELECT entity FROM cell WHERE lo BETWEEN ?1 AND ?2"
text_of OfEntities Exactly = codes "SELECT entity FROM cell WHERE lo = ?1 AND hi = ?2"
text_of OfSubscriptions Within =
    codes "SELECT subscription FROM subscription_cell WHERE lo BETWEEN ?1 AND ?2"
text_of OfSubscriptions Exactly =
    codes "SELECT subscription FROM subscription_cell WHERE lo = ?1 AND hi = ?2"

-- ---- positions in `sqlite`

-- The tree of the table.
abbrev pub tree_of : CellTable → ℕ
tree_of OfEntities = cell_tree
tree_of OfSubscriptions = subscription_cell_tree

-- The position of the column `lo`. The column `hi` follows it.
abbrev pub lo_place : CellTable → ℕ
lo_place OfEntities = 5
lo_place OfSubscriptions = 4

-- The queried columns of a row of cells: the number of the item that has the cell, and the cell's
-- interval.
pub record StoredCell : Type 0 where
  pub num : ℤ
  pub lo : ℤ
  pub hi : ℤ

abbrev pub stored_values : StoredCell → Row
stored_values c = Int c.num ∷ Int c.lo ∷ Int c.hi ∷ []

abbrev pub stored_columns : CellTable → Row → Row
stored_columns table r =
    column r 1 ∷ column r (lo_place table) ∷ column r (lo_place table + 1) ∷ []
