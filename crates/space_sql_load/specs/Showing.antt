-- Definitions of what all rows of the tables show.
use Rattle.std.specs.Prelude.{ℕ, List, [], ◌∷◌}
use Rattle.std.specs.Ordering.{int_cmp}
use Rattle.sqlite_value.specs.Order.{Row}
use Rattle.sqlite_trees.specs.Tree.{rowid}
use Rattle.sqlite.specs.Effect.{Database}
use Rattle.space_sql_schema.specs.Spelling.{entity_values, volume_values, cell_values, sub_values, sub_cell_values, entity_columns, six_columns, three_columns, sub_columns, five_columns, two_columns}
use Rattle.space_sql_schema.specs.Trees.{entity_tree, volume_tree, cell_tree, availability_tree, subscription_tree, subscription_cell_tree, naming_tree}
use Rattle.space_sql_select.specs.Meta.{ShowsMeta}
use Rattle.space_sql_select.specs.Reading.{ShowsAll, ShowsRising}
use Rattle.space_sql_select.specs.Rows.{entity_order, volume_order, cell_order, sub_order, sub_cell_order, naming_order, number_values, values_of_naming}
use Rattle.space_sql_load.specs.declared.tables.EntityTables.{EntityTables}
use Rattle.space_sql_load.specs.declared.tables.SubTables.{SubTables}
use Rattle.space_sql_load.specs.declared.tables.Rowids.{Rowids}
use Rattle.space_sql_load.specs.declared.tables.Tables.{Tables}

abbrev pub rowid_column : Row → Row
rowid_column r = rowid r ∷ []

-- ---- the tables

abbrev pub ShowsEntities : Database → List Row → Type 0
ShowsEntities db rows = ShowsRising entity_order entity_values entity_columns entity_tree db rows

abbrev pub ShowsVolumes : Database → List Row → Type 0
ShowsVolumes db rows = ShowsRising volume_order volume_values six_columns volume_tree db rows

abbrev pub ShowsCells : Database → List Row → Type 0
ShowsCells db rows = ShowsRising cell_order cell_values six_columns cell_tree db rows

abbrev pub ShowsSubs : Database → List Row → Type 0
ShowsSubs db rows = ShowsRising sub_order sub_values sub_columns subscription_tree db rows

abbrev pub ShowsSubCells : Database → List Row → Type 0
ShowsSubCells db rows =
    ShowsRising sub_cell_order sub_cell_values five_columns subscription_cell_tree db rows

abbrev pub ShowsNamings : Database → List Row → Type 0
ShowsNamings db rows = ShowsRising naming_order values_of_naming two_columns naming_tree db rows

abbrev pub ShowsSettings : Database → List Row → Type 0
ShowsSettings db rows = ShowsAll three_columns availability_tree db rows

abbrev pub ShowsIds : ℕ → Database → List Row → Type 0
ShowsIds tree db rows = ShowsRising int_cmp number_values rowid_column tree db rows

abbrev pub ShowsVolumeIds : Database → List Row → Type 0
ShowsVolumeIds db rows = ShowsIds volume_tree db rows

abbrev pub ShowsCellIds : Database → List Row → Type 0
ShowsCellIds db rows = ShowsIds cell_tree db rows

abbrev pub ShowsSettingIds : Database → List Row → Type 0
ShowsSettingIds db rows = ShowsIds availability_tree db rows

abbrev pub ShowsSubCellIds : Database → List Row → Type 0
ShowsSubCellIds db rows = ShowsIds subscription_cell_tree db rows

pub record ShowsSubTables (db : Database) (t : SubTables) : Type 0 where
  pub subscriptions : ShowsSubs db t.subscriptions.items
  pub cells : ShowsSubCells db t.cells.items

pub record ShowsEntityTables (db : Database) (t : EntityTables) : Type 0 where
  pub entities : ShowsEntities db t.entities.items
  pub volumes : ShowsVolumes db t.volumes.items
  pub cells : ShowsCells db t.cells.items
  pub namings : ShowsNamings db t.namings.items

pub record ShowsRowids (db : Database) (t : Rowids) : Type 0 where
  pub volumes : ShowsVolumeIds db t.volumes.items
  pub cells : ShowsCellIds db t.cells.items
  pub settings : ShowsSettingIds db t.settings.items
  pub sub_cells : ShowsSubCellIds db t.sub_cells.items

-- Holds if the rows are those of all tables of a database.
pub record ShowsTables (db : Database) (t : Tables) : Type 0 where
  pub metas : ShowsMeta db t.metas.items
  pub subscriptions : ShowsSubTables db t.subscriptions
  pub entities : ShowsEntityTables db t.entities
  pub settings : ShowsSettings db t.settings.items
  pub rowids : ShowsRowids db t.rowids
