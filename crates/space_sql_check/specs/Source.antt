-- Definitions of the rows that are read in pieces: the texts of their queries, their trees in
-- `sqlite`, and the typed rows that they represent.
use Rattle.std.specs.Prelude.{ℕ, ℤ, List, codes}
use Rattle.std.specs.Ordering.{int_cmp}
use Rattle.std.specs.declared.cmp.Ordering.{Ordering}
use Rattle.sqlite_value.specs.Order.{Row}
use Rattle.space_rows.specs.declared.rows.EntityRow.{EntityRow}
use Rattle.space_rows.specs.declared.rows.VolumeRow.{VolumeRow}
use Rattle.space_rows.specs.declared.rows.CellRow.{CellRow}
use Rattle.space_rows.specs.declared.rows.SubRow.{SubRow}
use Rattle.space_rows.specs.declared.rows.SubCellRow.{SubCellRow}
use Rattle.space_sql_schema.specs.Spelling.{entity_values, volume_values, cell_values, sub_values, sub_cell_values, entity_columns, six_columns, sub_columns, five_columns, two_columns}
use Rattle.space_sql_schema.specs.Trees.{entity_tree, volume_tree, cell_tree, availability_tree, subscription_tree, subscription_cell_tree, naming_tree}
use Rattle.space_sql_select.specs.declared.sub_rows.NamingRow.{NamingRow}
use Rattle.space_sql_select.specs.Rows.{entity_order, volume_order, cell_order, sub_order, sub_cell_order, naming_order, number_values, values_of_naming}
use Rattle.space_sql_load.specs.Showing.{rowid_column}
use Rattle.space_sql_check.specs.declared.source.Source.{Source}
use Rattle.space_sql_check.specs.declared.source.Source.TheVariants.{Entities, Volumes, Cells, Namings, Subscriptions, SubCells, VolumeIds, CellIds, SettingIds, SubCellIds}
use Rattle.space_sql_check.specs.declared.ends.Counted.{Counted}
use Rattle.space_sql_check.specs.declared.ends.Counted.TheVariants as counted

-- ---- texts

-- Returns the text of the query for the rows with a number in a range.
abbrev pub within_text : Source → List ℕ
within_text Entities = codes "SELECT num, kind, id, manager, state, version, serial, ovn, url FROM entity WHERE num > ?1 AND num <= ?2 ORDER BY num"
within_text Volumes = codes "SELECT entity, place, alt_lower, alt_upper, time_start, time_end FROM volume WHERE entity > ?1 AND entity <= ?2 ORDER BY entity, place"
within_text Cells = codes "SELECT entity, volume, place, token, lo, hi FROM cell WHERE entity > ?1 AND entity <= ?2 ORDER BY entity, volume, place"
within_text Namings = codes "SELECT entity, subscription FROM naming WHERE entity > ?1 AND entity <= ?2 ORDER BY entity"
within_text Subscriptions = codes "SELECT num, id, manager, serial, version, notes, url, for_intents, for_constraints, alt_lower, alt_upper, time_start, time_end FROM subscription WHERE num > ?1 AND num <= ?2 ORDER BY num"
within_text SubCells = codes "SELECT subscription, place, token, lo, hi FROM subscription_cell WHERE subscription > ?1 AND subscription <= ?2 ORDER BY subscription, place"
within_text VolumeIds = codes "SELECT rowid FROM volume WHERE rowid > ?1 AND rowid <= ?2 ORDER BY rowid"
within_text CellIds = codes "SELECT rowid FROM cell WHERE rowid > ?1 AND rowid <= ?2 ORDER BY rowid"
within_text SettingIds = codes "SELECT rowid FROM availability WHERE rowid > ?1 AND rowid <= ?2 ORDER BY rowid"
within_text SubCellIds = codes "SELECT rowid FROM subscription_cell WHERE rowid > ?1 AND rowid <= ?2 ORDER BY rowid"

-- Returns the text of the query for the rows with a number outside of a range, or without one.
abbrev pub outside_text : Source → List ℕ
outside_text Entities = codes "SELECT num FROM entity WHERE num IS NULL OR num <= ?1 OR num > ?2"
outside_text Volumes = codes "SELECT entity FROM volume WHERE entity IS NULL OR entity <= ?1 OR entity > ?2"
outside_text Cells = codes "SELECT entity FROM cell WHERE entity IS NULL OR entity <= ?1 OR entity > ?2"
outside_text Namings = codes "SELECT entity FROM naming WHERE entity IS NULL OR entity <= ?1 OR entity > ?2"
outside_text Subscriptions = codes "SELECT num FROM subscription WHERE num IS NULL OR num <= ?1 OR num > ?2"
outside_text SubCells = codes "SELECT subscription FROM subscription_cell WHERE subscription IS NULL OR subscription <= ?1 OR subscription > ?2"
outside_text VolumeIds = codes "SELECT rowid FROM volume WHERE rowid IS NULL OR rowid <= ?1 OR rowid > ?2"
outside_text CellIds = codes "SELECT rowid FROM cell WHERE rowid IS NULL OR rowid <= ?1 OR rowid > ?2"
outside_text SettingIds = codes "SELECT rowid FROM availability WHERE rowid IS NULL OR rowid <= ?1 OR rowid > ?2"
outside_text SubCellIds = codes "SELECT rowid FROM subscription_cell WHERE rowid IS NULL OR rowid <= ?1 OR rowid > ?2"

-- Returns the text of the query for the numbers of the next 1,024 rows.
abbrev pub next_text : Counted → List ℕ
next_text counted.CellsOfEntities = codes "SELECT entity FROM cell WHERE entity > ?1 ORDER BY entity LIMIT 1024"
next_text counted.CellsOfSubscriptions = codes "SELECT subscription FROM subscription_cell WHERE subscription > ?1 ORDER BY subscription LIMIT 1024"
next_text counted.VolumeIds = codes "SELECT rowid FROM volume WHERE rowid > ?1 ORDER BY rowid LIMIT 1024"
next_text counted.CellIds = codes "SELECT rowid FROM cell WHERE rowid > ?1 ORDER BY rowid LIMIT 1024"
next_text counted.SettingIds = codes "SELECT rowid FROM availability WHERE rowid > ?1 ORDER BY rowid LIMIT 1024"
next_text counted.SubCellIds = codes "SELECT rowid FROM subscription_cell WHERE rowid > ?1 ORDER BY rowid LIMIT 1024"

-- ---- positions in `sqlite`

-- Returns the tree of the table.
abbrev pub tree_of : Source → ℕ
tree_of Entities = entity_tree
tree_of Volumes = volume_tree
tree_of Cells = cell_tree
tree_of Namings = naming_tree
tree_of Subscriptions = subscription_tree
tree_of SubCells = subscription_cell_tree
tree_of VolumeIds = volume_tree
tree_of CellIds = cell_tree
tree_of SettingIds = availability_tree
tree_of SubCellIds = subscription_cell_tree

-- Returns the columns that are read. The first one is the number by which the rows are read.
abbrev pub columns_of : Source → Row → Row
columns_of Entities r = entity_columns r
columns_of Volumes r = six_columns r
columns_of Cells r = six_columns r
columns_of Namings r = two_columns r
columns_of Subscriptions r = sub_columns r
columns_of SubCells r = five_columns r
columns_of VolumeIds r = rowid_column r
columns_of CellIds r = rowid_column r
columns_of SettingIds r = rowid_column r
columns_of SubCellIds r = rowid_column r

-- ---- typed rows

-- The type of a row.
abbrev pub Typed : Source → Type 0
Typed Entities = EntityRow
Typed Volumes = VolumeRow
Typed Cells = CellRow
Typed Namings = NamingRow
Typed Subscriptions = SubRow
Typed SubCells = SubCellRow
Typed VolumeIds = ℤ
Typed CellIds = ℤ
Typed SettingIds = ℤ
Typed SubCellIds = ℤ

-- Returns the values of a typed row.
abbrev pub values_of : (s : Source) → Typed s → Row
values_of Entities x = entity_values x
values_of Volumes x = volume_values x
values_of Cells x = cell_values x
values_of Namings x = values_of_naming x
values_of Subscriptions x = sub_values x
values_of SubCells x = sub_cell_values x
values_of VolumeIds x = number_values x
values_of CellIds x = number_values x
values_of SettingIds x = number_values x
values_of SubCellIds x = number_values x

-- Returns the order of two typed rows by their keys.
abbrev pub order_of : (s : Source) → Typed s → Typed s → Ordering
order_of Entities x y = entity_order x y
order_of Volumes x y = volume_order x y
order_of Cells x y = cell_order x y
order_of Namings x y = naming_order x y
order_of Subscriptions x y = sub_order x y
order_of SubCells x y = sub_cell_order x y
order_of VolumeIds x y = int_cmp x y
order_of CellIds x y = int_cmp x y
order_of SettingIds x y = int_cmp x y
order_of SubCellIds x y = int_cmp x y
