-- Proofs about the entities that typed rows list.
use Rattle.std.specs.Prelude.{◌≡◌, ◌↔◌, ℕ, ℤ, pos, List, [], Option, Some, None, MatchOption, IfSome, Bool, IsTrue}
use Rattle.std.specs.Ordering.{int_cmp}
use Rattle.std.specs.declared.cmp.Ordering.TheVariants.{Less}
use Rattle.std.specs.FinMap.{empty}
use Rattle.std.proofs.Common.{subst}
use Rattle.sqlite_trees.specs.Tree.{IsAscending}
use Rattle.sqlite_value.specs.Order.{Row}
use Rattle.entity_core.specs.declared.entity.Entity.{Entity}
use Rattle.entity_core.specs.Airspace.{Entities}
use Rattle.entity_maps.specs.Entities.{entity_map}
use Rattle.entity_maps.specs.Sorted.{Rise}
use Rattle.space_rows.specs.declared.rows.EntityRow.{EntityRow}
use Rattle.space_rows.specs.declared.rows.VolumeRow.{VolumeRow}
use Rattle.space_rows.specs.declared.rows.CellRow.{CellRow}
use Rattle.space_rows.specs.declared.rows.SubRow.{SubRow}
use Rattle.space_rows.specs.declared.rows.SubCellRow.{SubCellRow}
use Rattle.space_sql_schema.specs.Spelling.{entity_values, volume_values, cell_values, sub_values, sub_cell_values}
use Rattle.space_sql_schema.proofs.OneAirspace.{entity_of_values, entity_back, volume_of_values, volume_back, cell_of_values, cell_back, sub_of_values, sub_back, sub_cell_of_values, sub_cell_back}
use Rattle.space_sql_load.specs.declared.naming.Numbered.{Numbered}
use Rattle.space_sql_load.specs.declared.subscriptions.KnownSubs.{KnownSubs}
use Rattle.space_sql_load.specs.declared.tables.EntityTables.{EntityTables}
use Rattle.space_sql_load.specs.declared.tables.SubTables.{SubTables}
use Rattle.space_sql_select.specs.Rows.{AreRowsOf, IsWrittenEntity, IsWrittenVolume, IsWrittenCell, IsWrittenSub, IsWrittenSubCell, IsWrittenNaming, IsWrittenNumber, number_values, values_of_naming}
use Rattle.space_sql_select.specs.declared.sub_rows.NamingRow.{NamingRow}
use Rattle.space_sql_load.specs.Gathering.{Gathers, GathersSubs, ListsEntities, ListsSubs, Parts, Subs, subs_of, number_pair, AreRising}
use Rattle.space_sql_select.proofs.TypedRows.{one_typed, number_of_values, number_back, naming_of_values, naming_back}
use Rattle.space_sql_load.proofs.Written.{gathered_written, subs_written, all_written}
use Rattle.space_sql_load.proofs.SubGroups.{sub_groups_from, one_gathered}
use Rattle.space_sql_load.proofs.Names.{numbers_rise}

-- ---- subscriptions

module _ (serial : ℕ) (t : SubTables) where
  pub no_sub_rows : ((xs : List SubRow) → ¬ AreRowsOf sub_values IsWrittenSub t.subscriptions.items xs) → (a : Subs) → ¬ ListsSubs serial t a
  no_sub_rows none a l = none l.rows (record { written = (subs_written serial (pos 0) l.rows l.cells (empty, []) a l.gathered).0; values_are = l.rows_are })

  pub no_sub_cells : ((xs : List SubCellRow) → ¬ AreRowsOf sub_cell_values IsWrittenSubCell t.cells.items xs) → (a : Subs) → ¬ ListsSubs serial t a
  no_sub_cells none a l = none l.cells (record { written = (subs_written serial (pos 0) l.rows l.cells (empty, []) a l.gathered).1; values_are = l.cells_are })

  -- The subscriptions gathered from typed rows are those that the rows list.
  pub lists_subs : (rows : List SubRow) (cells : List SubCellRow) (o : Option KnownSubs) → AreRowsOf sub_values IsWrittenSub t.subscriptions.items rows → AreRowsOf sub_cell_values IsWrittenSubCell t.cells.items cells
      → MatchOption o ((a : Subs) → ¬ GathersSubs serial (pos 0) rows cells (empty, []) a) (λ k. GathersSubs serial (pos 0) rows cells (empty, []) (subs_of k))
      → MatchOption o ((a : Subs) → ¬ ListsSubs serial t a) (λ k. ListsSubs serial t (subs_of k))
  lists_subs rows cells (Some k) r c g = record { rows = rows; cells = cells; rows_are = r.values_are; cells_are = c.values_are; gathered = g }
  lists_subs rows cells None r c g = λ a l.
      let x = one_typed sub_values sub_of_values sub_back t.subscriptions.items l.rows rows l.rows_are r.values_are in
      let y = one_typed sub_cell_values sub_cell_of_values sub_cell_back t.cells.items l.cells cells l.cells_are c.values_are in
      g a (subst (λ (xs : List SubRow). GathersSubs serial (pos 0) xs cells (empty, []) a) x (subst (λ (xs : List SubCellRow). GathersSubs serial (pos 0) l.rows xs (empty, []) a) y l.gathered))

  -- The rows list at most one set of subscriptions.
  pub one_listed : (a b : Subs) → ListsSubs serial t a → ListsSubs serial t b → a ≡ b
  one_listed a b l k =
      let x = one_typed sub_values sub_of_values sub_back t.subscriptions.items l.rows k.rows l.rows_are k.rows_are in
      let y = one_typed sub_cell_values sub_cell_of_values sub_cell_back t.cells.items l.cells k.cells l.cells_are k.cells_are in
      let g = subst (λ (xs : List SubRow). GathersSubs serial (pos 0) xs k.cells (empty, []) a) x (subst (λ (xs : List SubCellRow). GathersSubs serial (pos 0) l.rows xs (empty, []) a) y l.gathered) in
      one_gathered serial k.rows k.cells a b g k.gathered

-- The numbers of the gathered subscriptions are ascending.
gathered_rise : (serial : ℕ) (rows : List SubRow) (cells : List SubCellRow) (a : Subs) → GathersSubs serial (pos 0) rows cells (empty, []) a → Rise int_cmp number_pair a.1
gathered_rise serial rows cells a g =
    let s = sub_groups_from serial (pos 0) rows cells (empty, []) a g in
    subst (Rise int_cmp number_pair) s.numbers_are (numbers_rise s.groups s.rising)

pub all_rise : (serial : ℕ) (rows : List SubRow) (cells : List SubCellRow) (o : Option KnownSubs) → MatchOption o ((a : Subs) → ¬ GathersSubs serial (pos 0) rows cells (empty, []) a) (λ k. GathersSubs serial (pos 0) rows cells (empty, []) (subs_of k))
    → IfSome o (λ k. Rise int_cmp number_pair k.numbers.items)
all_rise serial rows cells None g = tt
all_rise serial rows cells (Some k) g = gathered_rise serial rows cells (subs_of k) g

-- ---- entities

module _ (serial : ℕ) (numbers : List Numbered) (t : EntityTables) where
  abbrev None-listed : Type 0
  None-listed = (m : Entities) → ¬ ListsEntities serial numbers t m

  pub no_rows : ((xs : List EntityRow) → ¬ AreRowsOf entity_values IsWrittenEntity t.entities.items xs) → None-listed
  no_rows none m l = none l.rows (record { written = (gathered_written serial numbers (pos 0) l.rows l.parts empty m l.gathered).0; values_are = l.rows_are })

  pub no_volumes : ((xs : List VolumeRow) → ¬ AreRowsOf volume_values IsWrittenVolume t.volumes.items xs) → None-listed
  no_volumes none m l = none l.parts.volumes (record { written = all_written l.parts.volumes; values_are = l.volumes_are })

  pub no_cells : ((xs : List CellRow) → ¬ AreRowsOf cell_values IsWrittenCell t.cells.items xs) → None-listed
  no_cells none m l = none l.parts.cells (record { written = (gathered_written serial numbers (pos 0) l.rows l.parts empty m l.gathered).1; values_are = l.cells_are })

  pub no_namings : ((xs : List NamingRow) → ¬ AreRowsOf values_of_naming IsWrittenNaming t.namings.items xs) → None-listed
  no_namings none m l = none l.parts.namings (record { written = all_written l.parts.namings; values_are = l.namings_are })

  -- The entities gathered from typed rows are those that the rows list.
  pub lists : (rows : List EntityRow) (p : Parts) (o : Option (List Entity)) → AreRowsOf entity_values IsWrittenEntity t.entities.items rows
      → AreRowsOf volume_values IsWrittenVolume t.volumes.items p.volumes → AreRowsOf cell_values IsWrittenCell t.cells.items p.cells → AreRowsOf values_of_naming IsWrittenNaming t.namings.items p.namings
      → MatchOption o ((m : Entities) → ¬ Gathers serial numbers (pos 0) rows p empty m) (λ es. Gathers serial numbers (pos 0) rows p empty (entity_map es))
      → MatchOption o ((m : Entities) → ¬ ListsEntities serial numbers t m) (λ es. ListsEntities serial numbers t (entity_map es))
  lists rows p (Some es) r v c n g = record { rows = rows; parts = p; rows_are = r.values_are; volumes_are = v.values_are; cells_are = c.values_are; namings_are = n.values_are; gathered = g }
  lists rows p None r v c n g = λ m l.
      let a = one_typed entity_values entity_of_values entity_back t.entities.items l.rows rows l.rows_are r.values_are in
      let b = one_typed volume_values volume_of_values volume_back t.volumes.items l.parts.volumes p.volumes l.volumes_are v.values_are in
      let d = one_typed cell_values cell_of_values cell_back t.cells.items l.parts.cells p.cells l.cells_are c.values_are in
      let e = one_typed values_of_naming naming_of_values naming_back t.namings.items l.parts.namings p.namings l.namings_are n.values_are in
      let same : l.parts ≡ p = λ i. record { volumes = b i; cells = d i; namings = e i } in
      g m (subst (λ (xs : List EntityRow). Gathers serial numbers (pos 0) xs p empty m) a (subst (λ (q : Parts). Gathers serial numbers (pos 0) l.rows q empty m) same l.gathered))

-- ---- rowids

pub rising_rows : (rows : List Row) (ids : List ℤ) (b : Bool) → AreRowsOf number_values IsWrittenNumber rows ids → (IsTrue b ↔ IsAscending (λ m n. int_cmp m n ≡ Less) ids) → IsTrue b ↔ AreRising rows
rising_rows rows ids b r h = (
  (λ t. (ids, r.values_are, h.0 t)),
  (λ up. h.1 (subst (IsAscending (λ m n. int_cmp m n ≡ Less)) (one_typed number_values number_of_values number_back rows up.0 ids up.1 r.values_are) up.2)),
)

pub not_rising : (rows : List Row) → ((xs : List ℤ) → ¬ AreRowsOf number_values IsWrittenNumber rows xs) → ¬ AreRising rows
not_rising rows none up = none up.0 (record { written = all_written up.0; values_are = up.1 })
