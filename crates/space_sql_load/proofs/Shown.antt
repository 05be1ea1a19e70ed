-- Proofs about reading each table.
use Rattle.std.proofs.Common.{◌≡◌, List, [], ◌∷◌, refl}
use Rattle.std.specs.Ordering.{int_cmp}
use Rattle.sqlite_value.proofs.OrderLemmas.{value_cmp-Int}
use Rattle.sqlite.specs.Order.{Row, column}
use Rattle.sqlite.specs.State.{State, Shown}
use Rattle.space_sql_schema.specs.Tables.{dss_schema}
use Rattle.space_sql_schema.specs.Spelling.{entity_values, volume_values, cell_values, sub_values, sub_cell_values, entity_columns, six_columns, sub_columns, five_columns, two_columns}
use Rattle.space_sql_select.specs.Rows.{entity_order, volume_order, cell_order, sub_order, sub_cell_order, naming_order, number_values, values_of_naming}
use Rattle.space_sql_select.proofs.Shown.{then_equal, lists_all, lists_one}
use Rattle.space_sql_load.specs.Showing.{rowid_column, ShowsEntities, ShowsVolumes, ShowsCells, ShowsSettings, ShowsSubs, ShowsSubCells, ShowsNamings, ShowsIds}
use Rattle.space_sql_load.proofs.Texts.{entities_read, volumes_read, cells_read, settings_read, volume_ids_read, cell_ids_read, setting_ids_read, subs_read, sub_cells_read, namings_read, sub_cell_ids_read}
use Rattle.space_sql_load.proofs.Means.{entities_list, volumes_list, cells_list, settings_list, volume_ids_list, cell_ids_list, setting_ids_list, subs_list, sub_cells_list, namings_list, sub_cell_ids_list}

module _ (old new : State) (rows : List Row) (has : old.now.schema ≡ dss_schema) where
  pub entities_shown : Shown entities_read [] old new rows → ShowsEntities old.now rows
  entities_shown h = record {
    all = lists_all entities_read 1 _ _ entities_list old new rows has h refl;
    rising = lists_one entities_read 1 _ _ entities_list old new rows has h refl entity_values entity_columns (λ c. (column c 0 ∷ [], c)) entity_order (λ r. refl) (λ c. refl) (λ x y e. rw (value_cmp-Int x.num y.num, e));
  }

  pub volumes_shown : Shown volumes_read [] old new rows → ShowsVolumes old.now rows
  volumes_shown h = record {
    all = lists_all volumes_read 3 _ _ volumes_list old new rows has h refl;
    rising = lists_one volumes_read 3 _ _ volumes_list old new rows has h refl volume_values six_columns (λ c. (column c 0 ∷ column c 1 ∷ [], c)) volume_order (λ r. refl) (λ c. refl)
        (λ x y e. rw (value_cmp-Int x.entity y.entity, value_cmp-Int x.place y.place, then_equal (int_cmp x.place y.place)) e);
  }

  pub cells_shown : Shown cells_read [] old new rows → ShowsCells old.now rows
  cells_shown h = record {
    all = lists_all cells_read 5 _ _ cells_list old new rows has h refl;
    rising = lists_one cells_read 5 _ _ cells_list old new rows has h refl cell_values six_columns (λ c. (column c 0 ∷ column c 1 ∷ column c 2 ∷ [], c)) cell_order (λ r. refl) (λ c. refl)
        (λ x y e. rw (value_cmp-Int x.entity y.entity, value_cmp-Int x.volume y.volume, value_cmp-Int x.place y.place, then_equal (int_cmp x.place y.place)) e);
  }

  pub settings_shown : Shown settings_read [] old new rows → ShowsSettings old.now rows
  settings_shown h = lists_all settings_read 7 _ _ settings_list old new rows has h refl

  pub volume_ids_shown : Shown volume_ids_read [] old new rows → ShowsIds 3 old.now rows
  volume_ids_shown h = record {
    all = lists_all volume_ids_read 3 _ _ volume_ids_list old new rows has h refl;
    rising = lists_one volume_ids_read 3 _ _ volume_ids_list old new rows has h refl number_values rowid_column (λ c. (column c 0 ∷ [], c)) int_cmp (λ r. refl) (λ c. refl) (λ x y e. rw (value_cmp-Int x y, e));
  }

  pub cell_ids_shown : Shown cell_ids_read [] old new rows → ShowsIds 5 old.now rows
  cell_ids_shown h = record {
    all = lists_all cell_ids_read 5 _ _ cell_ids_list old new rows has h refl;
    rising = lists_one cell_ids_read 5 _ _ cell_ids_list old new rows has h refl number_values rowid_column (λ c. (column c 0 ∷ [], c)) int_cmp (λ r. refl) (λ c. refl) (λ x y e. rw (value_cmp-Int x y, e));
  }

  pub setting_ids_shown : Shown setting_ids_read [] old new rows → ShowsIds 7 old.now rows
  setting_ids_shown h = record {
    all = lists_all setting_ids_read 7 _ _ setting_ids_list old new rows has h refl;
    rising = lists_one setting_ids_read 7 _ _ setting_ids_list old new rows has h refl number_values rowid_column (λ c. (column c 0 ∷ [], c)) int_cmp (λ r. refl) (λ c. refl) (λ x y e. rw (value_cmp-Int x y, e));
  }

  pub subs_shown : Shown subs_read [] old new rows → ShowsSubs old.now rows
  subs_shown h = record {
    all = lists_all subs_read 9 _ _ subs_list old new rows has h refl;
    rising = lists_one subs_read 9 _ _ subs_list old new rows has h refl sub_values sub_columns (λ c. (column c 0 ∷ [], c)) sub_order (λ r. refl) (λ c. refl) (λ x y e. rw (value_cmp-Int x.num y.num, e));
  }

  pub sub_cells_shown : Shown sub_cells_read [] old new rows → ShowsSubCells old.now rows
  sub_cells_shown h = record {
    all = lists_all sub_cells_read 11 _ _ sub_cells_list old new rows has h refl;
    rising = lists_one sub_cells_read 11 _ _ sub_cells_list old new rows has h refl sub_cell_values five_columns (λ c. (column c 0 ∷ column c 1 ∷ [], c)) sub_cell_order (λ r. refl) (λ c. refl)
        (λ x y e. rw (value_cmp-Int x.subscription y.subscription, value_cmp-Int x.place y.place, then_equal (int_cmp x.place y.place)) e);
  }

  pub namings_shown : Shown namings_read [] old new rows → ShowsNamings old.now rows
  namings_shown h = record {
    all = lists_all namings_read 13 _ _ namings_list old new rows has h refl;
    rising = lists_one namings_read 13 _ _ namings_list old new rows has h refl values_of_naming two_columns (λ c. (column c 0 ∷ [], c)) naming_order (λ r. refl) (λ c. refl) (λ x y e. rw (value_cmp-Int x.entity y.entity, e));
  }

  pub sub_cell_ids_shown : Shown sub_cell_ids_read [] old new rows → ShowsIds 11 old.now rows
  sub_cell_ids_shown h = record {
    all = lists_all sub_cell_ids_read 11 _ _ sub_cell_ids_list old new rows has h refl;
    rising = lists_one sub_cell_ids_read 11 _ _ sub_cell_ids_list old new rows has h refl number_values rowid_column (λ c. (column c 0 ∷ [], c)) int_cmp (λ r. refl) (λ c. refl) (λ x y e. rw (value_cmp-Int x y, e));
  }
