-- Lemmas about changes of one table that leave the others unchanged.
use Rattle.std.specs.Prelude.{◌≡◌, ◌≢◌, ℕ, List, [], ◌∷◌, map}
use Rattle.std.specs.List.{AllByRecursion}
use Rattle.std.proofs.Common.{refl, sym, subst}
use Rattle.sqlite.specs.Table.{Table}
use Rattle.sqlite.specs.Tree.{Trees}
use Rattle.sqlite.specs.Effect.{Database}
use Rattle.entity_core.specs.Airspace.{VersionedAvailability}
use Rattle.space_rows.specs.declared.rows.EntityRow.{EntityRow}
use Rattle.space_rows.specs.declared.rows.VolumeRow.{VolumeRow}
use Rattle.space_rows.specs.declared.rows.CellRow.{CellRow}
use Rattle.space_rows.specs.declared.rows.SubRow.{SubRow}
use Rattle.space_rows.specs.declared.rows.SubCellRow.{SubCellRow}
use Rattle.space_sql_schema.specs.Tables.{dss_schema}
use Rattle.space_sql_schema.specs.Spelling.{meta_values, entity_values, volume_values, cell_values, availability_values, sub_values, sub_cell_values, meta_columns, entity_columns, six_columns, three_columns, sub_columns, five_columns, two_columns}
use Rattle.space_sql_write.specs.Layout.{Layout, LaysOut, AreRows, Naming, values_of_naming}

-- A database of format 2 with these rows.
abbrev pub tables_with : Trees → Database
tables_with trees = record { schema = dss_schema; trees = trees }

-- Holds if all tables but one are unchanged.
abbrev pub OthersStand : Trees → Trees → ℕ → Type 0
OthersStand old next t = AllByRecursion (λ (table : Table). table.tree ≢ t → next table.tree ≡ old table.tree) dss_schema.tables

module _ (old : Database) (next : Trees) (l : Layout) (has : LaysOut old l) where
  abbrev Stands : ℕ → Type 0
  Stands t = next t ≡ old.trees t

  meta_stands : Stands 0 → map meta_columns (next 0) ≡ meta_values 2 l.serial ∷ []
  meta_stands same = subst (λ rows. map meta_columns rows ≡ meta_values 2 l.serial ∷ []) (sym same) has.meta

  entities_stand : Stands 1 → AreRows entity_values entity_columns l.entities (next 1)
  entities_stand same = subst (AreRows entity_values entity_columns l.entities) (sym same) has.entities

  volumes_stand : Stands 3 → AreRows volume_values six_columns l.volumes (next 3)
  volumes_stand same = subst (AreRows volume_values six_columns l.volumes) (sym same) has.volumes

  cells_stand : Stands 5 → AreRows cell_values six_columns l.cells (next 5)
  cells_stand same = subst (AreRows cell_values six_columns l.cells) (sym same) has.cells

  availabilities_stand : Stands 7 → AreRows availability_values three_columns l.availabilities (next 7)
  availabilities_stand same = subst (AreRows availability_values three_columns l.availabilities) (sym same) has.availabilities

  subs_stand : Stands 9 → AreRows sub_values sub_columns l.subs (next 9)
  subs_stand same = subst (AreRows sub_values sub_columns l.subs) (sym same) has.subs

  sub_cells_stand : Stands 11 → AreRows sub_cell_values five_columns l.sub_cells (next 11)
  sub_cells_stand same = subst (AreRows sub_cell_values five_columns l.sub_cells) (sym same) has.sub_cells

  namings_stand : Stands 13 → AreRows values_of_naming two_columns l.namings (next 13)
  namings_stand same = subst (AreRows values_of_naming two_columns l.namings) (sym same) has.namings

  pub meta_relaid : OthersStand old.trees next 0 → (serial : ℕ) → map meta_columns (next 0) ≡ meta_values 2 serial ∷ [] → LaysOut (tables_with next) (record l { serial = serial })
  meta_relaid stand serial is = record {
    schema = refl;
    meta = is;
    entities = entities_stand (stand.1.0 (λ e. cc));
    volumes = volumes_stand (stand.1.1.0 (λ e. cc));
    cells = cells_stand (stand.1.1.1.0 (λ e. cc));
    availabilities = availabilities_stand (stand.1.1.1.1.0 (λ e. cc));
    subs = subs_stand (stand.1.1.1.1.1.0 (λ e. cc));
    sub_cells = sub_cells_stand (stand.1.1.1.1.1.1.0 (λ e. cc));
    namings = namings_stand (stand.1.1.1.1.1.1.1.0 (λ e. cc));
  }

  pub entities_relaid : OthersStand old.trees next 1 → (rows : List EntityRow) → AreRows entity_values entity_columns rows (next 1) → LaysOut (tables_with next) (record l { entities = rows })
  entities_relaid stand rows are = record {
    schema = refl;
    meta = meta_stands (stand.0 (λ e. cc));
    entities = are;
    volumes = volumes_stand (stand.1.1.0 (λ e. cc));
    cells = cells_stand (stand.1.1.1.0 (λ e. cc));
    availabilities = availabilities_stand (stand.1.1.1.1.0 (λ e. cc));
    subs = subs_stand (stand.1.1.1.1.1.0 (λ e. cc));
    sub_cells = sub_cells_stand (stand.1.1.1.1.1.1.0 (λ e. cc));
    namings = namings_stand (stand.1.1.1.1.1.1.1.0 (λ e. cc));
  }

  pub volumes_relaid : OthersStand old.trees next 3 → (rows : List VolumeRow) → AreRows volume_values six_columns rows (next 3) → LaysOut (tables_with next) (record l { volumes = rows })
  volumes_relaid stand rows are = record {
    schema = refl;
    meta = meta_stands (stand.0 (λ e. cc));
    entities = entities_stand (stand.1.0 (λ e. cc));
    volumes = are;
    cells = cells_stand (stand.1.1.1.0 (λ e. cc));
    availabilities = availabilities_stand (stand.1.1.1.1.0 (λ e. cc));
    subs = subs_stand (stand.1.1.1.1.1.0 (λ e. cc));
    sub_cells = sub_cells_stand (stand.1.1.1.1.1.1.0 (λ e. cc));
    namings = namings_stand (stand.1.1.1.1.1.1.1.0 (λ e. cc));
  }

  pub cells_relaid : OthersStand old.trees next 5 → (rows : List CellRow) → AreRows cell_values six_columns rows (next 5) → LaysOut (tables_with next) (record l { cells = rows })
  cells_relaid stand rows are = record {
    schema = refl;
    meta = meta_stands (stand.0 (λ e. cc));
    entities = entities_stand (stand.1.0 (λ e. cc));
    volumes = volumes_stand (stand.1.1.0 (λ e. cc));
    cells = are;
    availabilities = availabilities_stand (stand.1.1.1.1.0 (λ e. cc));
    subs = subs_stand (stand.1.1.1.1.1.0 (λ e. cc));
    sub_cells = sub_cells_stand (stand.1.1.1.1.1.1.0 (λ e. cc));
    namings = namings_stand (stand.1.1.1.1.1.1.1.0 (λ e. cc));
  }

  pub availabilities_relaid : OthersStand old.trees next 7 → (rows : List (List ℕ × VersionedAvailability)) → AreRows availability_values three_columns rows (next 7) → LaysOut (tables_with next) (record l { availabilities = rows })
  availabilities_relaid stand rows are = record {
    schema = refl;
    meta = meta_stands (stand.0 (λ e. cc));
    entities = entities_stand (stand.1.0 (λ e. cc));
    volumes = volumes_stand (stand.1.1.0 (λ e. cc));
    cells = cells_stand (stand.1.1.1.0 (λ e. cc));
    availabilities = are;
    subs = subs_stand (stand.1.1.1.1.1.0 (λ e. cc));
    sub_cells = sub_cells_stand (stand.1.1.1.1.1.1.0 (λ e. cc));
    namings = namings_stand (stand.1.1.1.1.1.1.1.0 (λ e. cc));
  }

  pub subs_relaid : OthersStand old.trees next 9 → (rows : List SubRow) → AreRows sub_values sub_columns rows (next 9) → LaysOut (tables_with next) (record l { subs = rows })
  subs_relaid stand rows are = record {
    schema = refl;
    meta = meta_stands (stand.0 (λ e. cc));
    entities = entities_stand (stand.1.0 (λ e. cc));
    volumes = volumes_stand (stand.1.1.0 (λ e. cc));
    cells = cells_stand (stand.1.1.1.0 (λ e. cc));
    availabilities = availabilities_stand (stand.1.1.1.1.0 (λ e. cc));
    subs = are;
    sub_cells = sub_cells_stand (stand.1.1.1.1.1.1.0 (λ e. cc));
    namings = namings_stand (stand.1.1.1.1.1.1.1.0 (λ e. cc));
  }

  pub sub_cells_relaid : OthersStand old.trees next 11 → (rows : List SubCellRow) → AreRows sub_cell_values five_columns rows (next 11) → LaysOut (tables_with next) (record l { sub_cells = rows })
  sub_cells_relaid stand rows are = record {
    schema = refl;
    meta = meta_stands (stand.0 (λ e. cc));
    entities = entities_stand (stand.1.0 (λ e. cc));
    volumes = volumes_stand (stand.1.1.0 (λ e. cc));
    cells = cells_stand (stand.1.1.1.0 (λ e. cc));
    availabilities = availabilities_stand (stand.1.1.1.1.0 (λ e. cc));
    subs = subs_stand (stand.1.1.1.1.1.0 (λ e. cc));
    sub_cells = are;
    namings = namings_stand (stand.1.1.1.1.1.1.1.0 (λ e. cc));
  }

  pub namings_relaid : OthersStand old.trees next 13 → (rows : List Naming) → AreRows values_of_naming two_columns rows (next 13) → LaysOut (tables_with next) (record l { namings = rows })
  namings_relaid stand rows are = record {
    schema = refl;
    meta = meta_stands (stand.0 (λ e. cc));
    entities = entities_stand (stand.1.0 (λ e. cc));
    volumes = volumes_stand (stand.1.1.0 (λ e. cc));
    cells = cells_stand (stand.1.1.1.0 (λ e. cc));
    availabilities = availabilities_stand (stand.1.1.1.1.0 (λ e. cc));
    subs = subs_stand (stand.1.1.1.1.1.0 (λ e. cc));
    sub_cells = sub_cells_stand (stand.1.1.1.1.1.1.0 (λ e. cc));
    namings = are;
  }
