-- Proofs that convert an airspace to its rows, and rows to an airspace.
use Rattle.std.proofs.Common.{◌≡◌, ◌≤◌, ◌+◌, ℕ, ℤ, List, [], ◌∷◌, map, flat_map, Option, Some, None, sym, subst, subst₂, ◌∙◌, Less, refl, arith}
use Rattle.std.specs.Prelude.{IsPermutation}
use Rattle.std.specs.List.{AllByRecursion}
use Rattle.std.specs.Ordering.{int_cmp}
use Rattle.std.specs.FinMap.{entries}
use Rattle.std.proofs.lemmas.List.Sorted.{IsPermutation-map, IsPermutation-refl, IsPermutation-trans}
use Rattle.sqlite_keyed.proofs.ListLemmas.{all_of, ascending-map, flat_map_same_on, map-flat_map, map-map}
use Rattle.sqlite_trees.specs.Tree.{IsAscending}
use Rattle.sqlite.specs.declared.types.Value.TheVariants.{Int}
use Rattle.sqlite.specs.Order.{column}
use Rattle.sqlite.specs.Effect.{Database}
use Rattle.entity_core.specs.Airspace.{Airspace, Availabilities, Entities, VersionedAvailability, Subscriptions}
use Rattle.entity_core.specs.Serial.{max_serial}
use Rattle.space_rows.specs.declared.rows.EntityRow.{EntityRow}
use Rattle.space_rows.specs.declared.rows.VolumeRow.{VolumeRow}
use Rattle.space_rows.specs.declared.rows.CellRow.{CellRow}
use Rattle.space_rows.specs.declared.rows.SubRow.{SubRow}
use Rattle.space_rows.specs.declared.rows.SubCellRow.{SubCellRow}
use Rattle.space_rows.proofs.Chunks.{all_turned}
use Rattle.space_sql_schema.proofs.Rising.{ascending_flat}
use Rattle.space_sql_schema.specs.Spelling.{Spells, Group, IsGroup, IsBefore, SubGroup, IsSubGroup, IsSubBefore, IsStated, pair_of, sub_pair_of, naming_rows_of, meta_values, meta_columns, entity_values, volume_values, cell_values, sub_values, sub_cell_values, availability_values, entity_columns, six_columns, sub_columns, five_columns, two_columns}
use Rattle.space_sql_write.specs.Layout.{Layout, LaysOut, Naming, layout_of, namings_of, values_of_naming}

-- ---- the rows of `naming`

abbrev pub own_namings : Group → List Naming
own_namings g = namings_of g.row.num g.naming

own_rows : (g : Group) → map values_of_naming (own_namings g) ≡ naming_rows_of g
own_rows g = go g.naming
  where
    go : (named : Option ℤ) → map values_of_naming (namings_of g.row.num named) ≡ naming_rows_of (record g { naming = named })
    go None = refl
    go (Some num) = refl

naming_rows_are : (gs : List Group) → map values_of_naming (flat_map own_namings gs) ≡ flat_map naming_rows_of gs
naming_rows_are gs = map-flat_map values_of_naming own_namings gs ∙ flat_map_same_on (λ g. map values_of_naming (own_namings g)) naming_rows_of own_rows gs

abbrev NamingLess : Naming → Naming → Type 0
NamingLess m n = int_cmp m.0 n.0 ≡ Less

cross_namings : (m n : ℤ) (x y : Option ℤ) → int_cmp m n ≡ Less → AllByRecursion (λ r. AllByRecursion (NamingLess r) (namings_of n y)) (namings_of m x)
cross_namings m n None y h = tt
cross_namings m n (Some a) None h = (tt, tt)
cross_namings m n (Some a) (Some b) h = ((h, tt), tt)

one_rises : (n : ℤ) (x : Option ℤ) → IsAscending NamingLess (namings_of n x)
one_rises n None = tt
one_rises n (Some a) = (tt, tt)

namings_rise : (gs : List Group) → IsAscending IsBefore gs → IsAscending NamingLess (flat_map own_namings gs)
namings_rise gs up = ascending_flat NamingLess IsBefore (λ _. Unit {0}) own_namings (λ g h _ _ less. cross_namings g.row.num h.row.num g.naming h.naming less) (λ g _. one_rises g.row.num g.naming) gs (all_of (λ _. Unit {0}) (λ _. tt) gs) up

-- ---- from the airspace to the rows

pub lay_out : (db : Database) (a : Airspace) (p : Spells db a) → LaysOut db (layout_of db a p)
lay_out db a p = record {
  schema = p.schema;
  meta = p.meta;
  entities = record {
    same = subst (λ k. IsPermutation k (map entity_columns (db.trees 1))) (sym (map-map entity_values (λ (g : Group). g.row) p.groups)) p.entities;
    apart = (
      map (λ (g : Group). g.row.num) p.groups,
      ascending-map (λ m n. int_cmp m n ≡ Less) (λ (g : Group). g.row.num) p.groups p.rising,
      subst₂ (λ x y. IsPermutation x y) (map-map (λ c. column c 0) (λ (g : Group). entity_values g.row) p.groups ∙ sym (map-map (λ n. Int n) (λ (g : Group). g.row.num) p.groups)) (map-map (λ c. column c 0) entity_columns (db.trees 1)) (IsPermutation-map (λ c. column c 0) _ _ p.entities),
    );
  };
  volumes = record {
    same = subst (λ k. IsPermutation k (map six_columns (db.trees 3))) (sym (map-flat_map volume_values (λ (g : Group). g.volumes) p.groups)) p.volumes;
    apart = p.apart.0;
  };
  cells = record {
    same = subst (λ k. IsPermutation k (map six_columns (db.trees 5))) (sym (map-flat_map cell_values (λ (g : Group). g.cells) p.groups)) p.cells;
    apart = p.apart.1;
  };
  availabilities = record { same = p.availabilities; apart = p.apart.2 };
  subs = record {
    same = subst (λ k. IsPermutation k (map sub_columns (db.trees 9))) (sym (map-map sub_values (λ (s : SubGroup). s.row) p.subs)) p.sub_rows;
    apart = (
      map (λ (s : SubGroup). s.row.num) p.subs,
      ascending-map (λ m n. int_cmp m n ≡ Less) (λ (s : SubGroup). s.row.num) p.subs p.subs_rising,
      subst₂ (λ x y. IsPermutation x y) (map-map (λ c. column c 0) (λ (s : SubGroup). sub_values s.row) p.subs ∙ sym (map-map (λ n. Int n) (λ (s : SubGroup). s.row.num) p.subs)) (map-map (λ c. column c 0) sub_columns (db.trees 9)) (IsPermutation-map (λ c. column c 0) _ _ p.sub_rows),
    );
  };
  sub_cells = record {
    same = subst (λ k. IsPermutation k (map five_columns (db.trees 11))) (sym (map-flat_map sub_cell_values (λ (s : SubGroup). s.cells) p.subs)) p.sub_cells;
    apart = p.apart.3;
  };
  namings = record {
    same = subst (λ k. IsPermutation k (map two_columns (db.trees 13))) (sym (naming_rows_are p.groups)) p.namings;
    apart = (
      map (λ (n : Naming). n.0) (flat_map own_namings p.groups),
      ascending-map (λ m n. int_cmp m n ≡ Less) (λ (n : Naming). n.0) (flat_map own_namings p.groups) (namings_rise p.groups p.rising),
      subst₂ (λ x y. IsPermutation x y) (map-map (λ c. column c 0) values_of_naming (flat_map own_namings p.groups) ∙ sym (map-map (λ n. Int n) (λ (n : Naming). n.0) (flat_map own_namings p.groups))) (map-map (λ c. column c 0) two_columns (db.trees 13))
          (IsPermutation-map (λ c. column c 0) _ _ (subst (λ k. IsPermutation k (map two_columns (db.trees 13))) (sym (naming_rows_are p.groups)) p.namings)),
    );
  };
}

-- ---- the rows of an airspace

-- Holds if the rows are those of subscriptions, in groups with ascending numbers.
pub record AreSubs (serial : ℕ) (rows : List SubRow) (cells : List SubCellRow) (ss : List SubGroup) (m : Subscriptions) : Type 0 where
  pub rising : IsAscending IsSubBefore ss
  pub each : AllByRecursion (IsSubGroup serial) ss
  pub rows_are : IsPermutation (map (λ (s : SubGroup). s.row) ss) rows
  pub cells_are : IsPermutation (flat_map (λ (s : SubGroup). s.cells) ss) cells
  pub kept : IsPermutation (map sub_pair_of ss) (entries m)

-- Holds if the rows are those of entities, in groups with ascending numbers, which reference some
-- of these subscriptions.
pub record AreEntities (serial : ℕ) (ss : List SubGroup) (rows : List EntityRow) (volumes : List VolumeRow) (cells : List CellRow) (namings : List Naming) (gs : List Group) (m : Entities) : Type 0 where
  pub rising : IsAscending IsBefore gs
  pub each : AllByRecursion (IsGroup serial ss) gs
  pub rows_are : IsPermutation (map (λ (g : Group). g.row) gs) rows
  pub volumes_are : IsPermutation (flat_map (λ (g : Group). g.volumes) gs) volumes
  pub cells_are : IsPermutation (flat_map (λ (g : Group). g.cells) gs) cells
  pub namings_are : IsPermutation (flat_map own_namings gs) namings
  pub kept : IsPermutation (map pair_of gs) (entries m)

-- Holds if the rows are what each USS has set.
pub record AreStated (rows : List (List ℕ × VersionedAvailability)) (m : Availabilities) : Type 0 where
  pub are : IsPermutation (entries m) rows
  pub stated : AllByRecursion IsStated (entries m)

-- Holds if the rows are those of an airspace.
pub record AreRowsOf (l : Layout) (ss : List SubGroup) (gs : List Group) (a : Airspace) : Type 0 where
  pub serial : l.serial ≡ a.serial
  pub most : a.serial ≤ max_serial
  pub subs : AreSubs a.serial l.subs l.sub_cells ss a.subscriptions
  pub entities : AreEntities a.serial ss l.entities l.volumes l.cells l.namings gs a.entities
  pub stated : AreStated l.availabilities a.availabilities

-- A database with the rows of an airspace represents it.
pub spell_out : (db : Database) (l : Layout) (ss : List SubGroup) (gs : List Group) (a : Airspace) → LaysOut db l → AreRowsOf l ss gs a → Spells db a
spell_out db l ss gs a has are = record {
  schema = has.schema;
  meta = subst (λ n. map meta_columns (db.trees 0) ≡ meta_values 2 n ∷ []) are.serial has.meta;
  most = are.most;
  subs = ss;
  subs_rising = are.subs.rising;
  each_sub = are.subs.each;
  sub_rows = IsPermutation-trans _ _ _ (subst (λ k. IsPermutation k (map sub_values l.subs)) (map-map sub_values (λ (s : SubGroup). s.row) ss) (IsPermutation-map sub_values _ _ are.subs.rows_are)) has.subs.same;
  sub_cells = IsPermutation-trans _ _ _ (subst (λ k. IsPermutation k (map sub_cell_values l.sub_cells)) (map-flat_map sub_cell_values (λ (s : SubGroup). s.cells) ss) (IsPermutation-map sub_cell_values _ _ are.subs.cells_are)) has.sub_cells.same;
  subs_kept = are.subs.kept;
  groups = gs;
  rising = are.entities.rising;
  each = are.entities.each;
  entities = IsPermutation-trans _ _ _ (subst (λ k. IsPermutation k (map entity_values l.entities)) (map-map entity_values (λ (g : Group). g.row) gs) (IsPermutation-map entity_values _ _ are.entities.rows_are)) has.entities.same;
  volumes = IsPermutation-trans _ _ _ (subst (λ k. IsPermutation k (map volume_values l.volumes)) (map-flat_map volume_values (λ (g : Group). g.volumes) gs) (IsPermutation-map volume_values _ _ are.entities.volumes_are)) has.volumes.same;
  cells = IsPermutation-trans _ _ _ (subst (λ k. IsPermutation k (map cell_values l.cells)) (map-flat_map cell_values (λ (g : Group). g.cells) gs) (IsPermutation-map cell_values _ _ are.entities.cells_are)) has.cells.same;
  namings = IsPermutation-trans _ _ _ (subst (λ k. IsPermutation k (map values_of_naming l.namings)) (naming_rows_are gs) (IsPermutation-map values_of_naming _ _ are.entities.namings_are)) has.namings.same;
  kept = are.entities.kept;
  availabilities = IsPermutation-trans _ _ _ (IsPermutation-map availability_values _ _ are.stated.are) has.availabilities.same;
  stated = are.stated.stated;
  apart = (has.volumes.apart, has.cells.apart, has.availabilities.apart, has.sub_cells.apart);
}

-- ---- the rows that stay valid with the next serial

pub subs_later : (n : ℕ) (rows : List SubRow) (cells : List SubCellRow) (ss : List SubGroup) (m : Subscriptions) → AreSubs n rows cells ss m → AreSubs (n + 1) rows cells ss m
subs_later n rows cells ss m are = record {
  rising = are.rising;
  each = all_turned (IsSubGroup n) (IsSubGroup (n + 1)) (λ s h. record { spelt = h.spelt; most = let low = h.most in omega (arith, low); index = let low = h.index in omega (arith, low) }) ss are.each;
  rows_are = are.rows_are;
  cells_are = are.cells_are;
  kept = are.kept;
}

pub entities_later : (n : ℕ) (ss : List SubGroup) (rows : List EntityRow) (volumes : List VolumeRow) (cells : List CellRow) (namings : List Naming) (gs : List Group) (m : Entities) → AreEntities n ss rows volumes cells namings gs m → AreEntities (n + 1) ss rows volumes cells namings gs m
entities_later n ss rows volumes cells namings gs m are = record {
  rising = are.rising;
  each = all_turned (IsGroup n ss) (IsGroup (n + 1) ss) (λ g h. record { spelt = h.spelt; names = h.names; most = let low = h.most in omega (arith, low) }) gs are.each;
  rows_are = are.rows_are;
  volumes_are = are.volumes_are;
  cells_are = are.cells_are;
  namings_are = are.namings_are;
  kept = are.kept;
}

module _ (db : Database) (a : Airspace) (p : Spells db a) where
  pub own_subs : AreSubs a.serial (map (λ (s : SubGroup). s.row) p.subs) (flat_map (λ (s : SubGroup). s.cells) p.subs) p.subs a.subscriptions
  own_subs = record { rising = p.subs_rising; each = p.each_sub; rows_are = IsPermutation-refl _; cells_are = IsPermutation-refl _; kept = p.subs_kept }

  pub own_entities : AreEntities a.serial p.subs (map (λ (g : Group). g.row) p.groups) (flat_map (λ (g : Group). g.volumes) p.groups) (flat_map (λ (g : Group). g.cells) p.groups) (flat_map own_namings p.groups) p.groups a.entities
  own_entities = record { rising = p.rising; each = p.each; rows_are = IsPermutation-refl _; volumes_are = IsPermutation-refl _; cells_are = IsPermutation-refl _; namings_are = IsPermutation-refl _; kept = p.kept }

  pub own_stated : AreStated (entries a.availabilities) a.availabilities
  own_stated = record { are = IsPermutation-refl _; stated = p.stated }
