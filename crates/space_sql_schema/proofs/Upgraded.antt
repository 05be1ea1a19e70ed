-- Proofs that an upgrade to format 2 keeps the airspace that the tables represent.
use Rattle.std.proofs.Common.{◌≡◌, List, [], ◌∷◌, map, ap, sym, subst, ◌∙◌, pos, refl, ℤ}
use Rattle.std.specs.Prelude.{IsPermutation}
use Rattle.std.specs.List.{flat_map}
use Rattle.std.proofs.lemmas.List.Sorted.{IsPermutation-trans}
use Rattle.std.specs.FinMap.{entries}
use Rattle.sqlite.specs.Tree.{Trees}
use Rattle.sqlite.specs.Order.{Row}
use Rattle.sqlite.specs.Effect.{Database, IsDatabase}
use Rattle.sqlite.specs.State.{State}
use Rattle.entity_core.specs.Airspace.{Airspace}
use Rattle.space_sql_schema.specs.declared.format.Format.{Format}
use Rattle.space_sql_schema.specs.declared.format.Format.TheVariants.{One, TwoUnindexed, Two, OldTwoUnindexed, OldTwo}
use Rattle.space_sql_schema.specs.Tables.{first_schema, unindexed_schema, second_schema, old_unindexed_schema, old_second_schema, schema_of, format_number}
use Rattle.space_sql_schema.specs.Spelling.{SpellsAs, AreApart, AreFit, availability_rows, later_rows, meta_columns, meta_values, SubGroup, Group, naming_rows_of, entity_values, volume_values, cell_values, availability_values, entity_columns, six_columns, three_columns, sub_values, sub_columns, sub_cell_values, five_columns, two_columns}
use Rattle.space_sql_schema.specs.Making.{AddsIndex, HasMeta, HasRows, IsUpgraded, MayBeUpgraded, Upgrades}
use Rattle.space_sql_schema.proofs.Making.{none_apart}

pub spells_upgraded : (old new : Database) (a : Airspace) → SpellsAs One old a → IsUpgraded old.trees new → SpellsAs Two new a
spells_upgraded old new a p upgraded =
    let it = upgraded (pos a.serial) p.meta in
    record {
      schema = it.schema;
      meta = it.meta;
      most = p.most;
      subs = p.subs;
      subs_rising = p.subs_rising;
      each_sub = p.each_sub;
      sub_rows = subst (λ rows. IsPermutation (map (λ (s : SubGroup). sub_values s.row) p.subs) (map sub_columns rows)) (sym it.bare.0) p.sub_rows;
      sub_cells = subst (λ rows. IsPermutation (flat_map (λ (s : SubGroup). map sub_cell_values s.cells) p.subs) (map five_columns rows)) (sym it.bare.1) p.sub_cells;
      subs_kept = p.subs_kept;
      groups = p.groups;
      rising = p.rising;
      each = p.each;
      entities = subst (λ rows. IsPermutation (map (λ (g : Group). entity_values g.row) p.groups) (map entity_columns rows)) (sym it.entities) p.entities;
      volumes = subst (λ rows. IsPermutation (flat_map (λ (g : Group). map volume_values g.volumes) p.groups) (map six_columns rows)) (sym it.volumes) p.volumes;
      cells = subst (λ rows. IsPermutation (flat_map (λ (g : Group). map cell_values g.cells) p.groups) (map six_columns rows)) (sym it.cells) p.cells;
      namings = subst (λ rows. IsPermutation (flat_map naming_rows_of p.groups) (map two_columns rows)) (sym it.bare.2) p.namings;
      kept = p.kept;
      availabilities = subst (λ rows. IsPermutation (map availability_values (entries a.availabilities)) (map three_columns rows)) (sym it.availabilities) p.availabilities;
      stated = p.stated;
      apart = (subst AreApart (sym it.volumes) p.apart.0, subst AreApart (sym it.cells) p.apart.1, subst AreApart (sym it.availabilities) p.apart.2, subst AreApart (sym it.bare.1) p.apart.3);
    }

-- If `meta` had format 1 before the upgrade, the tables represented the same airspace then.
pub spelt_before : (old new : Database) (a : Airspace) (serial : ℤ) → old.schema ≡ first_schema → HasMeta 1 serial (old.trees 0) → IsUpgraded old.trees new → SpellsAs Two new a → SpellsAs One old a
spelt_before old new a serial schema meta upgraded p =
    let it = upgraded serial meta in
    let same : serial ≡ pos a.serial = let e = sym it.meta ∙ p.meta in cc in
    record {
      schema = schema;
      meta = subst (λ n. HasMeta 1 n (old.trees 0)) same meta;
      most = p.most;
      subs = p.subs;
      subs_rising = p.subs_rising;
      each_sub = p.each_sub;
      sub_rows = subst (λ rows. IsPermutation (map (λ (s : SubGroup). sub_values s.row) p.subs) (map sub_columns rows)) it.bare.0 p.sub_rows;
      sub_cells = subst (λ rows. IsPermutation (flat_map (λ (s : SubGroup). map sub_cell_values s.cells) p.subs) (map five_columns rows)) it.bare.1 p.sub_cells;
      subs_kept = p.subs_kept;
      groups = p.groups;
      rising = p.rising;
      each = p.each;
      entities = subst (λ rows. IsPermutation (map (λ (g : Group). entity_values g.row) p.groups) (map entity_columns rows)) it.entities p.entities;
      volumes = subst (λ rows. IsPermutation (flat_map (λ (g : Group). map volume_values g.volumes) p.groups) (map six_columns rows)) it.volumes p.volumes;
      cells = subst (λ rows. IsPermutation (flat_map (λ (g : Group). map cell_values g.cells) p.groups) (map six_columns rows)) it.cells p.cells;
      namings = subst (λ rows. IsPermutation (flat_map naming_rows_of p.groups) (map two_columns rows)) it.bare.2 p.namings;
      kept = p.kept;
      availabilities = subst (λ rows. IsPermutation (map availability_values (entries a.availabilities)) (map three_columns rows)) it.availabilities p.availabilities;
      stated = p.stated;
      apart = (subst AreApart it.volumes p.apart.0, subst AreApart it.cells p.apart.1, subst AreApart it.availabilities p.apart.2, none_apart [] refl);
    }

-- After the upgrade, the rows also obey the schema.
pub upgraded_again : (old new : Database) → Upgrades old new → (a : Airspace) → SpellsAs One old a → IsDatabase new × SpellsAs Two new a
upgraded_again old new upgrades a p =
    let upgraded = upgrades old.trees (p.schema, (refl, (refl, (refl, (refl, (refl, tt)))))) in
    ((upgraded (pos a.serial) p.meta).sound, spells_upgraded old new a p upgraded)

pub may_be_upgraded : (old last : State) → Upgrades old.now last.now → (db : Trees) → db ≡ last.now.trees → MayBeUpgraded old db
may_be_upgraded old last upgrades db is a p = let it = upgraded_again old.now last.now upgrades a p in (last.now, is, it.0, it.1)

-- ---- the index on `naming`

-- Holds if the second database has the schema of its format, and the rows of the first one.
pub record SameRows (own other : Format) (old new : Database) : Type 0 where
  pub schema : new.schema ≡ schema_of other
  pub number : format_number own ≡ format_number other
  pub meta : new.trees 0 ≡ old.trees 0
  pub entities : new.trees 1 ≡ old.trees 1
  pub volumes : new.trees 3 ≡ old.trees 3
  pub cells : new.trees 5 ≡ old.trees 5
  pub availabilities : availability_rows other new ≡ availability_rows own old
  pub subs : later_rows other new 9 ≡ later_rows own old 9
  pub sub_cells : later_rows other new 11 ≡ later_rows own old 11
  pub namings : later_rows other new 13 ≡ later_rows own old 13
  pub fit : (rows : List Row) → AreFit own rows → AreFit other rows

pub respelt : (own other : Format) (old new : Database) (a : Airspace) → SameRows own other old new → SpellsAs own old a → SpellsAs other new a
respelt own other old new a it p = record {
  schema = it.schema;
  meta = ap (map meta_columns) it.meta ∙ p.meta ∙ ap (λ n. meta_values n a.serial ∷ []) it.number;
  most = p.most;
  subs = p.subs;
  subs_rising = p.subs_rising;
  each_sub = p.each_sub;
  sub_rows = subst (λ rows. IsPermutation (map (λ (s : SubGroup). sub_values s.row) p.subs) (map sub_columns rows)) (sym it.subs) p.sub_rows;
  sub_cells = subst (λ rows. IsPermutation (flat_map (λ (s : SubGroup). map sub_cell_values s.cells) p.subs) (map five_columns rows)) (sym it.sub_cells) p.sub_cells;
  subs_kept = p.subs_kept;
  groups = p.groups;
  rising = p.rising;
  each = p.each;
  entities = subst (λ rows. IsPermutation (map (λ (g : Group). entity_values g.row) p.groups) (map entity_columns rows)) (sym it.entities) p.entities;
  volumes = subst (λ rows. IsPermutation (flat_map (λ (g : Group). map volume_values g.volumes) p.groups) (map six_columns rows)) (sym it.volumes) p.volumes;
  cells = subst (λ rows. IsPermutation (flat_map (λ (g : Group). map cell_values g.cells) p.groups) (map six_columns rows)) (sym it.cells) p.cells;
  namings = subst (λ rows. IsPermutation (flat_map naming_rows_of p.groups) (map two_columns rows)) (sym it.namings) p.namings;
  kept = p.kept;
  availabilities = subst (λ rows. IsPermutation (map availability_values (entries a.availabilities)) (map three_columns rows)) (sym it.availabilities) p.availabilities;
  stated = p.stated;
  apart = (subst AreApart (sym it.volumes) p.apart.0, subst AreApart (sym it.cells) p.apart.1, subst (AreFit other) (sym it.availabilities) (it.fit _ p.apart.2), subst (AreFit other) (sym it.sub_cells) (it.fit _ p.apart.3));
}

abbrev all_rows : (db : Database) → db.schema ≡ unindexed_schema → HasRows unindexed_schema db.trees db
all_rows db has = (has, (refl, (refl, (refl, (refl, (refl, (refl, (refl, (refl, tt)))))))))

-- The index changes no row.
pub adds_index : (old new : Database) → AddsIndex old new → old.schema ≡ unindexed_schema → HasRows second_schema old.trees new × IsDatabase new
adds_index old new adds has = adds old.trees (all_rows old has)

-- With the index, the tables represent the same airspace.
pub spells_indexed : (old new : Database) (a : Airspace) → HasRows second_schema old.trees new → SpellsAs TwoUnindexed old a → SpellsAs Two new a
spells_indexed old new a has = respelt TwoUnindexed Two old new a (record {
  schema = has.0;
  number = refl;
  meta = has.1.0;
  entities = has.1.1.0;
  volumes = has.1.1.1.0;
  cells = has.1.1.1.1.0;
  availabilities = has.1.1.1.1.1.0;
  subs = has.1.1.1.1.1.1.0;
  sub_cells = has.1.1.1.1.1.1.1.0;
  namings = has.1.1.1.1.1.1.1.1.0;
  fit = λ rows fit. fit;
})

-- They represented it before.
pub spelt_unindexed : (old new : Database) (a : Airspace) → old.schema ≡ unindexed_schema → HasRows second_schema old.trees new → SpellsAs Two new a → SpellsAs TwoUnindexed old a
spelt_unindexed old new a schema has = respelt Two TwoUnindexed new old a (record {
  schema = schema;
  number = refl;
  meta = sym has.1.0;
  entities = sym has.1.1.0;
  volumes = sym has.1.1.1.0;
  cells = sym has.1.1.1.1.0;
  availabilities = sym has.1.1.1.1.1.0;
  subs = sym has.1.1.1.1.1.1.0;
  sub_cells = sym has.1.1.1.1.1.1.1.0;
  namings = sym has.1.1.1.1.1.1.1.1.0;
  fit = λ rows fit. fit;
})

-- ---- rows in another order

-- Holds if the second database has the schema of its format, and the rows of the first one. The
-- rows of the tables after `cell` are in any order.
pub record HasMovedRows (own other : Format) (old new : Database) : Type 0 where
  pub schema : new.schema ≡ schema_of other
  pub number : format_number own ≡ format_number other
  pub meta : new.trees 0 ≡ old.trees 0
  pub entities : new.trees 1 ≡ old.trees 1
  pub volumes : new.trees 3 ≡ old.trees 3
  pub cells : new.trees 5 ≡ old.trees 5
  pub availabilities : IsPermutation (map three_columns (availability_rows own old)) (map three_columns (availability_rows other new))
  pub subs : IsPermutation (map sub_columns (later_rows own old 9)) (map sub_columns (later_rows other new 9))
  pub sub_cells : IsPermutation (map five_columns (later_rows own old 11)) (map five_columns (later_rows other new 11))
  pub namings : IsPermutation (map two_columns (later_rows own old 13)) (map two_columns (later_rows other new 13))
  pub apart : AreFit other (availability_rows other new) × AreFit other (later_rows other new 11)

-- The tables represent the same airspace.
pub spelt_moved : (own other : Format) (old new : Database) (a : Airspace) → HasMovedRows own other old new → SpellsAs own old a → SpellsAs other new a
spelt_moved own other old new a it p = record {
  schema = it.schema;
  meta = ap (map meta_columns) it.meta ∙ p.meta ∙ ap (λ n. meta_values n a.serial ∷ []) it.number;
  most = p.most;
  subs = p.subs;
  subs_rising = p.subs_rising;
  each_sub = p.each_sub;
  sub_rows = IsPermutation-trans _ _ _ p.sub_rows it.subs;
  sub_cells = IsPermutation-trans _ _ _ p.sub_cells it.sub_cells;
  subs_kept = p.subs_kept;
  groups = p.groups;
  rising = p.rising;
  each = p.each;
  entities = subst (λ rows. IsPermutation (map (λ (g : Group). entity_values g.row) p.groups) (map entity_columns rows)) (sym it.entities) p.entities;
  volumes = subst (λ rows. IsPermutation (flat_map (λ (g : Group). map volume_values g.volumes) p.groups) (map six_columns rows)) (sym it.volumes) p.volumes;
  cells = subst (λ rows. IsPermutation (flat_map (λ (g : Group). map cell_values g.cells) p.groups) (map six_columns rows)) (sym it.cells) p.cells;
  namings = IsPermutation-trans _ _ _ p.namings it.namings;
  kept = p.kept;
  availabilities = IsPermutation-trans _ _ _ p.availabilities it.availabilities;
  stated = p.stated;
  apart = (subst AreApart (sym it.volumes) p.apart.0, subst AreApart (sym it.cells) p.apart.1, it.apart.0, it.apart.1);
}

-- ---- the index on `naming` in the old order

-- Without the index, the tables represent the same airspace.
pub spells_bare : (old new : Database) (a : Airspace) → HasRows old_unindexed_schema old.trees new → SpellsAs OldTwo old a → SpellsAs OldTwoUnindexed new a
spells_bare old new a has = respelt OldTwo OldTwoUnindexed old new a (record {
  schema = has.0;
  number = refl;
  meta = has.1.0;
  entities = has.1.1.0;
  volumes = has.1.1.1.0;
  cells = has.1.1.1.1.0;
  availabilities = has.1.1.1.1.1.0;
  subs = has.1.1.1.1.1.1.0;
  sub_cells = has.1.1.1.1.1.1.1.0;
  namings = has.1.1.1.1.1.1.1.1.0;
  fit = λ rows fit. fit;
})

-- They represented it before.
pub spelt_bare : (old new : Database) (a : Airspace) → old.schema ≡ old_second_schema → HasRows old_unindexed_schema old.trees new → SpellsAs OldTwoUnindexed new a → SpellsAs OldTwo old a
spelt_bare old new a schema has = respelt OldTwoUnindexed OldTwo new old a (record {
  schema = schema;
  number = refl;
  meta = sym has.1.0;
  entities = sym has.1.1.0;
  volumes = sym has.1.1.1.0;
  cells = sym has.1.1.1.1.0;
  availabilities = sym has.1.1.1.1.1.0;
  subs = sym has.1.1.1.1.1.1.0;
  sub_cells = sym has.1.1.1.1.1.1.1.0;
  namings = sym has.1.1.1.1.1.1.1.1.0;
  fit = λ rows fit. fit;
})
