-- Proofs that the check of tables that were created anew decides whether those of the old order are
-- accepted.
use Rattle.std.proofs.Common.{◌≡◌, ℕ, ℤ, List, [], ◌∷◌, map, flat_map, Ok, Err, Result, refl, sym, ap, subst, ◌∙◌}
use Rattle.std.specs.Prelude.{IsPermutation, Vec}
use Rattle.std.specs.Global.{Global}
use Rattle.std.specs.List.{AllByRecursion}
use Rattle.std.specs.FinMap.{entries}
use Rattle.std.proofs.lemmas.List.Sorted.{IsPermutation-refl, IsPermutation-sym, IsPermutation-trans}
use Rattle.sqlite_keyed.proofs.ListLemmas.{map-map, map-flat_map}
use Rattle.sqlite.specs.Effect.{Database, IsDatabase}
use Rattle.sqlite.specs.Order.{Row}
use Rattle.sqlite.specs.Schema.{Schema}
use Rattle.sqlite.specs.Tree.{Trees}
use Rattle.entity_core.specs.Airspace.{Airspace, VersionedAvailability}
use Rattle.space_rows.proofs.Chunks.{all_joined}
use Rattle.space_sql_schema.specs.declared.format.Format.TheVariants.{One, Two, OldOne, OldTwoUnindexed, OldTwo}
use Rattle.space_sql_schema.specs.Making.{HasMeta, HasRows}
use Rattle.space_sql_schema.specs.Spelling.{IsStated, IsSubGroup, SpellsAs, SubGroup, availability_values, sub_values, sub_cell_values, meta_columns, sub_columns, five_columns, two_columns, three_columns}
use Rattle.space_sql_schema.specs.Tables.{first_schema, second_schema, old_first_schema, old_second_schema, old_unindexed_schema}
use Rattle.space_sql_schema.proofs.Making.{none_apart}
use Rattle.space_sql_schema.proofs.OneAirspace.{stated_of_values, stated_back}
use Rattle.space_sql_schema.proofs.Upgraded.{HasMovedRows, spells_bare, spelt_bare, spelt_moved}
use Rattle.space_sql_select.specs.AvailabilityRecord.{SaysSetting, stated_by}
use Rattle.space_sql_select.specs.Rows.{IsRowOf, IsWrittenSub, IsWrittenSubCell}
use Rattle.space_sql_select.specs.declared.availability_record.AvailabilityRecord.{AvailabilityRecord}
use Rattle.space_sql_load.proofs.Groups.{naming_list_of, namings_as_rows}
use Rattle.space_sql_load.proofs.Written.{all_written, sub_cells_written, sub_written}
use Rattle.space_sql_open.specs.FirstMeta.{SaysMeta}
use Rattle.space_sql_open.specs.Opening.{UpgradesFormat, format_before}
use Rattle.space_sql_open.specs.OldRows.{HoldsAside, HoldsSettings, Takes, WantsAside, WantsCells, WantsNamings, WantsSettings, WantsSubs, IsWrittenRecord, record_values}
use Rattle.space_sql_open.specs.Relaying.{HasListed, MovesFirst, MovesSecond, TakesFirst, TakesSecond, listed, nothing, with_settings}
use Rattle.space_sql_open.specs.Upgrading.{Judges}
use Rattle.space_sql_open.specs.declared.old_format.OldFormat.{OldFormat}
use Rattle.space_sql_open.specs.declared.old_format.OldFormat.TheVariants as old_format
use Rattle.space_sql_open.specs.declared.old_rows.Aside.{Aside}
use Rattle.space_sql_open.specs.declared.open_fault.OpenFault.{OpenFault}
use Rattle.space_sql_open.specs.declared.open_fault.OpenFault.TheVariants.{NotADss, Version, Store}
use Rattle.space_sql_open.proofs.Moves.{moves, not_other, not_other_after, same_meta}

-- ---- typed rows of an airspace

pub record_of : List ℕ × VersionedAvailability → AvailabilityRecord
record_of s = record { uss = s.0; availability = s.1.0; version = s.1.1 }

pub record_of_values : Row → AvailabilityRecord
record_of_values row = record_of (stated_of_values row)

pub record_back : (s : AvailabilityRecord) → record_of_values (record_values s) ≡ s
unfolding record_of record_of_values
record_back s = ap record_of (stated_back (stated_by s))

-- A row that says what a USS has set is that of a typed row.
pub is_record : (row : Row) (s : AvailabilityRecord) → SaysSetting row (stated_by s) → IsRowOf record_values IsWrittenRecord row s
is_record row s says = record { written = says.stated; values_are = says.values }

pub no_record : (row : Row) → ((s : AvailabilityRecord) → ¬ SaysSetting row (stated_by s)) → (s : AvailabilityRecord) → ¬ IsRowOf record_values IsWrittenRecord row s
no_record row none s is = none s (record { values = is.values_are; stated = is.written })

records_written : (es : List (List ℕ × VersionedAvailability)) → AllByRecursion IsStated es → AllByRecursion IsWrittenRecord (map record_of es)
unfolding record_of
records_written [] all = tt
records_written (s ∷ es) all = (all.0, records_written es all.1)

records_same : (es : List (List ℕ × VersionedAvailability)) → map record_values (map record_of es) ≡ map availability_values es
unfolding record_of
records_same [] = refl
records_same (s ∷ es) = ap (λ l. availability_values s ∷ l) (records_same es)

wants_settings : (a : Airspace) (rows : List Row) (trees : Trees) → rows ≡ trees 8 → IsPermutation (map availability_values (entries a.availabilities)) (map three_columns rows) → AllByRecursion IsStated (entries a.availabilities) → WantsSettings trees
wants_settings a rows trees is same stated = record {
  typed = map record_of (entries a.availabilities);
  written = records_written (entries a.availabilities) stated;
  same = subst (λ k. IsPermutation k (map three_columns (trees 8))) (sym (records_same (entries a.availabilities))) (subst (λ rs. IsPermutation (map availability_values (entries a.availabilities)) (map three_columns rs)) is same);
}

subs_all_written : (serial : ℕ) (gs : List SubGroup) → AllByRecursion (IsSubGroup serial) gs → AllByRecursion IsWrittenSub (map (λ (g : SubGroup). g.row) gs)
subs_all_written serial [] all = tt
subs_all_written serial (g ∷ gs) all = (sub_written g.row g.cells g.sub all.0.spelt, subs_all_written serial gs all.1)

cells_all_written : (serial : ℕ) (gs : List SubGroup) → AllByRecursion (IsSubGroup serial) gs → AllByRecursion IsWrittenSubCell (flat_map (λ (g : SubGroup). g.cells) gs)
cells_all_written serial [] all = tt
cells_all_written serial (g ∷ gs) all = all_joined IsWrittenSubCell g.cells _ (sub_cells_written g.row.num g.cells _ all.0.spelt.cells_are) (cells_all_written serial gs all.1)

module _ (old : Database) (a : Airspace) (p : SpellsAs OldTwoUnindexed old a) where
  wants_subs : WantsSubs old.trees
  wants_subs = record {
    typed = map (λ (g : SubGroup). g.row) p.subs;
    written = subs_all_written a.serial p.subs p.each_sub;
    same = subst (λ k. IsPermutation k (map sub_columns (old.trees 10))) (sym (map-map sub_values (λ (g : SubGroup). g.row) p.subs)) p.sub_rows;
  }

  wants_cells : WantsCells old.trees
  wants_cells = record {
    typed = flat_map (λ (g : SubGroup). g.cells) p.subs;
    written = cells_all_written a.serial p.subs p.each_sub;
    same = subst (λ k. IsPermutation k (map five_columns (old.trees 12))) (sym (map-flat_map sub_cell_values (λ (g : SubGroup). g.cells) p.subs)) p.sub_cells;
  }

  wants_namings : WantsNamings old.trees
  wants_namings = record {
    typed = flat_map naming_list_of p.groups;
    written = all_written (flat_map naming_list_of p.groups);
    same = subst (λ k. IsPermutation k (map two_columns (old.trees 15))) (namings_as_rows p.groups) p.namings;
  }

  wants_aside : WantsAside old.trees
  wants_aside = ((wants_subs, wants_cells), (wants_namings, wants_settings a (old.trees 8) old.trees refl p.availabilities p.stated))

-- ---- what is taken aside

-- After reading, the tables are unchanged.
pub said_same : (s : Schema) (old new : Database) → new ≡ old → old.schema ≡ s → new.schema ≡ s
said_same s old new same has = ap (λ (d : Database). d.schema) same ∙ has

pub taken_first : (old mid new : Database) (r : Result (Vec AvailabilityRecord Global) OpenFault) → SaysMeta 1 OldOne old mid (Ok tt) → Takes WantsSettings HoldsSettings mid new r → TakesFirst old new r
taken_first old mid new (Ok v) said took = (said.0, subst (λ (d : Database). HoldsSettings d.trees v) said.1 took.0, took.1 ∙ said.1)
taken_first old mid new (Err NotADss) said took =
    ((λ a p. took (subst (λ (d : Database). WantsSettings d.trees) (sym said.1) (wants_settings a (old.trees 8) old.trees refl p.availabilities p.stated))), not_other old said.0.0 said.0.1)
taken_first old mid new (Err Version) said took = absurd took
taken_first old mid new (Err Store) said took = tt

pub taken_second : (old mid new : Database) (r : Result Aside OpenFault) → SaysMeta 2 OldTwoUnindexed old mid (Ok tt) → Takes WantsAside HoldsAside mid new r → TakesSecond old new r
taken_second old mid new (Ok aside) said took = (said.0, subst (λ (d : Database). HoldsAside d.trees aside) said.1 took.0, took.1 ∙ said.1)
taken_second old mid new (Err NotADss) said took = ((λ a p. took (subst (λ (d : Database). WantsAside d.trees) (sym said.1) (wants_aside old a p))), not_other_after old said.0.0 said.0.1)
taken_second old mid new (Err Version) said took = absurd took
taken_second old mid new (Err Store) said took = tt

-- ---- the check of the new tables

-- The result is right for tables that represent the same airspaces.
pub transferred : (from to : OldFormat) (old mid new : Database) (r : Result (Unit {0}) OpenFault) → ((a : Airspace) → SpellsAs (format_before from) old a → SpellsAs (format_before to) mid a) → ((a : Airspace) → SpellsAs (format_before to) mid a → SpellsAs (format_before from) old a)
    → mid.trees 0 ≡ old.trees 0 → UpgradesFormat to mid new r → UpgradesFormat from old new r
transferred from to old mid new (Ok x) there back meta it = (it.0, back it.0 it.1, it.2, it.3)
transferred from to old mid new (Err NotADss) there back meta it = ((λ a p. it.0 a (there a p)), (λ other. it.1 (same_meta mid old (sym meta) other)))
transferred from to old mid new (Err Version) there back meta it = same_meta old mid meta it
transferred from to old mid new (Err Store) there back meta it = tt

-- Tables of format 1 with these trees.
abbrev pub first_with : Trees → Database
first_with trees = record { schema = first_schema; trees = trees }

module _ (old mid : Database) (settings : Vec AvailabilityRecord Global) (has : HasListed old.trees (with_settings settings.items nothing) mid) (held : HoldsSettings old.trees settings) (schema : old.schema ≡ old_first_schema) where
  stated_moved : IsPermutation (map three_columns (old.trees 8)) (map three_columns (mid.trees 7))
  stated_moved = IsPermutation-trans _ _ _ held has.settings.same

  first_there : HasMovedRows OldOne One old (first_with mid.trees)
  first_there = record {
    schema = refl;
    number = refl;
    meta = has.meta;
    entities = has.entities;
    volumes = has.volumes;
    cells = has.cells;
    availabilities = stated_moved;
    subs = IsPermutation-refl _;
    sub_cells = IsPermutation-refl _;
    namings = IsPermutation-refl _;
    apart = (has.settings.apart, none_apart [] refl);
  }

  first_back : HasMovedRows One OldOne (first_with mid.trees) old
  first_back = record {
    schema = schema;
    number = refl;
    meta = sym has.meta;
    entities = sym has.entities;
    volumes = sym has.volumes;
    cells = sym has.cells;
    availabilities = IsPermutation-sym _ _ stated_moved;
    subs = IsPermutation-refl _;
    sub_cells = IsPermutation-refl _;
    namings = IsPermutation-refl _;
    apart = (tt, tt);
  }

-- The result of the check of the new tables is right for those of format 1 in the old order.
pub first_laid : (old mid new : Database) (settings : Vec AvailabilityRecord Global) (r : Result (Unit {0}) OpenFault) → old.schema ≡ old_first_schema → ((serial : ℤ) × HasMeta 1 serial (old.trees 0)) → HoldsSettings old.trees settings
    → MovesFirst settings.items old mid (Ok tt) → Judges mid new r → UpgradesFormat old_format.OldOne old new r
first_laid old mid new settings r schema meta held moved judged =
    let v = first_with moved.0.trees in
    let there = first_there old moved.0 settings moved.1 held schema in
    let back = first_back old moved.0 settings moved.1 held schema in
    let it = moves v mid new r (record { schema = refl; serial = meta.0; meta = ap (map meta_columns) moved.1.meta ∙ meta.1; upgraded = moved.2 }) judged in
    transferred old_format.OldOne old_format.One old v new r (λ a. spelt_moved OldOne One old v a there) (λ a. spelt_moved One OldOne v old a back) moved.1.meta it

module _ (old mid : Database) (aside : Aside) (has : HasListed old.trees (listed aside) mid) (held : HoldsAside old.trees aside) (schema : old.schema ≡ old_unindexed_schema) where
  second_there : HasMovedRows OldTwoUnindexed Two old mid
  second_there = record {
    schema = has.schema;
    number = refl;
    meta = has.meta;
    entities = has.entities;
    volumes = has.volumes;
    cells = has.cells;
    availabilities = IsPermutation-trans _ _ _ held.1.1 has.settings.same;
    subs = IsPermutation-trans _ _ _ held.0.0 has.subs.same;
    sub_cells = IsPermutation-trans _ _ _ held.0.1 has.sub_cells.same;
    namings = IsPermutation-trans _ _ _ held.1.0 has.namings.same;
    apart = (has.settings.apart, has.sub_cells.apart);
  }

  second_back : HasMovedRows Two OldTwoUnindexed mid old
  second_back = record {
    schema = schema;
    number = refl;
    meta = sym has.meta;
    entities = sym has.entities;
    volumes = sym has.volumes;
    cells = sym has.cells;
    availabilities = IsPermutation-sym _ _ second_there.availabilities;
    subs = IsPermutation-sym _ _ second_there.subs;
    sub_cells = IsPermutation-sym _ _ second_there.sub_cells;
    namings = IsPermutation-sym _ _ second_there.namings;
    apart = (tt, tt);
  }

-- The result of the check of the new tables is right for those of format 2 in the old order.
pub second_laid : (old mid new : Database) (aside : Aside) (r : Result (Unit {0}) OpenFault) → old.schema ≡ old_unindexed_schema → HoldsAside old.trees aside → HasListed old.trees (listed aside) mid → Judges mid new r → UpgradesFormat old_format.OldTwoUnindexed old new r
second_laid old mid new aside (Ok x) schema held has judged =
    let a = judged.0.0 in
    subst (λ (d : Database). (a : Airspace) × SpellsAs OldTwoUnindexed old a × SpellsAs Two d a × IsDatabase d) (sym judged.1)
    (a, spelt_moved Two OldTwoUnindexed mid old a (second_back old mid aside has held schema) judged.0.1, judged.0.1, has.sound)
second_laid old mid new aside (Err NotADss) schema held has judged =
    ((λ a p. judged.0 a (spelt_moved OldTwoUnindexed Two old mid a (second_there old mid aside has held schema) p)), (λ other. judged.1 (same_meta mid old (sym has.meta) other)))
second_laid old mid new aside (Err Version) schema held has judged = same_meta old mid has.meta judged
second_laid old mid new aside (Err Store) schema held has judged = tt

-- ---- the index on `naming`

pub indexed_laid : (old mid new : Database) (r : Result (Unit {0}) OpenFault) → old.schema ≡ old_second_schema → HasRows old_unindexed_schema old.trees mid → UpgradesFormat old_format.OldTwoUnindexed mid new r → UpgradesFormat old_format.OldTwo old new r
indexed_laid old mid new r schema has it =
    transferred old_format.OldTwo old_format.OldTwoUnindexed old mid new r (λ a. spells_bare old mid a has) (λ a. spelt_bare old mid a schema has) has.1.0 it

-- ---- steps in sequence

-- Holds if `meta` said format 1, and the tables were created anew.
pub record HasLaidFirst (old new : Database) : Type 0 where
  pub schema : old.schema ≡ old_first_schema
  pub meta : (serial : ℤ) × HasMeta 1 serial (old.trees 0)
  pub settings : Vec AvailabilityRecord Global
  pub held : HoldsSettings old.trees settings
  pub moved : MovesFirst settings.items old new (Ok tt)

abbrev pub HasLaidFirstOk : Database → Database → Result (Unit {0}) OpenFault → Type 0
HasLaidFirstOk old new r = HasLaidFirst old new

pub has_laid_first : (old mid new : Database) (settings : Vec AvailabilityRecord Global) → old.schema ≡ old_first_schema → TakesFirst old mid (Ok settings) → MovesFirst settings.items mid new (Ok tt) → HasLaidFirst old new
has_laid_first old mid new settings schema took moved = record {
  schema = schema;
  meta = took.0;
  settings = settings;
  held = took.1;
  moved = subst (λ (d : Database). MovesFirst settings.items d new (Ok tt)) took.2 moved;
}

pub laid_first_schema : (old new : Database) → HasLaidFirst old new → new.schema ≡ second_schema
laid_first_schema old new h = (h.moved.2 h.meta.0 (ap (map meta_columns) h.moved.1.meta ∙ h.meta.1)).schema

pub laid_first : (old mid new : Database) (r : Result (Unit {0}) OpenFault) → HasLaidFirst old mid → Judges mid new r → UpgradesFormat old_format.OldOne old new r
laid_first old mid new r h judged = first_laid old mid new h.settings r h.schema h.meta h.held h.moved judged

-- Holds if tables of format 2 were created anew.
pub record HasLaidSecond (old new : Database) : Type 0 where
  pub schema : old.schema ≡ old_unindexed_schema
  pub aside : Aside
  pub held : HoldsAside old.trees aside
  pub has : HasListed old.trees (listed aside) new

abbrev pub HasLaidSecondOk : Database → Database → Result (Unit {0}) OpenFault → Type 0
HasLaidSecondOk old new r = HasLaidSecond old new

pub has_laid_second : (old mid new : Database) (aside : Aside) → old.schema ≡ old_unindexed_schema → TakesSecond old mid (Ok aside) → MovesSecond (listed aside) mid new (Ok tt) → HasLaidSecond old new
has_laid_second old mid new aside schema took moved = record {
  schema = schema;
  aside = aside;
  held = took.1;
  has = subst (λ (d : Database). HasListed d.trees (listed aside) new) took.2 moved;
}

pub laid_second : (old mid new : Database) (r : Result (Unit {0}) OpenFault) → HasLaidSecond old mid → Judges mid new r → UpgradesFormat old_format.OldTwoUnindexed old new r
laid_second old mid new r h judged = second_laid old mid new h.aside r h.schema h.held h.has judged
