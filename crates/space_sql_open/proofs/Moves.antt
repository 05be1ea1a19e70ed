-- Proofs that the check of the upgraded tables decides whether tables of format 1 are accepted.
use Rattle.std.proofs.Common.{◌≡◌, ap, map, ℤ, Ok, Err, Result, OnOk, refl, sym, subst, ◌∙◌}
use Rattle.sqlite.specs.Effect.{Database, IsDatabase}
use Rattle.sqlite.specs.declared.error.Error.{Error}
use Rattle.entity_core.specs.Airspace.{Airspace}
use Rattle.space_sql_select.specs.Meta.{IsOtherFormat}
use Rattle.space_sql_schema.specs.declared.format.Format.TheVariants.{One, TwoUnindexed, Two}
use Rattle.space_sql_schema.specs.Making.{HasMeta, HasRows, IsUpgraded, Upgrades}
use Rattle.space_sql_schema.specs.Spelling.{SpellsAs, meta_columns}
use Rattle.space_sql_schema.specs.Tables.{first_schema, unindexed_schema, second_schema}
use Rattle.space_sql_schema.proofs.Upgraded.{spells_indexed, spells_upgraded, spelt_before, spelt_unindexed}
use Rattle.space_sql_open.specs.FirstMeta.{SaysMeta}
use Rattle.space_sql_open.specs.Upgrading.{Judges, Rewrites}
use Rattle.space_sql_open.specs.Opening.{UpgradesFormat}
use Rattle.space_sql_open.specs.declared.old_format.OldFormat.TheVariants as old_format
use Rattle.space_sql_open.specs.declared.open_fault.OpenFault.{OpenFault}
use Rattle.space_sql_open.specs.declared.open_fault.OpenFault.TheVariants.{NotADss, Version, Store}

-- An upgrade applies to the existing rows.
pub rewritten : (old new : Database) → Upgrades old new → old.schema ≡ first_schema → IsUpgraded old.trees new
rewritten old new upgrades has = upgrades old.trees (has, (refl, (refl, (refl, (refl, (refl, tt))))))

pub rewrites : (old new : Database) (p : Result (Unit {0}) Error) (x : Unit {0}) → ◌≡◌ {A = Result (Unit {0}) Error} p (Ok x) → old.schema ≡ first_schema → OnOk p (Upgrades old new) → Rewrites old new (Ok x)
rewrites old new p x is has h = rewritten old new (rw is at h) has

-- Holds if `meta` had format 1, and the tables were upgraded.
pub record HasMoved (old new : Database) : Type 0 where
  pub schema : old.schema ≡ first_schema
  pub serial : ℤ
  pub meta : HasMeta 1 serial (old.trees 0)
  pub upgraded : IsUpgraded old.trees new

-- Holds if `HasMoved` does after a successful result of the steps so far.
abbrev pub HasMovedOk : Database → Database → Result (Unit {0}) OpenFault → Type 0
HasMovedOk old new r = HasMoved old new

-- After reading `meta`, the tables are unchanged.
pub same_schema : (old new : Database) → SaysMeta 1 One old new (Ok tt) → old.schema ≡ first_schema → new.schema ≡ first_schema
same_schema old new said has = ap (λ (d : Database). d.schema) said.1 ∙ has

pub has_moved : (old mid new : Database) (x y : Unit {0}) → old.schema ≡ first_schema → SaysMeta 1 One old mid (Ok x) → Rewrites mid new (Ok y) → HasMoved old new
has_moved old mid new x y has said rewrote = record { schema = has; serial = said.0.0; meta = said.0.1; upgraded = subst (λ (d : Database). IsUpgraded d.trees new) said.1 rewrote }

pub moved_schema : (old new : Database) → HasMoved old new → new.schema ≡ second_schema
moved_schema old new h = (h.upgraded h.serial h.meta).schema

-- If `meta` says format 1, it says no other format.
pub not_other : (db : Database) (serial : ℤ) → HasMeta 1 serial (db.trees 0) → ¬ IsOtherFormat db
not_other db serial meta other = other.not_one (let e = sym other.only ∙ meta in cc)

pub not_other_after : (db : Database) (serial : ℤ) → HasMeta 2 serial (db.trees 0) → ¬ IsOtherFormat db
not_other_after db serial meta other = other.not_two (let e = sym other.only ∙ meta in cc)

-- The result of the check of the upgraded tables is right for the tables before the upgrade.
pub moves : (old mid new : Database) (r : Result (Unit {0}) OpenFault) → HasMoved old mid → Judges mid new r → UpgradesFormat old_format.One old new r
moves old mid new (Ok x) h judged =
    let it = h.upgraded h.serial h.meta in
    let a = judged.0.0 in
    subst (λ (d : Database). (a : Airspace) × SpellsAs One old a × SpellsAs Two d a × IsDatabase d) (sym judged.1)
    (a, spelt_before old mid a h.serial h.schema h.meta h.upgraded judged.0.1, judged.0.1, it.sound)
moves old mid new (Err NotADss) h judged = ((λ a p. judged.0 a (spells_upgraded old mid a p h.upgraded)), not_other old h.serial h.meta)
moves old mid new (Err Version) h judged = absurd (not_other_after mid h.serial (h.upgraded h.serial h.meta).meta judged)
moves old mid new (Err Store) h judged = tt

-- ---- the index on `naming`

-- `meta` says another format only if it did before.
pub same_meta : (old new : Database) → new.trees 0 ≡ old.trees 0 → IsOtherFormat new → IsOtherFormat old
same_meta old new is other = record { one = other.one; format = other.format; serial = other.serial; only = ap (map meta_columns) (sym is) ∙ other.only; not_one = other.not_one; not_two = other.not_two }

-- The result of the check of the tables with the index is right for the tables without it.
pub indexed : (old mid new : Database) (r : Result (Unit {0}) OpenFault) → old.schema ≡ unindexed_schema → HasRows second_schema old.trees mid × IsDatabase mid → Judges mid new r → UpgradesFormat old_format.TwoUnindexed old new r
indexed old mid new (Ok x) has made judged =
    let a = judged.0.0 in
    subst (λ (d : Database). (a : Airspace) × SpellsAs TwoUnindexed old a × SpellsAs Two d a × IsDatabase d) (sym judged.1)
    (a, spelt_unindexed old mid a has made.0 judged.0.1, judged.0.1, made.1)
indexed old mid new (Err NotADss) has made judged = ((λ a p. judged.0 a (spells_indexed old mid a made.0 p)), (λ other. judged.1 (same_meta mid old (sym made.0.1.0) other)))
indexed old mid new (Err Version) has made judged = same_meta old mid made.0.1.0 judged
indexed old mid new (Err Store) has made judged = tt
