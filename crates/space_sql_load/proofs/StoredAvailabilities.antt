-- Proofs about reading the rows of `availability`: the remaining rows are read exactly if all rows
-- are.
use Rattle.std.specs.Prelude.{◌≡◌, ℕ, ◌↔◌, List, [], ◌∷◌, refl}
use Rattle.std.specs.FinMap.{insert, empty}
use Rattle.std.proofs.Common.{sym, ap, ◌∙◌, subst}
use Rattle.sqlite_value.specs.Order.{Row}
use Rattle.entity_core.specs.Airspace.{Availabilities, VersionedAvailability}
use Rattle.space_sql_schema.specs.Spelling.{availability_values}
use Rattle.space_sql_schema.proofs.OneAirspace.{stated_of_values, stated_back}
use Rattle.space_sql_select.specs.declared.availability_record.AvailabilityRecord.{AvailabilityRecord}
use Rattle.space_sql_select.specs.AvailabilityRecord.{stated_by}
use Rattle.space_sql_load.specs.Gathering.{ReadsAvailabilities, IsSetting}

-- A row represents at most one USS's availability.
pub one_setting : (s t : List ℕ × VersionedAvailability) → availability_values s ≡ availability_values t → s ≡ t
one_setting s t e = sym (stated_back s) ∙ (ap stated_of_values e ∙ stated_back t)

abbrev pub SettlesOn : List Row → List Row → Availabilities → Type 0
SettlesOn rows rest m = (all : Availabilities) → ReadsAvailabilities rows empty all ↔ ReadsAvailabilities rest m all

pub settles_more : (rows : List Row) (r : Row) (rest more : List Row) (m n : Availabilities) (s : List ℕ × VersionedAvailability) → rest ≡ r ∷ more → IsSetting r m s → n ≡ insert m s.0 s.1
    → SettlesOn rows rest m → SettlesOn rows more n
settles_more rows r rest more m n s is t put g all = (
  (λ w.
      let a = subst (λ (l : List Row). ReadsAvailabilities l m all) is ((g all).0 w) in
      let same : a.0 ≡ s = one_setting a.0 s (sym a.1.says.values ∙ t.says.values) in
      subst (λ (k : Availabilities). ReadsAvailabilities more k all) (ap (λ (p : List ℕ × VersionedAvailability). insert m p.0 p.1) same ∙ sym put) a.2),
  (λ w. (g all).1 (subst (λ (l : List Row). ReadsAvailabilities l m all) (sym is) (s, t, subst (λ (k : Availabilities). ReadsAvailabilities more k all) put w))),
)

pub settles_none : (rows : List Row) (r : Row) (rest more : List Row) (m : Availabilities) → rest ≡ r ∷ more → ((s : AvailabilityRecord) → ¬ IsSetting r m (stated_by s))
    → SettlesOn rows rest m → (all : Availabilities) → ¬ ReadsAvailabilities rows empty all
settles_none rows r rest more m is none g all w =
    let a = subst (λ (l : List Row). ReadsAvailabilities l m all) is ((g all).0 w) in
    none (record { uss = a.0.0; availability = a.0.1.0; version = a.0.1.1 }) a.1

pub settles_all : (rows rest : List Row) (m : Availabilities) → rest ≡ [] → SettlesOn rows rest m → ReadsAvailabilities rows empty m
settles_all rows rest m is g = (g m).1 (subst (λ (l : List Row). ReadsAvailabilities l m m) (sym is) refl)

pub settles_start : (rows : List Row) (m : Availabilities) → m ≡ empty → SettlesOn rows rows m
settles_start rows m e all = ((λ w. subst (λ (k : Availabilities). ReadsAvailabilities rows k all) (sym e) w), (λ w. subst (λ (k : Availabilities). ReadsAvailabilities rows k all) e w))
