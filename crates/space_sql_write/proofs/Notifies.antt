-- Proofs that subscriptions are notified of a change.
use Rattle.std.proofs.Common.{◌≡◌, inl, inr, ℕ, ◌+◌, ◌<◌, ◌≤◌, ◌^◌, ℤ, pos, ◌+ℤ◌, List, [], ◌∷◌, map, filter, flat_map, length, ◌||◌, Bool, true, false, cond, Some, refl, sym, ap, subst, ◌∙◌, arith, nat_eq}
use Rattle.std.specs.Prelude.{IsPermutation}
use Rattle.std.specs.Ordering.{int_cmp, eq_by_cmp, nat_cmp, is_eq}
use Rattle.std.specs.FinMap.{entries, get, nat_cmp-IsAntisymmetric}
use Rattle.std.proofs.lemmas.Bool.{cases_Bool, eq-eqb, eqb-true}
use Rattle.std.proofs.lemmas.Bool.Decides.{eqb_tells}
use Rattle.std.proofs.lemmas.Cmp.{nat_cmp_total, tied_itself}
use Rattle.std.proofs.lemmas.List.Sorted.{IsPermutation-map, IsPermutation-refl}
use Rattle.sqlite_keyed.proofs.ListLemmas.{all_map, ascending-map, ascending_weaker, filter-map, flat_map-map, flat_map_same_on, map-map, map_same}
use Rattle.sqlite_rules.specs.Lists.{Has}
use Rattle.sqlite.specs.Effect.{Database}
use Rattle.entity_core.specs.Airspace.{Airspace, is_one_of, notified_again, notified_if, notified_where, with_notified_subs}
use Rattle.entity_core.specs.declared.subscription.Sub.{Sub}
use Rattle.entity_core.specs.Entity.{subscription_of}
use Rattle.entity_core.specs.EntityId.{printed}
use Rattle.entity_core.specs.Serial.{max_serial}
use Rattle.entity_core.proofs.Changes.{entries-told, one_id}
use Rattle.space_rows.specs.declared.rows.SubRow.{SubRow}
use Rattle.space_rows.specs.declared.rows.SubCellRow.{SubCellRow}
use Rattle.space_rows.specs.Subs.{SpellsSub}
use Rattle.space_sql_schema.specs.Spelling.{Spells, IsSubBefore, IsSubGroup, IsSubNumber, SubGroup, sub_pair_of}
use Rattle.space_sql_write.specs.Layout.{CanBeNotified, has_id, layout_of, notified_row, with_notified_row}
use Rattle.space_sql_write.specs.Numbering.{Makes}
use Rattle.space_sql_write.specs.Statements.{RelaysSound}
use Rattle.space_sql_write.specs.SubPutting.{NotifiesRow}
use Rattle.space_sql_write.proofs.Groups.{few, group_there, hits_key}
use Rattle.space_sql_write.proofs.Lists.{all_from, all_there, alone, alone_is, filter_on, has_filtered, map_on}
use Rattle.space_sql_write.proofs.Spelt.{AreSubs, lay_out, own_entities, own_stated}
use Rattle.space_sql_write.proofs.Numbers.{id_from, sub_passes}
use Rattle.space_sql_write.proofs.Numbered.{made, sub_number}
use Rattle.space_sql_write.proofs.SubRemoved.{entities_turned}
use Rattle.space_sql_write.proofs.SubStored.{names_by}

-- ---- a notified subscription

told_spelt : (row : SubRow) (cells : List SubCellRow) (s : Sub) → s.index + 1 ≤ max_serial → SpellsSub row cells s → SpellsSub (notified_row row) cells (notified_again s)
told_spelt row cells s most p = record {
  sub = record {
    least = p.sub.least;
    most = p.sub.most;
    id = p.sub.id;
    manager = p.sub.manager;
    serial = p.sub.serial;
    version = p.sub.version;
    notes = ap (λ m. m +ℤ pos 1) p.sub.notes;
    url = p.sub.url;
    interest = p.sub.interest;
    alt_lower = p.sub.alt_lower;
    alt_upper = p.sub.alt_upper;
    time_start = p.sub.time_start;
    time_end = p.sub.time_end;
  };
  cells_are = p.cells_are;
  kept = record { id = p.kept.id; manager = p.kept.manager; version = p.kept.version; serial = p.kept.serial; index = most; volume = p.kept.volume; url = p.kept.url };
}

abbrev number_and_id : SubGroup → ℤ × ℕ
number_and_id g = (g.row.num, g.sub.id)

abbrev told_group : SubGroup → SubGroup
told_group g = record { row = notified_row g.row; cells = g.cells; sub = notified_again g.sub }

-- Two tests of ids agree.
same_test : (id k : ℕ) → eq_by_cmp nat_cmp id k ≡ nat_eq id k
same_test id k = elim (eqb_tells id k) [
  | inl same ↦ ap is_eq (ap (nat_cmp id) (sym same.1) ∙ tied_itself nat_cmp_total id) ∙ sym same.0
  | inr other ↦ elim (cases_Bool (eq_by_cmp nat_cmp id k)) [
    | inl tied ↦ absurd (other.1 (one_id id k tied))
    | inr free ↦ free ∙ sym other.0
  ]
]

-- A subscription that exists has rows.
pub sub_there : (db : Database) (a : Airspace) (p : Spells db a) (id : ℕ) (s : Sub) → get a.subscriptions id ≡ Some s → (g : SubGroup) × Has p.subs g × (g.sub.id ≡ id) × (g.sub ≡ s)
sub_there db a p id s found =
    let it = group_there sub_number sub_pair_of nat_cmp nat_cmp_total nat_cmp-IsAntisymmetric p.subs a.subscriptions p.subs_kept id s found in
    (it.0, it.1, ap (λ (x : ℕ × Sub). x.0) it.2, ap (λ (x : ℕ × Sub). x.1) it.2)

-- ---- notifying one subscription

module _ (old : Database) (a : Airspace) (p : Spells old a) (id : ℕ) (s : Sub) (found : get a.subscriptions id ≡ Some s) (low : s.index < a.serial) where
  abbrev test : ℕ × Sub → Bool
  test = is_one_of (id ∷ [])

  abbrev notify_one : SubGroup → SubGroup
  notify_one g = cond (test (sub_pair_of g)) (told_group g) g

  is_group : (h : SubGroup) → Has p.subs h → IsSubGroup a.serial h
  is_group h there = all_there (IsSubGroup a.serial) p.subs p.each_sub h there

  -- The rows of the subscription.
  own : (g : SubGroup) × Has p.subs g × (g.sub.id ≡ id) × (g.sub ≡ s)
  own = sub_there old a p id s found

  fits_id : id < 2 ^ 128
  fits_id = subst (λ n. n < 2 ^ 128) own.2 (is_group own.0 own.1).spelt.kept.id

  tested : (h : SubGroup) → test (sub_pair_of h) ≡ nat_eq id h.sub.id
  tested h = elim (nat_eq id h.sub.id) as (λ b. (b || false) ≡ b) [ true ↦ refl | false ↦ refl ]

  by_text : (h : SubGroup) → Has p.subs h → has_id (printed id) h.row ≡ nat_eq id h.sub.id
  by_text h there = elim (eqb_tells id h.sub.id) [
    | inl same ↦ sub_passes a.serial id h (is_group h there) (sym same.1) ∙ sym same.0
    | inr other ↦ elim (cases_Bool (has_id (printed id) h.row)) [
      | inl hit ↦ absurd (other.1 (sym (id_from a.serial id h fits_id (is_group h there) hit)))
      | inr miss ↦ miss ∙ sym other.0
    ]
  ]

  abbrev of_id : SubGroup → Bool
  of_id h = hits_key sub_number sub_pair_of nat_cmp nat_cmp_total nat_cmp-IsAntisymmetric id h

  at_most_one : length (filter of_id p.subs) ≤ 1
  at_most_one = few sub_number sub_pair_of nat_cmp nat_cmp_total nat_cmp-IsAntisymmetric p.subs a.subscriptions id p.subs_kept

  among : (h : SubGroup) → Has p.subs h → h.sub.id ≡ id → Has (filter of_id p.subs) h
  among h there e = has_filtered of_id p.subs h there (same_test id h.sub.id ∙ eq-eqb id h.sub.id (sym e))

  can_be_told : CanBeNotified (printed id) (layout_of old a p)
  can_be_told = record {
    row = own.0.row;
    alone = filter-map (has_id (printed id)) (λ (g : SubGroup). g.row) p.subs
        ∙ ap (map (λ (g : SubGroup). g.row)) (filter_on (λ g. has_id (printed id) g.row) of_id p.subs (λ g there. by_text g there ∙ sym (same_test id g.sub.id)) ∙ alone_is (filter of_id p.subs) own.0 at_most_one (among own.0 own.1 own.2));
    index = s.index;
    notes = (is_group own.0 own.1).spelt.sub.notes ∙ ap (λ (x : Sub). pos x.index) own.3;
    below = let most = p.most in omega (arith, low, most);
  }

  told_each : (h : SubGroup) → Has p.subs h → IsSubGroup a.serial (notify_one h)
  told_each h there = go (test (sub_pair_of h)) refl
    where
      go : (b : Bool) → test (sub_pair_of h) ≡ b → IsSubGroup a.serial (cond b (told_group h) h)
      go false e = is_group h there
      go true e =
          let is = is_group h there in
          let same : h.sub.id ≡ id = sym (eqb-true id h.sub.id (sym (tested h) ∙ e)) in
          let one = alone (filter of_id p.subs) h own.0 at_most_one (among h there same) (among own.0 own.1 own.2) in
          let index = ap (λ (g : SubGroup). g.sub.index) one ∙ ap (λ (x : Sub). x.index) own.3 in
          let most = p.most in
          record { spelt = told_spelt h.row h.cells h.sub (omega (arith, low, index, most)) is.spelt; most = is.most; index = omega (arith, low, index) }

  told_number : (h : SubGroup) → (notify_one h).row.num ≡ h.row.num
  told_number h = elim (test (sub_pair_of h)) as (λ b. (cond b (told_group h) h).row.num ≡ h.row.num) [ true ↦ refl | false ↦ refl ]

  told_numbers : map number_and_id (map notify_one p.subs) ≡ map number_and_id p.subs
  told_numbers = map-map number_and_id notify_one p.subs ∙ map_same (λ g. number_and_id (notify_one g)) number_and_id each p.subs
    where
      each : (h : SubGroup) → number_and_id (notify_one h) ≡ number_and_id h
      each h = elim (test (sub_pair_of h)) as (λ b. number_and_id (cond b (told_group h) h) ≡ number_and_id h) [ true ↦ refl | false ↦ refl ]

  told_rows : map (λ (r : SubRow). cond (has_id (printed id) r) (notified_row r) r) (map (λ (g : SubGroup). g.row) p.subs) ≡ map (λ (g : SubGroup). g.row) (map notify_one p.subs)
  told_rows =
      map-map (λ (r : SubRow). cond (has_id (printed id) r) (notified_row r) r) (λ (g : SubGroup). g.row) p.subs
      ∙ (map_on (λ (g : SubGroup). cond (has_id (printed id) g.row) (notified_row g.row) g.row) (λ (g : SubGroup). (notify_one g).row) p.subs each
      ∙ sym (map-map (λ (g : SubGroup). g.row) notify_one p.subs))
    where
      row_of : (b : Bool) (h : SubGroup) → cond b (notified_row h.row) h.row ≡ (cond b (told_group h) h).row
      row_of true h = refl
      row_of false h = refl

      each : (h : SubGroup) → Has p.subs h → cond (has_id (printed id) h.row) (notified_row h.row) h.row ≡ (notify_one h).row
      each h there = ap (λ b. cond b (notified_row h.row) h.row) (by_text h there ∙ sym (tested h)) ∙ row_of (test (sub_pair_of h)) h

  told_cells : flat_map (λ (g : SubGroup). g.cells) (map notify_one p.subs) ≡ flat_map (λ (g : SubGroup). g.cells) p.subs
  told_cells = flat_map-map (λ (g : SubGroup). g.cells) notify_one p.subs ∙ flat_map_same_on (λ g. (notify_one g).cells) (λ (g : SubGroup). g.cells) (λ h. elim (test (sub_pair_of h)) as (λ b. (cond b (told_group h) h).cells ≡ h.cells) [ true ↦ refl | false ↦ refl ]) p.subs

  told_pairs : map (notified_if test) (map sub_pair_of p.subs) ≡ map sub_pair_of (map notify_one p.subs)
  told_pairs = map-map (notified_if test) sub_pair_of p.subs ∙ (map_same (λ g. notified_if test (sub_pair_of g)) (λ g. sub_pair_of (notify_one g)) each p.subs ∙ sym (map-map sub_pair_of notify_one p.subs))
    where
      each : (h : SubGroup) → notified_if test (sub_pair_of h) ≡ sub_pair_of (notify_one h)
      each h = elim (test (sub_pair_of h)) as (λ b. ◌≡◌ {A = ℕ × Sub} (h.sub.id, cond b (notified_again h.sub) h.sub) (sub_pair_of (cond b (told_group h) h))) [ true ↦ refl | false ↦ refl ]

  are_told : AreSubs a.serial (with_notified_row (printed id) (layout_of old a p)).subs (layout_of old a p).sub_cells (map notify_one p.subs) (notified_where test a.subscriptions)
  are_told = record {
    rising = ascending-map IsSubBefore notify_one p.subs (ascending_weaker IsSubBefore (λ g h. IsSubBefore (notify_one g) (notify_one h)) (λ g h less. ap (λ n. int_cmp n (notify_one h).row.num) (told_number g) ∙ (ap (int_cmp g.row.num) (told_number h) ∙ less)) p.subs p.subs_rising);
    each = all_map (IsSubGroup a.serial) notify_one p.subs (all_from (λ g. IsSubGroup a.serial (notify_one g)) p.subs told_each);
    rows_are = subst (IsPermutation (map (λ (g : SubGroup). g.row) (map notify_one p.subs))) (sym told_rows) (IsPermutation-refl _);
    cells_are = subst (IsPermutation (flat_map (λ (g : SubGroup). g.cells) (map notify_one p.subs))) told_cells (IsPermutation-refl _);
    kept = subst (IsPermutation (map sub_pair_of (map notify_one p.subs))) (sym (entries-told test a.subscriptions)) (subst (λ k. IsPermutation k (map (notified_if test) (entries a.subscriptions))) told_pairs (IsPermutation-map (notified_if test) _ _ p.subs_kept));
  }

  same_numbers : (n : ℤ) (k : ℕ) → IsSubNumber p.subs n k → IsSubNumber (map notify_one p.subs) n k
  same_numbers n k there = subst (λ (l : List (ℤ × ℕ)). Has l (n, k)) (sym told_numbers) there

  pub makes_told : (new : Database) → RelaysSound (CanBeNotified (printed id)) (with_notified_row (printed id)) old new → Makes a (with_notified_subs a test) old new
  makes_told new raises =
      let l = layout_of old a p in
      made old new a (with_notified_subs a test) p (with_notified_row (printed id) l) (map notify_one p.subs) p.groups (raises.0 l can_be_told (lay_out old a p)) (raises.1 l can_be_told (lay_out old a p)) (record {
        serial = refl;
        most = p.most;
        subs = are_told;
        entities = entities_turned _ _ _ _ _ _ _ _ _ (λ g has names. names_by p.subs (map notify_one p.subs) same_numbers g.naming (subscription_of g.entity.nature) names) (own_entities old a p);
        stated = own_stated old a p;
      }) (λ n k at there. at) (λ n k at there. same_numbers n k at)

pub tells_one : (id : ℕ) (old new : Database) → RelaysSound (CanBeNotified (printed id)) (with_notified_row (printed id)) old new → NotifiesRow id old new
tells_one id old new raises a p can = makes_told old a p id can.0 can.1 can.2 new raises
