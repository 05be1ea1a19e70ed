-- Proofs about the row of the subscription with an id.
use Rattle.std.proofs.Common.{◌≡◌, ◌≢◌, ◌⊎◌, inl, inr, ℕ, ◌<◌, ◌^◌, List, [], ◌∷◌, map, filter, Bool, true, false, cond, Option, Some, None, refl, sym, ap, subst, ◌∙◌, is_eq}
use Rattle.std.specs.Prelude.{IsPermutation}
use Rattle.std.specs.List.{AllByRecursion, list_all}
use Rattle.std.specs.Ordering.{nat_cmp}
use Rattle.std.specs.FinMap.{IsAntisymmetric, get, entries}
use Rattle.std.proofs.lemmas.Cmp.{nat_cmp_total, tied_itself}
use Rattle.std.proofs.lemmas.List.Sorted.{length_permutation}
use Rattle.sqlite_keyed.proofs.ListLemmas.{filter-map, IsPermutation-filter}
use Rattle.sqlite_rules.specs.Lists.{Has}
use Rattle.sqlite_rules.proofs.ListLemmas.{has_filtered, has_kept}
use Rattle.sqlite_typed.specs.Tests.{bytes_cmp}
use Rattle.sqlite_typed.proofs.TestLemmas.{at_texts, last_term, same_bytes, bytes_eq_refl}
use Rattle.sqlite_sql.specs.declared.ops.CompareOp.TheVariants.{Eq}
use Rattle.sqlite.specs.declared.types.Value.TheVariants.{Null, Text}
use Rattle.sqlite.specs.Order.{Row, column}
use Rattle.sqlite.specs.Term.{holds}
use Rattle.sqlite.specs.Effect.{Database, Reads}
use Rattle.sqlite.proofs.Callers.{one_permutation}
use Rattle.entity_core.specs.declared.subscription.Sub.{Sub}
use Rattle.entity_core.specs.Airspace.{Airspace}
use Rattle.entity_core.specs.EntityId.{printed}
use Rattle.entity_core.proofs.Changes as changes
use Rattle.space_rows.proofs.OneEntity.{one_id}
use Rattle.space_sql_schema.specs.Spelling.{Spells, SubGroup, IsSubGroup, sub_pair_of, sub_values, sub_columns}
use Rattle.space_sql_select.specs.Rows.{number_values}
use Rattle.space_sql_select.proofs.MapEntries.{hits}
use Rattle.space_sql_lookup.specs.Subscription.{AnswersSub}
use Rattle.space_sql_lookup.specs.Dependents.{AnswersSubNum}
use Rattle.space_sql_lookup.proofs.Commands.{by_second, sub_is, sub_num_is}
use Rattle.space_sql_lookup.proofs.Found.{entry_of, found_in}
use Rattle.space_sql_lookup.proofs.Heads.{either_way}
use Rattle.space_sql_lookup.proofs.Picked.{selects_from, nothing_left}

nat_exact : IsAntisymmetric nat_cmp
nat_exact m n e = changes.one_id m n (ap is_eq e)

abbrev pub is_sub : ℕ → SubGroup → Bool
is_sub id t = hits nat_cmp nat_cmp_total id (sub_pair_of t)

-- Returns true if the columns are those of the id.
abbrev is_id : ℕ → Row → Bool
is_id id c = list_all (holds ((Text (printed id) ∷ []) ∷ (column c 0 ∷ Null ∷ column c 1 ∷ []) ∷ [])) by_second

itself : (id : ℕ) → is_eq (nat_cmp id id) ≡ true
itself id = ap is_eq (tied_itself nat_cmp_total id)

module _ (id : ℕ) (fits : id < 2 ^ 128) (serial : ℕ) where
  id_test : (t : SubGroup) → IsSubGroup serial t → is_id id (sub_values t.row) ≡ is_sub id t
  id_test t p =
      last_term (at_texts false Eq t.row.id (printed id)) ∙ either_way _ _
      (λ b.
      let same : t.sub.id ≡ id = one_id t.row.id t.sub.id id p.spelt.kept.id fits p.spelt.sub.id (same_bytes t.row.id (printed id) b) in
      subst (λ (n : ℕ). is_eq (nat_cmp id n) ≡ true) (sym same) (itself id))
      (λ b.
      let same : t.row.id ≡ printed id = p.spelt.sub.id ∙ ap printed (sym (changes.one_id id t.sub.id b)) in
      subst (λ (l : List ℕ). is_eq (bytes_cmp l (printed id)) ≡ true) (sym same) (bytes_eq_refl (printed id)))

  same_filter : (ts : List SubGroup) → AllByRecursion (IsSubGroup serial) ts → filter (λ (t : SubGroup). is_id id (sub_values t.row)) ts ≡ filter (is_sub id) ts
  same_filter [] each = refl
  same_filter (t ∷ ts) each = λ i. cond (id_test t each.0 i) (t ∷ same_filter ts each.1 i) (same_filter ts each.1 i)

-- Holds if the rows show the one subscription with the id, or there is neither.
abbrev pub ShowsSub : Airspace → List SubGroup → (SubGroup → Row) → ℕ → List Row → Type 0
ShowsSub a subs shown id rows =
    ((rows ≡ []) × (get a.subscriptions id ≡ None) × ((u : SubGroup) → Has subs u → u.sub.id ≢ id))
    ⊎ ((t : SubGroup) × Has subs t × (rows ≡ shown t ∷ []) × (get a.subscriptions id ≡ Some t.sub) × (t.sub.id ≡ id) × ((u : SubGroup) → Has subs u → u.sub.id ≡ id → u ≡ t))

told : (a : Airspace) (subs fs : List SubGroup) (shown : SubGroup → Row) (id : ℕ) (o : Option Sub) (rows : List Row) → ((t : SubGroup) → Has fs t → Has subs t × (t.sub.id ≡ id)) → ((u : SubGroup) → Has subs u → u.sub.id ≡ id → Has fs u)
    → IsPermutation (map sub_pair_of fs) (entry_of nat_cmp nat_cmp_total nat_exact id o) → IsPermutation (map shown fs) rows
    → ((rows ≡ []) × (o ≡ None) × ((u : SubGroup) → Has subs u → u.sub.id ≢ id)) ⊎ ((t : SubGroup) × Has subs t × (rows ≡ shown t ∷ []) × (o ≡ Some t.sub) × (t.sub.id ≡ id) × ((u : SubGroup) → Has subs u → u.sub.id ≡ id → u ≡ t))
told a subs [] shown id None rows from to keys p = inl (nothing_left rows p, refl, λ u there is. to u there is)
told a subs [] shown id (Some s) rows from to keys p = absurd (let e = length_permutation _ _ keys in cc)
told a subs (f ∷ fs) shown id None rows from to keys p = absurd (let e = length_permutation _ _ keys in cc)
told a subs (f ∷ []) shown id (Some s) rows from to keys p =
    let one = one_permutation (sub_pair_of f) ((id, s) ∷ []) keys in
    let pair : (id, s) ≡ sub_pair_of f = cc in
    let sub : f.sub ≡ s = sym (ap (λ (p : ℕ × Sub). p.1) pair) in
    let there = from f (inl refl) in
    inr (f, there.0, one_permutation (shown f) rows p, ap (λ (x : Sub). Some x) (sym sub), there.1, λ u has is. elim (to u has is) as (λ _. u ≡ f) [ inl e ↦ e | inr none ↦ absurd none ])
told a subs (f ∷ g ∷ fs) shown id (Some s) rows from to keys p = absurd (let e = length_permutation _ _ keys in cc)

module _ (db : Database) (a : Airspace) (s : Spells db a) (id : ℕ) (fits : id < 2 ^ 128) where
  shows : (shown : SubGroup → Row) (rows : List Row) → IsPermutation (map shown (filter (λ (t : SubGroup). is_id id (sub_values t.row)) s.subs)) rows → ShowsSub a s.subs shown id rows
  shows shown rows all =
      let own = subst (λ (l : List SubGroup). IsPermutation (map shown l) rows) (same_filter id fits a.serial s.subs s.each_sub) all in
      let kept = IsPermutation-filter (hits nat_cmp nat_cmp_total id) _ _ s.subs_kept in
      let keys = subst (λ l. IsPermutation (map sub_pair_of (filter (is_sub id) s.subs)) l) (found_in nat_cmp nat_cmp_total nat_exact a.subscriptions id)
      (subst (λ l. IsPermutation l (filter (hits nat_cmp nat_cmp_total id) (entries a.subscriptions))) (filter-map (hits nat_cmp nat_cmp_total id) sub_pair_of s.subs) kept) in
      told a s.subs (filter (is_sub id) s.subs) shown id (get a.subscriptions id) rows
      (λ t there. let h = has_filtered (is_sub id) s.subs t there in (h.0, sym (changes.one_id id t.sub.id h.1)))
      (λ u there is. has_kept (is_sub id) s.subs u there (subst (λ (n : ℕ). is_eq (nat_cmp id n) ≡ true) (sym is) (itself id))) keys own

  pub sub_shown : (rows : List Row) → AnswersSub id db rows → ShowsSub a s.subs (λ t. sub_values t.row) id rows
  sub_shown rows h =
      let params = Text (printed id) ∷ [] in
      let read = subst (λ c. Reads c db params rows) sub_is h in
      shows (λ t. sub_values t.row) rows
      (selects_from 9 by_second (0 ∷ 2 ∷ 3 ∷ 4 ∷ 5 ∷ 6 ∷ 7 ∷ 8 ∷ 9 ∷ 10 ∷ 11 ∷ 12 ∷ 13 ∷ []) db.trees params rows refl (read.answer Null) (λ (t : SubGroup). sub_values t.row) sub_columns (is_id id) (λ c. c) (λ (t : SubGroup). is_id id (sub_values t.row))
      (λ r. refl) (λ r. refl) (λ t. refl) s.subs s.sub_rows)

  pub sub_num_shown : (rows : List Row) → AnswersSubNum id db rows → ShowsSub a s.subs (λ t. number_values t.row.num) id rows
  sub_num_shown rows h =
      let params = Text (printed id) ∷ [] in
      let read = subst (λ c. Reads c db params rows) sub_num_is h in
      shows (λ t. number_values t.row.num) rows
      (selects_from 9 by_second (0 ∷ []) db.trees params rows refl (read.answer Null) (λ (t : SubGroup). sub_values t.row) sub_columns (is_id id) (λ c. column c 0 ∷ []) (λ (t : SubGroup). is_id id (sub_values t.row))
      (λ r. refl) (λ r. refl) (λ t. refl) s.subs s.sub_rows)
