-- Lookups after a change. A change of a valid airspace gives a valid airspace.
use Rattle.std.specs.Prelude.{◌≡◌, ℕ, ◌≤◌, ◌+◌, ◌&&◌, Bool, true, false, T, List, [], ◌∷◌, map, Some, None, option_map, cond, refl, ◌⊎◌}
use Rattle.std.proofs.Common.{arith, sym, ap, ◌∙◌, subst, inl, inr}
use Rattle.std.proofs.lemmas.Option.{same_Some}
use Rattle.std.specs.Ordering.{eq_by_cmp, is_eq, is_lt, nat_cmp}
use Rattle.std.specs.declared.cmp.Ordering.{Ordering}
use Rattle.std.specs.Cmp.{Equal-is}
use Rattle.std.specs.FinMap.{get, insert, remove, entries, entries_sorted, entries-from_sorted, find, get-entries, get-from_sorted, get-insert, get-remove, get-empty, nat_cmp-IsAntisymmetric}
use Rattle.std.specs.FinMap as maps
use Rattle.std.specs.FinMap.Entries.{below_all, is_sorted}
use Rattle.std.proofs.lemmas.Cmp.{nat_cmp_total}
use Rattle.entity_core.specs.Airspace.{Airspace, Entities, EntityKey, IsAirspace, VersionedAvailability, Subscriptions, NotifiedOnce, empty_at, key_cmp, key_of, notified_again, notified_if, notified_where, with_availability, with_entity, with_subscription, with_notified_subs, without_entity, without_subscription}
use Rattle.entity_core.specs.declared.entity.Entity.{Entity}
use Rattle.entity_core.specs.declared.subscription.Sub.{Sub}
use Rattle.entity_core.proofs.Entries.{first, less, second}
use Rattle.entity_core.proofs.Keys.{key_total, one_key}

-- A lookup after an insertion finds the inserted entity or an earlier one.
pub got : (m : Entities) (k : EntityKey) (e : Entity) (q : EntityKey) (x : Entity) → get (insert m k e) q ≡ Some x → ((eq_by_cmp key_cmp q k ≡ true) × (e ≡ x)) ⊎ ((eq_by_cmp key_cmp q k ≡ false) × (get m q ≡ Some x))
got m k e q x h =
    elim (eq_by_cmp key_cmp q k) as (λ b. eq_by_cmp key_cmp q k ≡ b → cond b (Some e) (get m q) ≡ Some x → ((eq_by_cmp key_cmp q k ≡ true) × (e ≡ x)) ⊎ ((eq_by_cmp key_cmp q k ≡ false) × (get m q ≡ Some x))) [
      | true ↦ λ t s. inl (t, same_Some e x s)
      | false ↦ λ t s. inr (t, s)
    ] refl (sym (get-insert key_total m k e q) ∙ h)

-- Everything found after a removal was there before it.
pub stayed : (m : Entities) (k q : EntityKey) (x : Entity) → get (remove m k) q ≡ Some x → get m q ≡ Some x
stayed m k q x h =
    elim (eq_by_cmp key_cmp q k) as (λ b. cond b None (get m q) ≡ Some x → get m q ≡ Some x) [
      | true ↦ λ s. cc
      | false ↦ λ s. s
    ] (sym (get-remove key_total m k q) ∙ h)

-- ---- subscriptions

pub one_id : (k l : ℕ) → eq_by_cmp nat_cmp k l ≡ true → k ≡ l
one_id k l h = nat_cmp-IsAntisymmetric k l ((Equal-is (nat_cmp k l)).0 h)

pub no_sub_below : (q : ℕ) (ss : List (ℕ × Sub)) → T (below_all nat_cmp q ss) → maps.find nat_cmp q ss ≡ None
no_sub_below q [] h = refl
no_sub_below q (s ∷ ss) h =
    ap (λ (r : Ordering). cond (is_eq r) (Some s.1) (maps.find nat_cmp q ss)) (less (nat_cmp q s.0) (first _ _ h))
    ∙ no_sub_below q ss (second (is_lt (nat_cmp q s.0)) _ h)

got_sub : (m : Subscriptions) (k : ℕ) (s : Sub) (q : ℕ) (x : Sub) → get (insert m k s) q ≡ Some x → ((eq_by_cmp nat_cmp q k ≡ true) × (s ≡ x)) ⊎ ((eq_by_cmp nat_cmp q k ≡ false) × (get m q ≡ Some x))
got_sub m k s q x h =
    elim (eq_by_cmp nat_cmp q k) as (λ b. eq_by_cmp nat_cmp q k ≡ b → cond b (Some s) (get m q) ≡ Some x → ((eq_by_cmp nat_cmp q k ≡ true) × (s ≡ x)) ⊎ ((eq_by_cmp nat_cmp q k ≡ false) × (get m q ≡ Some x))) [
      | true ↦ λ t e. inl (t, same_Some s x e)
      | false ↦ λ t e. inr (t, e)
    ] refl (sym (get-insert nat_cmp_total m k s q) ∙ h)

pub stayed_sub : (m : Subscriptions) (k q : ℕ) (x : Sub) → get (remove m k) q ≡ Some x → get m q ≡ Some x
stayed_sub m k q x h =
    elim (eq_by_cmp nat_cmp q k) as (λ b. cond b None (get m q) ≡ Some x → get m q ≡ Some x) [
      | true ↦ λ s. cc
      | false ↦ λ s. s
    ] (sym (get-remove nat_cmp_total m k q) ∙ h)

-- An index stays at most the serial when the serial is incremented.
below_next : (i n : ℕ) → i ≤ n → i ≤ n + 1
below_next i n h = omega (arith, h)

-- ---- airspaces

pub proper_with : (a : Airspace) (e : Entity) → IsAirspace a → IsAirspace (with_entity a e)
proper_with a e proper = record {
  keyed = λ k x h. elim (got a.entities (key_of e) e k x h) [
    | inl is ↦ ap key_of (sym is.1) ∙ sym (one_key k (key_of e) is.0)
    | inr was ↦ proper.keyed k x was.1
  ];
  own = proper.own;
  told = λ id s h. below_next s.index a.serial (proper.told id s h);
}

pub proper_without : (a : Airspace) (k : EntityKey) → IsAirspace a → IsAirspace (without_entity a k)
proper_without a k proper = record {
  keyed = λ q x h. proper.keyed q x (stayed a.entities k q x h);
  own = proper.own;
  told = λ id s h. below_next s.index a.serial (proper.told id s h);
}

pub proper_stated : (a : Airspace) (uss : List ℕ) (stated : VersionedAvailability) → IsAirspace a → IsAirspace (with_availability a uss stated)
proper_stated a uss stated proper = record {
  keyed = proper.keyed;
  own = proper.own;
  told = λ id s h. below_next s.index a.serial (proper.told id s h);
}

pub proper_sub : (a : Airspace) (s : Sub) → s.index ≤ a.serial + 1 → IsAirspace a → IsAirspace (with_subscription a s)
proper_sub a s within proper = record {
  keyed = proper.keyed;
  own = λ id x h. elim (got_sub a.subscriptions s.id s id x h) [
    | inl is ↦ ap (λ (y : Sub). y.id) (sym is.1) ∙ sym (one_id id s.id is.0)
    | inr was ↦ proper.own id x was.1
  ];
  told = λ id x h. elim (got_sub a.subscriptions s.id s id x h) [
    | inl is ↦ subst (λ (y : Sub). y.index ≤ a.serial + 1) is.1 within
    | inr was ↦ below_next x.index a.serial (proper.told id x was.1)
  ];
}

pub proper_without_sub : (a : Airspace) (k : ℕ) → IsAirspace a → IsAirspace (without_subscription a k)
proper_without_sub a k proper = record {
  keyed = proper.keyed;
  own = λ id x h. proper.own id x (stayed_sub a.subscriptions k id x h);
  told = λ id x h. below_next x.index a.serial (proper.told id x (stayed_sub a.subscriptions k id x h));
}

pub proper_empty : (n : ℕ) → IsAirspace (empty_at n)
proper_empty n = record {
  keyed = λ k x h. let e : None ≡ Some x = sym (get-empty key_cmp k) ∙ h in cc;
  own = λ id s h. let e : None ≡ Some s = sym (get-empty nat_cmp id) ∙ h in cc;
  told = λ id s h. let e : None ≡ Some s = sym (get-empty nat_cmp id) ∙ h in cc;
}

-- ---- notifications

told_find : (test : ℕ × Sub → Bool) (id : ℕ) (ss : List (ℕ × Sub)) → find nat_cmp id (map (notified_if test) ss) ≡ option_map (λ s. (notified_if test (id, s)).1) (find nat_cmp id ss)
told_find test id [] = refl
told_find test id (s ∷ ss) =
    elim (eq_by_cmp nat_cmp id s.0) as (λ b. eq_by_cmp nat_cmp id s.0 ≡ b → cond b (Some (notified_if test s).1) (find nat_cmp id (map (notified_if test) ss)) ≡ option_map (λ x. (notified_if test (id, x)).1) (cond b (Some s.1) (find nat_cmp id ss))) [
      | true ↦ λ t. ap (λ (k : ℕ). Some (notified_if test (k, s.1)).1) (sym (one_id id s.0 t))
      | false ↦ λ t. told_find test id ss
    ] refl

told_below : (test : ℕ × Sub → Bool) (q : ℕ) (ss : List (ℕ × Sub)) → below_all nat_cmp q (map (notified_if test) ss) ≡ below_all nat_cmp q ss
told_below test q [] = refl
told_below test q (s ∷ ss) = ap (λ (b : Bool). is_lt (nat_cmp q s.0) && b) (told_below test q ss)

told_sorted : (test : ℕ × Sub → Bool) (ss : List (ℕ × Sub)) → is_sorted nat_cmp (map (notified_if test) ss) ≡ is_sorted nat_cmp ss
told_sorted test [] = refl
told_sorted test (s ∷ ss) = λ i. told_below test s.0 ss i && told_sorted test ss i

pub told_rise : (test : ℕ × Sub → Bool) (m : Subscriptions) → T (is_sorted nat_cmp (map (notified_if test) (entries m)))
told_rise test m = subst T (sym (told_sorted test (entries m))) (entries_sorted m)

-- The entries after a notification.
pub entries-told : (test : ℕ × Sub → Bool) (m : Subscriptions) → entries (notified_where test m) ≡ map (notified_if test) (entries m)
unfolding notified_where
entries-told test m = entries-from_sorted nat_cmp (map (notified_if test) (entries m)) (told_rise test m)

pub told_once : NotifiedOnce
unfolding notified_where
told_once m test id =
    get-from_sorted nat_cmp (map (notified_if test) (entries m)) id (told_rise test m)
    ∙ (told_find test id (entries m) ∙ ap (option_map (λ (s : Sub). (notified_if test (id, s)).1)) (sym (get-entries m id)))

-- Every subscription found after a notification was there before it, possibly with a lower index.
pub told_was : (test : ℕ × Sub → Bool) (m : Subscriptions) (id : ℕ) (x : Sub) → get (notified_where test m) id ≡ Some x → (s : Sub) × (get m id ≡ Some s) × ((notified_if test (id, s)).1 ≡ x)
told_was test m id x h =
    elim (get m id) as (λ o. get m id ≡ o → option_map (λ s. (notified_if test (id, s)).1) o ≡ Some x → (s : Sub) × (get m id ≡ Some s) × ((notified_if test (id, s)).1 ≡ x)) [
      | None ↦ λ e k. cc
      | Some s ↦ λ e k. (s, e, same_Some _ x k)
    ] refl (sym (told_once m test id) ∙ h)

told_id : (b : Bool) (s : Sub) → (cond b (notified_again s) s).id ≡ s.id
told_id true s = refl
told_id false s = refl

told_most : (b : Bool) (s : Sub) (n : ℕ) → s.index + 1 ≤ n → (cond b (notified_again s) s).index ≤ n
told_most true s n h = h
told_most false s n h = omega (arith, h)

pub proper_told : (a : Airspace) (test : ℕ × Sub → Bool) → ((id : ℕ) (s : Sub) → get a.subscriptions id ≡ Some s → s.index + 1 ≤ a.serial) → IsAirspace a → IsAirspace (with_notified_subs a test)
proper_told a test room proper = record {
  keyed = proper.keyed;
  own = λ id x h. let was = told_was test a.subscriptions id x h in ap (λ (y : Sub). y.id) (sym was.2) ∙ (told_id (test (id, was.0)) was.0 ∙ proper.own id was.0 was.1);
  told = λ id x h. let was = told_was test a.subscriptions id x h in subst (λ (y : Sub). y.index ≤ a.serial) was.2 (told_most (test (id, was.0)) was.0 a.serial (room id was.0 was.1));
}

-- An index stays at most the serial when both are incremented.
told_room : (i n : ℕ) → i ≤ n → i + 1 ≤ n + 1
told_room i n h = omega (arith, h)

pub proper_with_told : (a : Airspace) (e : Entity) (test : ℕ × Sub → Bool) → IsAirspace a → IsAirspace (with_notified_subs (with_entity a e) test)
proper_with_told a e test proper = proper_told (with_entity a e) test (λ id s h. told_room s.index a.serial (proper.told id s h)) (proper_with a e proper)

pub proper_without_told : (a : Airspace) (k : EntityKey) (test : ℕ × Sub → Bool) → IsAirspace a → IsAirspace (with_notified_subs (without_entity a k) test)
proper_without_told a k test proper = proper_told (without_entity a k) test (λ id s h. told_room s.index a.serial (proper.told id s h)) (proper_without a k proper)
