-- Lemmas about what the outcomes of a crash store. They are proved here, since a law of an `impl`
-- can only cite `specs/`.
use Rattle.std.specs.Prelude.{◌≡◌, ◌≤◌, ℕ, true, false, List, [], ◌∷◌, map, Some, cond, refl}
use Rattle.std.proofs.Common.{sym, subst, ◌∙◌}
use Rattle.std.proofs.Math.Logic.{∥∥₁_map}
use Rattle.std.proofs.lemmas.Option.{same_Some}
use Rattle.std.specs.List.{AllByRecursion}
use Rattle.std.specs.Ordering.{eq_by_cmp, nat_cmp}
use Rattle.std.specs.declared.cmp.Ordering.{Ordering}
use Rattle.std.specs.FinMap as maps
use Rattle.std.specs.FinMap.{entries, get, get-entries}
use Rattle.sqlite_trees.specs.Tree.{Trees}
use Rattle.sqlite_trees.proofs.ListLemmas.{all-permutation}
use Rattle.entity_core.specs.Airspace.{Airspace, EntityKey, IsAirspace, key_cmp, key_of}
use Rattle.entity_core.specs.declared.entity.Entity.{Entity}
use Rattle.entity_core.specs.declared.subscription.Sub.{Sub}
use Rattle.entity_core.proofs.Changes.{one_id}
use Rattle.entity_core.proofs.Keys.{one_key}
use Rattle.space_sql_schema.specs.Spelling.{Group, IsSubGroup, Spells, SubGroup, pair_of, sub_pair_of}
use Rattle.space_sql_schema.proofs.OneAirspace.{one_airspace}
use Rattle.space_sql.specs.Holding.{AreTablesOf, with_tables}

-- A single outcome represents a single airspace.
pub one_kept : {May : Trees → Type 0} (last : Trees) (a b : Airspace) → ((db : Trees) → May db → db ≡ last) → ((db : Trees) × May db × AreTablesOf db a) → ((db : Trees) × May db × AreTablesOf db b) → a ≡ b
one_kept last a b one h k = one_airspace _ _ a b (one h.0 h.1 ∙ sym (one k.0 k.1)) h.2.1 k.2.1

-- If there is a single outcome, and it represents an airspace, each outcome does.
pub all_kept : {May : Trees → Type 0} (last : Trees) (a : Airspace) → ((db : Trees) → May db → db ≡ last) → ((db : Trees) × May db × AreTablesOf db a) → (db : Trees) → May db → (b : Airspace) × AreTablesOf db b
all_kept last a one h db may = (a, subst (λ d. AreTablesOf d a) (one h.0 h.1 ∙ sym (one db may)) h.2)

-- If there is an outcome, and each one represents an airspace, some airspace is represented.
pub some_kept : {May : Trees → Type 0} → ∥ ((db : Trees) × May db) ∥₁ → ((db : Trees) → May db → (a : Airspace) × AreTablesOf db a) → ∥ ((a : Airspace) × ((db : Trees) × May db × AreTablesOf db a)) ∥₁
some_kept there whole = ∥∥₁_map there (λ it. let kept = whole it.0 it.1 in (kept.0, (it.0, it.1, kept.1)))

abbrev IsUnderItsKey : EntityKey × Entity → Type 0
IsUnderItsKey p = key_of p.1 ≡ p.0

own_keys : (gs : List Group) → AllByRecursion IsUnderItsKey (map pair_of gs)
own_keys [] = tt
own_keys (g ∷ gs) = (refl, own_keys gs)

-- Holds if the subscription is stored under its own id, and its index is at most the serial.
abbrev IsUnderItsId : ℕ → ℕ × Sub → Type 0
IsUnderItsId serial p = (p.1.id ≡ p.0) × (p.1.index ≤ serial)

own_ids : (serial : ℕ) (gs : List SubGroup) → AllByRecursion (IsSubGroup serial) gs → AllByRecursion (IsUnderItsId serial) (map sub_pair_of gs)
own_ids serial [] all = tt
own_ids serial (g ∷ gs) all = ((refl, all.0.index), own_ids serial gs all.1)

-- An entry that is found is in the list, under an equal key.
found_there : {K V : Type 0} (cmp : K → K → Ordering) (P : K × V → Type 0) (es : List (K × V)) (k : K) (x : V) → AllByRecursion P es → maps.find cmp k es ≡ Some x → (l : K) × (eq_by_cmp cmp k l ≡ true) × P (l, x)
found_there cmp P [] k x all h = cc
found_there {K} {V} cmp P (e ∷ es) k x all h =
    elim (eq_by_cmp cmp k e.0) as (λ b. eq_by_cmp cmp k e.0 ≡ b → cond b (Some e.1) (maps.find cmp k es) ≡ Some x → (l : K) × (eq_by_cmp cmp k l ≡ true) × P (l, x)) [
      | true ↦ λ t s. (e.0, t, subst (λ (v : V). P (e.0, v)) (same_Some e.1 x s) all.0)
      | false ↦ λ t s. found_there cmp P es k x all.1 s
    ] refl h

own_key : (a : Airspace) (k : EntityKey) (x : Entity) → AllByRecursion IsUnderItsKey (entries a.entities) → get a.entities k ≡ Some x → key_of x ≡ k
own_key a k x all h =
    let it = found_there key_cmp IsUnderItsKey (entries a.entities) k x all (sym (get-entries a.entities k) ∙ h) in
    it.2 ∙ sym (one_key k it.0 it.1)

own_id : (a : Airspace) (id : ℕ) (s : Sub) → AllByRecursion (IsUnderItsId a.serial) (entries a.subscriptions) → get a.subscriptions id ≡ Some s → (s.id ≡ id) × (s.index ≤ a.serial)
own_id a id s all h =
    let it = found_there nat_cmp (IsUnderItsId a.serial) (entries a.subscriptions) id s all (sym (get-entries a.subscriptions id) ∙ h) in
    (it.2.0 ∙ sym (one_id id it.0 it.1), it.2.1)

-- The airspace that tables represent is a valid one.
pub spelt_is_proper : (db : Trees) (a : Airspace) → Spells (with_tables db) a → IsAirspace a
spelt_is_proper db a p =
    let keys = all-permutation IsUnderItsKey _ _ p.kept (own_keys p.groups) in
    let ids = all-permutation (IsUnderItsId a.serial) _ _ p.subs_kept (own_ids a.serial p.subs p.each_sub) in
    record {
      keyed = λ k x h. own_key a k x keys h;
      own = λ id s h. (own_id a id s ids h).0;
      told = λ id s h. (own_id a id s ids h).1;
    }

-- The airspace that an outcome represents is a valid one.
pub kept_is_proper : {May : Trees → Type 0} (a : Airspace) → ((db : Trees) × May db × AreTablesOf db a) → IsAirspace a
kept_is_proper a h = spelt_is_proper h.0 a h.2.1
