-- An index of pairs of a subscription and an intent that references it, and the results of
-- searching it.
use Rattle.std.specs.Prelude.{◌≡◌, ℕ, ◌≤◌, ◌||◌, ◌&&◌, not, Bool, true, false, cond, List, [], ◌∷◌, map, filter, filter_map, Option, Some, None, is_some, ◌++◌, refl}
use Rattle.std.proofs.Common.{arith, sym, ap, ◌∙◌, subst}
use Rattle.std.proofs.lemmas.Bool.Decides.{nat_tests}
use Rattle.std.proofs.lemmas.List.Kept.{IsStrictlySortedBy-filter}
use Rattle.std.proofs.lemmas.Map.Lookups.{CmpEqualImpliesEq, exact_pairs, exact_unsigned}
use Rattle.std.specs.BTreeMap.Range.{range_contains}
use Rattle.std.specs.BTreeSet.{BTreeSet, Updates, contains}
use Rattle.std.specs.FinMap.{entries, get}
use Rattle.std.specs.List.{AllByRecursion, cons_option, list_any}
use Rattle.std.specs.List.Sorted.{IsStrictlySortedBy}
use Rattle.std.specs.Ordering.{is_eq, is_le, is_lt, nat_cmp, ordering_then}
use Rattle.std.specs.declared.cmp.Ordering.TheVariants.{Less, Equal, Greater}
use Rattle.std.specs.declared.ops.Bound.TheVariants.{Included}
use Rattle.entity_core.specs.Airspace.{Entities, EntityKey, key_cmp, key_of}
use Rattle.entity_core.specs.Entity.{kind_of, subscription_of}
use Rattle.entity_core.specs.Search.{dependents_in, is_id, is_naming}
use Rattle.entity_core.specs.declared.entity.Entity.{Entity}
use Rattle.entity_core.specs.declared.nature.Nature.{Nature}
use Rattle.entity_core.specs.declared.nature.Nature.TheVariants as nature
use Rattle.entity_core.specs.declared.nature.Kind.TheVariants.{Intent}
use Rattle.entity_core.proofs.Keys.{key_exact, key_total}
use Rattle.entity_maps.specs.Entities.{entity_map}
use Rattle.entity_purge.specs.Purge.{is_referenced_in}
use Rattle.space_memory.specs.Names.{ArePairsOf, HasPair, IsEntered, IsNameIndex, Naming, NamesMore, dependent_at, id_if_naming, naming_cmp}
use Rattle.space_memory.proofs.CellSets.{any_kept, either, equal_is}
use Rattle.space_memory.proofs.Named.{all_named}
use Rattle.space_memory.proofs.SearchMaps.{own_of, rising}

pub naming_exact : CmpEqualImpliesEq naming_cmp
naming_exact = exact_pairs nat_cmp nat_cmp exact_unsigned exact_unsigned

-- ---- the index, as entities are added and removed

pub inserted_more : (old new : BTreeSet Naming) (k : Naming) → Updates naming_cmp old new k true → NamesMore old new
inserted_more old new k u = λ q h. u.0 q ∙ either (is_eq (naming_cmp k q)) (contains naming_cmp old q) h

pub entered_more : (old new : BTreeSet Naming) → NamesMore old new → (e : Entity) → IsEntered old e → IsEntered new e
entered_more old new more e h = λ id at. record { small = (h id at).small; there = more (id, e.id) (h id at).there }

pub index_more : (m : Entities) (old new : BTreeSet Naming) → NamesMore old new → IsNameIndex m old → IsNameIndex m new
index_more m old new more h = λ k x at. entered_more old new more x (h k x at)

-- An entity that references a subscription is an intent.
naming_kind : (n : Nature) (id : ℕ) → subscription_of n ≡ Some id → kind_of n ≡ Intent
naming_kind (nature.Intent state named) id h = refl
naming_kind nature.Constraint id h = cc

naming_key : (es : List Entity) (k : EntityKey) (x : Entity) (id : ℕ) → get (entity_map es) k ≡ Some x → subscription_of x.nature ≡ Some id → (Intent, x.id) ≡ k
naming_key es k x id at is = (λ i. (sym (naming_kind x.nature id is) i, x.id)) ∙ own_of es k x at

same_id : (id : ℕ) (o : Option ℕ) → o ≡ Some id → is_id id o ≡ true
same_id id o e = ap (is_id id) e ∙ (let r : id ≡ id = refl in grind (arith, nat_tests))

id_is : (id : ℕ) (o : Option ℕ) → is_id id o ≡ true → o ≡ Some id
id_is id None h = cc
id_is id (Some n) h = ap Some (let e : n ≡ id = grind (arith, nat_tests, h) in e)

-- A stored intent that references a subscription depends on it.
depends : (es : List Entity) (k : EntityKey) (x : Entity) (id : ℕ) → get (entity_map es) k ≡ Some x → subscription_of x.nature ≡ Some id → dependent_at (entity_map es) id x.id ≡ Some x.id
depends es k x id at is =
    ap (id_if_naming id) (ap (get (entity_map es)) (naming_key es k x id at is) ∙ at)
    ∙ ap (λ b. cond b (Some x.id) None) (same_id id (subscription_of x.nature) is)

pub forgotten : (es : List Entity) (id intent : ℕ) (old new : BTreeSet Naming) → dependent_at (entity_map es) id intent ≡ None → Updates naming_cmp old new (id, intent) false
    → IsNameIndex (entity_map es) old → IsNameIndex (entity_map es) new
forgotten es id intent old new none u h = λ k x at other is.
    let was = h k x at other is in
    let apart : is_eq (naming_cmp (id, intent) (other, x.id)) ≡ false = elim (is_eq (naming_cmp (id, intent) (other, x.id))) as (λ b. is_eq (naming_cmp (id, intent) (other, x.id)) ≡ b → b ≡ false) [
      | true ↦ λ t.
          let one = naming_exact (id, intent) (other, x.id) (equal_is (naming_cmp (id, intent) (other, x.id)) t) in
          let bad : None ≡ Some x.id = sym none ∙ (ap (λ (q : Naming). dependent_at (entity_map es) q.0 q.1) one ∙ depends es k x other at is) in
          cc
      | false ↦ λ t. refl
    ] refl in
    record { small = was.small; there = u.0 (other, x.id) ∙ (ap (λ b. cond b false (contains naming_cmp old (other, x.id))) apart ∙ was.there) }

-- ---- the pairs of a subscription

in_pairs : (id n most : ℕ) → n ≤ most → range_contains naming_cmp (Included (id, 0)) (Included (id, most)) (id, n) ≡ true
in_pairs id n most h =
    let same : nat_cmp id id ≡ Equal = grind (arith, nat_tests) in
    ap (λ r. is_le (ordering_then r (nat_cmp 0 n)) && not (is_lt (ordering_then r (nat_cmp most n)))) same
    ∙ (let low : is_le (nat_cmp 0 n) ≡ true = grind (arith, nat_tests) in
    let high : is_lt (nat_cmp most n) ≡ false = grind (arith, nat_tests) in
    ap (λ b. b && not (is_lt (nat_cmp most n))) low ∙ ap not high)

of_pairs : (id most : ℕ) (q : Naming) → range_contains naming_cmp (Included (id, 0)) (Included (id, most)) q ≡ true → id ≡ q.0
of_pairs id most q h = elim (nat_cmp id q.0) as (λ r. nat_cmp id q.0 ≡ r → is_le (ordering_then r (nat_cmp 0 q.1)) && not (is_lt (ordering_then r (nat_cmp most q.1))) ≡ true → id ≡ q.0) [
  | Less ↦ λ is g. cc
  | Equal ↦ λ is g. exact_unsigned id q.0 is
  | Greater ↦ λ is g. cc
] refl h

second_less : (id : ℕ) (p q : Naming) → id ≡ p.0 → id ≡ q.0 → naming_cmp p q ≡ Less → nat_cmp p.1 q.1 ≡ Less
second_less id p q a b h =
    let same : nat_cmp p.0 q.0 ≡ Equal = (let e : p.0 ≡ q.0 = sym a ∙ b in grind (arith, nat_tests)) in
    sym (ap (λ r. ordering_then r (nat_cmp p.1 q.1)) same) ∙ h

seconds_below : (id : ℕ) (p : Naming) (qs : List Naming) → id ≡ p.0 → AllByRecursion (λ q. id ≡ q.0) qs → AllByRecursion (λ q. naming_cmp p q ≡ Less) qs → AllByRecursion (λ n. nat_cmp p.1 n ≡ Less) (map (λ (q : Naming). q.1) qs)
seconds_below id p [] a b h = tt
seconds_below id p (q ∷ qs) a b h = (second_less id p q a b.0 h.0, seconds_below id p qs a b.1 h.1)

seconds_rise : (id : ℕ) (qs : List Naming) → AllByRecursion (λ q. id ≡ q.0) qs → IsStrictlySortedBy naming_cmp qs → IsStrictlySortedBy nat_cmp (map (λ (q : Naming). q.1) qs)
unfolding IsStrictlySortedBy
seconds_rise id [] a h = tt
seconds_rise id (q ∷ qs) a h = (seconds_below id q qs a.0 a.1 h.0, seconds_rise id qs a.1 h.1)

firsts : (id most : ℕ) (qs : List Naming) → AllByRecursion (λ q. id ≡ q.0) (filter (range_contains naming_cmp (Included (id, 0)) (Included (id, most))) qs)
firsts id most [] = tt
firsts id most (q ∷ qs) =
    let p = range_contains naming_cmp (Included (id, 0)) (Included (id, most)) in
    elim (p q) as (λ b. p q ≡ b → AllByRecursion (λ x. id ≡ x.0) (cond b (q ∷ filter p qs) (filter p qs))) [
      | true ↦ λ is. (of_pairs id most q is, firsts id most qs)
      | false ↦ λ is. firsts id most qs
    ] refl

any_second : (id n : ℕ) (qs : List Naming) → list_any (λ q. is_eq (naming_cmp (id, n) q)) qs ≡ true → list_any (λ m. is_eq (nat_cmp n m)) (map (λ (q : Naming). q.1) qs) ≡ true
any_second id n [] h = cc
any_second id n (q ∷ qs) h = elim (nat_cmp id q.0) as (λ r. (is_eq (ordering_then r (nat_cmp n q.1)) || list_any (λ x. is_eq (naming_cmp (id, n) x)) qs) ≡ true
    → (is_eq (nat_cmp n q.1) || list_any (λ m. is_eq (nat_cmp n m)) (map (λ (x : Naming). x.1) qs)) ≡ true) [
      | Less ↦ λ g. or_right (is_eq (nat_cmp n q.1)) _ (any_second id n qs g)
      | Equal ↦ λ g. or_more (is_eq (nat_cmp n q.1)) _ _ (any_second id n qs) g
      | Greater ↦ λ g. or_right (is_eq (nat_cmp n q.1)) _ (any_second id n qs g)
    ] h
  where
    or_right : (a b : Bool) → b ≡ true → (a || b) ≡ true
    or_right true b h = refl
    or_right false b h = h

    or_more : (a b c : Bool) → (b ≡ true → c ≡ true) → (a || b) ≡ true → (a || c) ≡ true
    or_more true b c f h = refl
    or_more false b c f h = f h

pub pairs_found : (names : BTreeSet Naming) (id most : ℕ) (pairs : List Naming) → ((intent : ℕ) → HasPair names id intent → intent ≤ most)
    → pairs ≡ filter (range_contains naming_cmp (Included (id, 0)) (Included (id, most))) names.keys → IsStrictlySortedBy naming_cmp names.keys → ArePairsOf names id pairs
pairs_found names id most pairs small is rise =
    let p = range_contains naming_cmp (Included (id, 0)) (Included (id, most)) in
    subst (ArePairsOf names id) (sym is) (record {
      rise = seconds_rise id (filter p names.keys) (firsts id most names.keys) (IsStrictlySortedBy-filter naming_cmp p names.keys rise);
      all = λ n has. any_second id n (filter p names.keys) (any_kept naming_cmp naming_exact p (id, n) names.keys (in_pairs id n most (small n has)) has.there);
    })

-- ---- the intents that reference a subscription

module _ (look : ℕ → Option Entity) (id : ℕ) where
  abbrev names_it : ℕ → Bool
  names_it n = is_some (id_if_naming id (look n))

  abbrev among : List ℕ → ℕ → Bool
  among ns n = list_any (λ k. is_eq (nat_cmp n k)) ns

  one_passes : (ns : List ℕ) (n : ℕ) → among (filter names_it ns) n ≡ true → names_it n ≡ true
  one_passes [] n h = cc
  one_passes (k ∷ ns) n h = elim (names_it k) as (λ b. names_it k ≡ b → among (cond b (k ∷ filter names_it ns) (filter names_it ns)) n ≡ true → names_it n ≡ true) [
    | true ↦ λ is g. elim (is_eq (nat_cmp n k)) as (λ b. is_eq (nat_cmp n k) ≡ b → (b || among (filter names_it ns) n) ≡ true → names_it n ≡ true) [
      | true ↦ λ same f. ap names_it (exact_unsigned n k (equal_is (nat_cmp n k) same)) ∙ is
      | false ↦ λ same f. one_passes ns n f
    ] refl g
    | false ↦ λ is g. one_passes ns n g
  ] refl h

  ids_found : (pairs : List Naming) → map (λ (e : Entity). e.id) (filter_map look (filter names_it (map (λ (q : Naming). q.1) pairs))) ≡ filter_map (λ (q : Naming). id_if_naming id (look q.1)) pairs
  ids_found [] = refl
  ids_found (q ∷ pairs) =
      let rest : List ℕ = filter names_it (map (λ (p : Naming). p.1) pairs) in
      let ids : List ℕ = filter_map (λ (p : Naming). id_if_naming id (look p.1)) pairs in
      elim (look q.1) as (λ o. look q.1 ≡ o → map (λ (e : Entity). e.id) (filter_map look (cond (is_some (id_if_naming id o)) (q.1 ∷ rest) rest)) ≡ cons_option (id_if_naming id o) ids) [
        | None ↦ λ at. ids_found pairs
        | Some x ↦ λ at. elim (is_id id (subscription_of x.nature)) as (λ b. map (λ (e : Entity). e.id) (filter_map look (cond (is_some (cond b (Some x.id) None)) (q.1 ∷ rest) rest)) ≡ cons_option (cond b (Some x.id) None) ids) [
          | true ↦ ap (λ (o : Option Entity). map (λ (e : Entity). e.id) (cons_option o (filter_map look rest))) at ∙ ap (λ (l : List ℕ). x.id ∷ l) (ids_found pairs)
          | false ↦ ids_found pairs
        ]
      ] refl

some_in : {X : Type 0} → List X → Bool
some_in [] = false
some_in (x ∷ xs) = true

any_some : (f : Naming → Option ℕ) (qs : List Naming) → list_any (λ q. is_some (f q)) qs ≡ some_in (filter_map f qs)
unfolding some_in
any_some f [] = refl
any_some f (q ∷ qs) = elim (f q) as (λ o. (is_some o || list_any (λ x. is_some (f x)) qs) ≡ some_in (cons_option o (filter_map f qs))) [ None ↦ any_some f qs | Some n ↦ refl ]

any_filter : {X Y Z : Type 0} (p : X → Bool) (f : X → Y) (g : Y → Z) (xs : List X) → list_any p xs ≡ some_in (map g (map f (filter p xs)))
unfolding some_in
any_filter p f g [] = refl
any_filter p f g (x ∷ xs) = elim (p x) as (λ b. (b || list_any p xs) ≡ some_in (map g (map f (cond b (x ∷ filter p xs) (filter p xs))))) [ true ↦ refl | false ↦ any_filter p f g xs ]

module _ (es : List Entity) (names : BTreeSet Naming) (id : ℕ) (pairs : List Naming) (index : IsNameIndex (entity_map es) names) (are : ArePairsOf names id pairs) where
  abbrev look : ℕ → Option Entity
  look n = get (entity_map es) (Intent, n)

  abbrev numbers : List ℕ
  numbers = map (λ (q : Naming). q.1) pairs

  only_naming : (o : Option Entity) (x : Entity) → o ≡ Some x → is_some (id_if_naming id o) ≡ true → is_id id (subscription_of x.nature) ≡ true
  only_naming o x at h = elim (is_id id (subscription_of x.nature)) as (λ b. is_some (cond b (Some x.id) None) ≡ true → b ≡ true) [ true ↦ λ g. refl | false ↦ λ g. g ] (subst (λ (p : Option Entity). is_some (id_if_naming id p) ≡ true) at h)

  pub dependents_found : filter_map (λ (q : Naming). dependent_at (entity_map es) id q.1) pairs ≡ dependents_in (entity_map es) id
  unfolding dependents_in
  dependents_found =
      sym (ids_found look id pairs)
      ∙ ap (map (λ (e : Entity). e.id)) (all_named key_cmp key_total key_exact key_of (λ i. (Intent, i)) (rising Intent) (entity_map es) (own_of es) (is_naming id) (filter (names_it look id) numbers)
      (IsStrictlySortedBy-filter nat_cmp (names_it look id) numbers are.rise)
      (λ i x among at. only_naming (look i) x at (one_passes look id numbers i among))
      (λ k x at t.
      let is = id_is id (subscription_of x.nature) t in
      (x.id, naming_key es k x id at is, any_kept nat_cmp exact_unsigned (names_it look id) x.id numbers (ap is_some (depends es k x id at is)) (are.all x.id (index k x at id is)))))

  pub named_found : list_any (λ (q : Naming). is_some (dependent_at (entity_map es) id q.1)) pairs ≡ is_referenced_in (entity_map es) id
  unfolding dependents_in
  named_found =
      any_some (λ (q : Naming). dependent_at (entity_map es) id q.1) pairs
      ∙ (ap some_in dependents_found
      ∙ sym (any_filter (is_naming id) (λ (e : EntityKey × Entity). e.1) (λ (e : Entity). e.id) (entries (entity_map es))))

-- ---- loops over pairs

pub not_some : {X : Type 0} (o : Option X) → is_some o ≡ false → o ≡ None
not_some None h = refl
not_some (Some x) h = cc

and_none : {X : Type 0} (xs : List X) → xs ++ [] ≡ xs
and_none [] = refl
and_none (x ∷ xs) = ap (λ l. x ∷ l) (and_none xs)

pub all_taken : (f : Naming → Option ℕ) (found : List ℕ) (left all pairs : List Naming) → left ≡ [] → all ≡ pairs → found ++ filter_map f left ≡ filter_map f all → found ≡ filter_map f pairs
all_taken f found left all pairs none same h = sym (and_none found) ∙ (ap (λ (l : List Naming). found ++ filter_map f l) (sym none) ∙ (h ∙ ap (filter_map f) same))

pub one_found : (test : Naming → Bool) (q : Naming) (left rest all pairs : List Naming) → left ≡ q ∷ rest → test q ≡ true → all ≡ pairs → list_any test left ≡ list_any test all → true ≡ list_any test pairs
one_found test q left rest all pairs is passes same h = ap (λ b. b || list_any test rest) (sym passes) ∙ (ap (list_any test) (sym is) ∙ (h ∙ ap (list_any test) same))
