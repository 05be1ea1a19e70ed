-- Proofs that the ids found are those of the entities that reference the subscription.
use Rattle.std.proofs.Common.{◌≡◌, ◌≢◌, inl, inr, ℕ, ℤ, ◌<◌, ◌^◌, List, [], ◌∷◌, map, filter, true, false, cond, Option, Some, None, refl, sym, ap, ap₂, subst, ◌∙◌, Less, int_eq, arith}
use Rattle.std.specs.Prelude.{IsPermutation, nat_eq}
use Rattle.std.specs.List.{AllByRecursion, AllZip}
use Rattle.std.specs.List.Sorted.{IsSorted, IsStrictlySortedBy}
use Rattle.std.specs.Ordering.{eq_by_cmp, nat_cmp}
use Rattle.std.specs.FinMap as maps
use Rattle.std.specs.FinMap.{empty, entries, get, get-empty, get-entries}
use Rattle.std.proofs.lemmas.Bool.Decides.{nat_tests}
use Rattle.std.proofs.lemmas.Cmp.{nat_cmp_total}
use Rattle.std.proofs.lemmas.Option.{same_Some}
use Rattle.std.proofs.lemmas.List.Sorted.{IsPermutation-map, IsPermutation-refl, IsPermutation-sym, IsPermutation-trans}
use Rattle.sqlite_keyed.proofs.ListLemmas.{map-map, filter-map, filter_none, IsPermutation-filter}
use Rattle.sqlite_keyed.proofs.SortLemmas.{sorted_unique}
use Rattle.sqlite_rules.specs.Lists.{Has}
use Rattle.sqlite_rules.proofs.ListLemmas.{all_from, all_has, has_filtered}
use Rattle.sqlite_rules.proofs.ProbeLemmas.{has_mapped, mapped_has}
use Rattle.sqlite_trees.specs.Tree.{IsAscending}
use Rattle.sqlite_trees.proofs.ListLemmas.{all-permutation}
use Rattle.sqlite.specs.Order.{Row}
use Rattle.sqlite.specs.Effect.{Database}
use Rattle.entity_core.specs.declared.entity.Entity.{Entity}
use Rattle.entity_core.specs.Airspace.{Airspace, IsAirspace, EntityKey, key_cmp, key_of}
use Rattle.entity_core.specs.Entity.{subscription_of}
use Rattle.entity_core.specs.Search.{dependents_in, is_id, is_naming}
use Rattle.entity_core.proofs.Keys.{one_key}
use Rattle.space_core.proofs.Risings.{found_in_order}
use Rattle.space_rows.proofs.Chunks.{Differ}
use Rattle.space_sql_schema.specs.Spelling.{Spells, SubGroup, Group, IsGroup, IsSubNumber, Names, pair_of}
use Rattle.space_sql_schema.proofs.OneAirspace.{numbers_differ, sub_numbers_differ, one_number, one_table}
use Rattle.space_sql_select.specs.Rows.{number_values}
use Rattle.space_sql_select.proofs.TypedRows.{number_of_values, number_back}
use Rattle.space_sql_lookup.specs.Dependents.{AnswersNamers, AnswersSubNum, IsIdOf, FindsIds, FindsDependents}
use Rattle.space_sql_lookup.proofs.OwnRows.{equal_numbers, other_numbers}
use Rattle.space_sql_lookup.proofs.Heads.{either_way, same_number}
use Rattle.space_sql_lookup.proofs.Picked.{nothing_left}
use Rattle.space_sql_lookup.proofs.Namings.{names_number, namers_shown}
use Rattle.space_sql_lookup.proofs.SubHeads.{ShowsSub, sub_num_shown}

-- ---- ids by numbers

-- The id of the entity with a number.
abbrev id_by : List Group → ℤ → ℕ
id_by [] num = 0
id_by (g ∷ gs) num = cond (int_eq g.row.num num) g.entity.id (id_by gs num)

id_by_own : (gs : List Group) (g : Group) → Differ (λ (g : Group). g.row.num) gs → Has gs g → id_by gs g.row.num ≡ g.entity.id
id_by_own [] g apart there = absurd there
id_by_own (h ∷ gs) g apart (inl e) =
    subst (λ (x : Group). id_by (h ∷ gs) x.row.num ≡ x.entity.id) (sym e) (ap (λ b. cond b h.entity.id (id_by gs h.row.num)) (equal_numbers h.row.num h.row.num refl))
id_by_own (h ∷ gs) g apart (inr more) =
    let other = all_has (λ (y : Group). h.row.num ≢ y.row.num) gs g apart.0 more in
    ap (λ b. cond b h.entity.id (id_by gs g.row.num)) (other_numbers h.row.num g.row.num other) ∙ id_by_own gs g apart.1 more

module _ (gs : List Group) (apart : Differ (λ (g : Group). g.row.num) gs) where
  abbrev HasGroup : ℤ → Type 0
  HasGroup num = (g : Group) × Has gs g × (g.row.num ≡ num)

  ids_are : (numbers : List ℤ) (ids : List ℕ) → AllZip (IsIdOf gs) numbers ids → AllByRecursion HasGroup numbers → ids ≡ map (id_by gs) numbers
  ids_are [] [] zip all = refl
  ids_are [] (i ∷ ids) zip all = absurd zip
  ids_are (n ∷ ns) [] zip all = absurd zip
  ids_are (n ∷ ns) (i ∷ ids) zip all =
      let own = id_by_own gs all.0.0 apart all.0.1 in
      ap₂ ◌∷◌ (zip.0 all.0.0 all.0.1 all.0.2 ∙ (sym own ∙ ap (id_by gs) all.0.2)) (ids_are ns ids zip.1 all.1)

  module _ (ds : List Group) (among : (d : Group) → Has ds d → Has gs d) where
    have_groups : (ds : List Group) → ((d : Group) → Has ds d → Has gs d) → AllByRecursion HasGroup (map (λ (d : Group). d.row.num) ds)
    have_groups [] f = tt
    have_groups (d ∷ ds) f = ((d, f d (inl refl), refl), have_groups ds (λ x h. f x (inr h)))

    ids_back : (ds : List Group) → ((d : Group) → Has ds d → Has gs d) → map (id_by gs) (map (λ (d : Group). d.row.num) ds) ≡ map (λ (d : Group). d.entity.id) ds
    ids_back [] f = refl
    ids_back (d ∷ ds) f = ap₂ ◌∷◌ (id_by_own gs d apart (f d (inl refl))) (ids_back ds (λ x h. f x (inr h)))

    -- The ids that are read for some numbers are those of the entities that have them.
    ids_of : (numbers : List ℤ) (ids : List ℕ) → IsPermutation (map (λ (d : Group). d.row.num) ds) numbers → AllZip (IsIdOf gs) numbers ids → IsPermutation (map (λ (d : Group). d.entity.id) ds) ids
    ids_of numbers ids same zip =
        let all = all-permutation HasGroup _ _ same (have_groups ds among) in
        let moved = IsPermutation-map (id_by gs) _ _ same in
        subst (IsPermutation (map (λ (d : Group). d.entity.id) ds)) (sym (ids_are numbers ids zip all)) (subst (λ (l : List ℕ). IsPermutation l (map (id_by gs) numbers)) (ids_back ds among) moved)

-- ---- entities that reference the subscription with an id

module _ (subs : List SubGroup) (apart : Differ (λ (t : SubGroup). t.row.num) subs) (id : ℕ) where
  names_same : (t : SubGroup) → Has subs t → t.sub.id ≡ id → ((u : SubGroup) → Has subs u → u.sub.id ≡ id → u ≡ t) → (o : Option ℤ) (named : Option ℕ) → Names subs o named → names_number t.row.num o ≡ is_id id named
  names_same t there own only None None p = refl
  names_same t there own only None (Some n) p = absurd p
  names_same t there own only (Some m) None p = absurd p
  names_same t there own only (Some m) (Some n) p =
      either_way (int_eq m t.row.num) (nat_eq n id)
      (λ b.
      let same = same_number m t.row.num b in
      let mine : IsSubNumber subs t.row.num id = subst (λ (k : ℕ). IsSubNumber subs t.row.num k) own (mapped_has (λ (s : SubGroup). (s.row.num, s.sub.id)) subs t there) in
      let is = one_number t.row.num n id subs apart (subst (λ (k : ℤ). IsSubNumber subs k n) same p) mine in
      subst (λ (k : ℕ). nat_eq k id ≡ true) (sym is) (grind (arith, nat_tests)))
      (λ b.
      let u = has_mapped (λ (s : SubGroup). (s.row.num, s.sub.id)) subs (m, n) p in
      let is : n ≡ id = grind (arith, nat_tests, b) in
      let one = only u.0 u.1 (sym (ap (λ (q : ℤ × ℕ). q.1) u.2) ∙ is) in
      equal_numbers m t.row.num (ap (λ (q : ℤ × ℕ). q.0) u.2 ∙ ap (λ (s : SubGroup). s.row.num) one))

  -- If no subscription has the id, no entity references it.
  named_none : ((u : SubGroup) → Has subs u → u.sub.id ≢ id) → (o : Option ℤ) (named : Option ℕ) → Names subs o named → is_id id named ≡ false
  named_none none o None p = refl
  named_none none None (Some n) p = absurd p
  named_none none (Some m) (Some n) p =
      let u = has_mapped (λ (s : SubGroup). (s.row.num, s.sub.id)) subs (m, n) p in
      let not : n ≢ id = λ is. none u.0 u.1 (sym (ap (λ (q : ℤ × ℕ). q.1) u.2) ∙ is) in
      grind (arith, nat_tests, not)

  module _ (serial : ℕ) (t : SubGroup) (there : Has subs t) (own : t.sub.id ≡ id) (only : (u : SubGroup) → Has subs u → u.sub.id ≡ id → u ≡ t) where
    same_filter : (gs : List Group) → AllByRecursion (IsGroup serial subs) gs → filter (λ (g : Group). names_number t.row.num g.naming) gs ≡ filter (λ (g : Group). is_naming id (pair_of g)) gs
    same_filter [] each = refl
    same_filter (g ∷ gs) each = λ i. cond (names_same t there own only g.naming (subscription_of g.entity.nature) each.0.names i) (g ∷ same_filter gs each.1 i) (same_filter gs each.1 i)

-- ---- their ids in ascending order

abbrev IsUnderItsKey : EntityKey × Entity → Type 0
IsUnderItsKey p = key_of p.1 ≡ p.0

own_keys : (gs : List Group) → AllByRecursion IsUnderItsKey (map pair_of gs)
own_keys [] = tt
own_keys (g ∷ gs) = (refl, own_keys gs)

own_key : (es : List (EntityKey × Entity)) (k : EntityKey) (x : Entity) → AllByRecursion IsUnderItsKey es → maps.find key_cmp k es ≡ Some x → key_of x ≡ k
own_key [] k x all h = cc
own_key (e ∷ es) k x all h =
    elim (eq_by_cmp key_cmp k e.0) as (λ b. eq_by_cmp key_cmp k e.0 ≡ b → cond b (Some e.1) (maps.find key_cmp k es) ≡ Some x → key_of x ≡ k) [
      | true ↦ λ t s. ap key_of (sym (same_Some e.1 x s)) ∙ all.0 ∙ sym (one_key k e.0 t)
      | false ↦ λ t s. own_key es k x all.1 s
    ] refl h

-- Each entity that the tables represent is stored under its own key.
pub spelt_keyed : (db : Database) (a : Airspace) → Spells db a → (k : EntityKey) (x : Entity) → get a.entities k ≡ Some x → key_of x ≡ k
spelt_keyed db a s k x h = own_key (entries a.entities) k x (all-permutation IsUnderItsKey _ _ s.kept (own_keys s.groups)) (sym (get-entries a.entities k) ∙ h)

strictly : (ns : List ℕ) → IsStrictlySortedBy nat_cmp ns → IsAscending (λ m n. nat_cmp m n ≡ Less) ns
unfolding IsStrictlySortedBy
strictly [] up = tt
strictly (n ∷ ns) up = (up.0, strictly ns up.1)

module _ (db : Database) (a : Airspace) (s : Spells db a) (id : ℕ) where
  -- An airspace with only the entities.
  abbrev alone : Airspace
  alone = record { entities = a.entities; subscriptions = empty; availabilities = empty; serial = 0 }

  proper : IsAirspace alone
  proper = record {
    keyed = spelt_keyed db a s;
    own = λ id t h. let none = get-empty nat_cmp id in let both = sym none ∙ h in absurd cc;
    told = λ id t h. let none = get-empty nat_cmp id in let both = sym none ∙ h in absurd cc;
  }

  rising : IsAscending (λ m n. nat_cmp m n ≡ Less) (dependents_in a.entities id)
  rising = strictly (dependents_in a.entities id) ((found_in_order alone proper).dependents id)

  dependents_are : IsPermutation (map (λ (g : Group). g.entity.id) (filter (λ (g : Group). is_naming id (pair_of g)) s.groups)) (dependents_in a.entities id)
  unfolding dependents_in
  dependents_are =
      let ds = filter (λ (g : Group). is_naming id (pair_of g)) s.groups in
      let kept = IsPermutation-filter (is_naming id) _ _ s.kept in
      let moved = IsPermutation-map (λ (e : Entity). e.id) _ _ (IsPermutation-map (λ (e : EntityKey × Entity). e.1) _ _ kept) in
      let from = ap (λ l. map (λ (e : Entity). e.id) (map (λ (e : EntityKey × Entity). e.1) l)) (filter-map (is_naming id) pair_of s.groups)
      ∙ (ap (map (λ (e : Entity). e.id)) (map-map (λ (e : EntityKey × Entity). e.1) pair_of ds) ∙ map-map (λ (e : Entity). e.id) (λ (g : Group). g.entity) ds) in
      subst (λ (l : List ℕ). IsPermutation l (dependents_in a.entities id)) from moved

  -- No entity references a subscription that does not exist.
  none_named : ((u : SubGroup) → Has s.subs u → u.sub.id ≢ id) → [] ≡ dependents_in a.entities id
  none_named none =
      let no = filter_none (λ (g : Group). is_naming id (pair_of g)) s.groups (all_from (λ (g : Group). is_naming id (pair_of g) ≡ false) s.groups (λ g there.
      named_none s.subs (sub_numbers_differ s.subs s.subs_rising) id none g.naming (subscription_of g.entity.nature) (all_has (IsGroup a.serial s.subs) s.groups g s.each there).names)) in
      sym (nothing_left (dependents_in a.entities id) (subst (λ (l : List Group). IsPermutation (map (λ (g : Group). g.entity.id) l) (dependents_in a.entities id)) no dependents_are))

  -- The sorted ids of the entities that reference the subscription are its dependents.
  named_are : (t : SubGroup) → Has s.subs t → t.sub.id ≡ id → ((u : SubGroup) → Has s.subs u → u.sub.id ≡ id → u ≡ t) → (rows : List Row) → AnswersNamers t.row.num db rows → (numbers : List ℤ) → rows ≡ map number_values numbers → (ids : List ℕ) → FindsIds numbers db ids
      → (sorted : List ℕ) → IsPermutation ids sorted → IsSorted nat_cmp sorted → sorted ≡ dependents_in a.entities id
  named_are t there own only rows h numbers are ids finds sorted moved up =
      let num = t.row.num in
      let ds = filter (λ (g : Group). names_number num g.naming) s.groups in
      let shown = namers_shown db a s num rows h in
      let same = one_table number_values number_of_values number_back (map (λ (g : Group). g.row.num) ds) numbers rows (map number_values numbers) are shown (IsPermutation-refl _) in
      let found = ids_of s.groups (numbers_differ s.groups s.rising) ds (λ d has. (has_filtered (λ (g : Group). names_number num g.naming) s.groups d has).0) numbers ids same (finds a s) in
      let all = subst (λ (l : List Group). IsPermutation (map (λ (g : Group). g.entity.id) l) ids) (same_filter s.subs (sub_numbers_differ s.subs s.subs_rising) id a.serial t there own only s.groups s.each) found in
      sorted_unique nat_cmp nat_cmp_total (dependents_in a.entities id) sorted rising (IsPermutation-trans _ _ _ (IsPermutation-sym _ _ dependents_are) (IsPermutation-trans _ _ _ all moved)) up

module _ (id : ℕ) (fits : id < 2 ^ 128) (nums : List Row) (o : Option ℤ) (none : nums ≡ [] → o ≡ None) (one : (n : ℤ) → nums ≡ number_values n ∷ [] → o ≡ Some n) where
  pub nothing_told : o ≡ None → (db : Database) → AnswersSubNum id db nums → FindsDependents id db []
  nothing_told is db h a s = go (sub_num_shown db a s id fits nums h)
    where
      go : ShowsSub a s.subs (λ t. number_values t.row.num) id nums → [] ≡ dependents_in a.entities id
      go (inl (p, missing, lacks)) = none_named db a s id lacks
      go (inr (t, there, p, found, own, only)) = absurd (let both = sym is ∙ one t.row.num p in cc)

  pub dependents_told : (num : ℤ) → o ≡ Some num → (rows : List Row) (numbers : List ℤ) → rows ≡ map number_values numbers → (ids sorted : List ℕ) → IsPermutation ids sorted → IsSorted nat_cmp sorted
      → (db : Database) → AnswersSubNum id db nums → AnswersNamers num db rows → FindsIds numbers db ids → FindsDependents id db sorted
  dependents_told num is rows numbers are ids sorted moved up db h namers finds a s = go (sub_num_shown db a s id fits nums h)
    where
      go : ShowsSub a s.subs (λ t. number_values t.row.num) id nums → sorted ≡ dependents_in a.entities id
      go (inl (p, missing, lacks)) = absurd (let both = sym is ∙ none p in cc)
      go (inr (t, there, p, found, own, only)) =
          let same : num ≡ t.row.num = let both = sym is ∙ one t.row.num p in cc in
          named_are db a s id t there own only rows (subst (λ (n : ℤ). AnswersNamers n db rows) same namers) numbers are ids finds sorted moved up
