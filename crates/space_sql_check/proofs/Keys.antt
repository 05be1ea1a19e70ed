-- Proofs that the items that the rows of a database represent have different keys, by its unique
-- indexes, so that there is a map of them.
use Rattle.std.proofs.Common.{◌≡◌, ◌≢◌, ℕ, ℤ, List, [], ◌∷◌, ◌&&◌, map, filter, Bool, true, false, not, Option, Some, None, refl, sym, ap, ap₂, subst, ◌∙◌, Ordering, Less, Equal, Greater, is_eq, int_cmp}
use Rattle.std.specs.Prelude.{IsPermutation}
use Rattle.std.specs.List.{AllByRecursion}
use Rattle.std.specs.Ordering.{nat_cmp}
use Rattle.std.specs.Cmp.{IsTotalOrder}
use Rattle.std.specs.FinMap.{FinMap, IsAntisymmetric, get, insert, entries, empty, nat_cmp-IsAntisymmetric}
use Rattle.std.specs.Cmp.Lexicographic.{slice_cmp}
use Rattle.std.proofs.lemmas.Cmp.{nat_cmp_total, nat_list_cmp_total, int_cmp_total, tied_itself}
use Rattle.std.proofs.lemmas.List.Sorted.{IsPermutation-trans, IsPermutation-cons, IsPermutation-sym}
use Rattle.sqlite_keyed.proofs.ListLemmas.{IsPermutation-filter, IsPermutation-same, filter_none, all-filter, all_map, all_unmap, none_from_any}
use Rattle.sqlite_value.specs.declared.keys.Collation.TheVariants.{Binary}
use Rattle.sqlite_value.specs.declared.value.Value.TheVariants.{Int, Text}
use Rattle.sqlite_value.specs.Keys.{plain, first_key}
use Rattle.sqlite_value.specs.Order.{Row, column}
use Rattle.sqlite_sql.specs.declared.ops.CompareOp.TheVariants.{Eq, Ne}
use Rattle.sqlite_typed.proofs.TestLemmas.{at_ints, at_texts}
use Rattle.sqlite_trees.specs.Tree.{IsAscending}
use Rattle.sqlite_schema.specs.declared.schema.Constraint.TheVariants.{Unique}
use Rattle.sqlite_schema.specs.Rules.{equal, differ, passes, clashes}
use Rattle.sqlite_catalog.specs.Listing.{IsSound}
use Rattle.sqlite.specs.Effect.{Database, IsDatabase}
use Rattle.entity_core.specs.Airspace.{Entities as Map, EntityKey, Subscriptions as SubMap, key_cmp, key_of}
use Rattle.entity_core.specs.EntityId.{printed}
use Rattle.entity_core.proofs.Keys.{key_total, key_exact}
use Rattle.space_rows.specs.Rows.{kind_number}
use Rattle.space_rows.proofs.Chunks.{Differ, all_turned}
use Rattle.space_sql_schema.specs.Tables.{dss_schema, entity, subscription}
use Rattle.space_sql_schema.specs.Spelling.{Group, IsGroup, IsBefore, SubGroup, IsSubGroup, IsSubBefore, pair_of, sub_pair_of, entity_values, sub_values, entity_columns, sub_columns}
use Rattle.space_sql_schema.proofs.Making.{no_entries}
use Rattle.space_sql_select.proofs.MapEntries.{hits, inserted}
use Rattle.space_sql_lookup.proofs.Found.{entry_of, found_in}
use Rattle.space_sql_lookup.proofs.Picked.{nothing_left}
use Rattle.space_sql_lookup.proofs.OwnRows.{equal_numbers, other_numbers}
use Rattle.space_sql_check.specs.declared.source.Source.TheVariants.{Entities, Subscriptions}
use Rattle.space_sql_check.specs.Parts.{AreSubs, AreEntities, rows_where}
use Rattle.space_sql_check.proofs.Filters.{all_moved}
use Rattle.sqlite_value.specs.declared.value.Value.{Value}

-- ---- maps

module _ {K X A : Type 0} (R : K → K → Ordering) (o : IsTotalOrder R) (exact : IsAntisymmetric R) (pair : A → K × X) where
  none_equal : (k l : K) → k ≢ l → is_eq (R k l) ≡ false
  none_equal k l apart = go (R k l) refl
    where
      go : (c : Ordering) → R k l ≡ c → is_eq c ≡ false
      go Less e = refl
      go Greater e = refl
      go Equal e = absurd (apart (exact k l e))

  no_entry : (k : K) (v : Option X) → entry_of R o exact k v ≡ [] → v ≡ None
  no_entry k None e = refl
  no_entry k (Some x) e = absurd cc

  -- There is a map of items with different keys.
  pub map_of : (xs : List A) → Differ (λ x. (pair x).0) xs → (m : FinMap R X) × IsPermutation (map pair xs) (entries m)
  map_of [] apart = (empty, IsPermutation-same [] (entries (empty {R = R})) (sym (no_entries R)))
  map_of (x ∷ xs) apart =
      let rest = map_of xs apart.1 in
      let k = (pair x).0 in
      let none = filter_none (hits R o k) (map pair xs) (all_map (λ e. hits R o k e ≡ false) pair xs (all_turned (λ y. k ≢ (pair y).0) (λ y. hits R o k (pair y) ≡ false) (λ y h. none_equal k (pair y).0 h) xs apart.0)) in
      let moved = IsPermutation-filter (hits R o k) _ _ rest.1 in
      let free = no_entry k (get rest.0 k) (sym (found_in R o exact rest.0 k) ∙ nothing_left _ (subst (λ l. IsPermutation l (filter (hits R o k) (entries rest.0))) none moved)) in
      (insert rest.0 k (pair x).1, IsPermutation-trans _ _ _ (IsPermutation-cons (pair x) _ _ rest.1) (inserted R o rest.0 k (pair x).1 free))

-- ---- pairs of rows

first_false : (b r : Bool) → (not b && r) ≡ true → b ≡ false
first_false true r e = absurd cc
first_false false r e = refl

module _ {X : Type 0} (T : X → X → Type 0) where
  kept_pairs : (p : X → Bool) (xs : List X) → AllByRecursion (λ x. AllByRecursion (T x) xs) xs → AllByRecursion (λ x. AllByRecursion (T x) (filter p xs)) (filter p xs)
  kept_pairs p xs all = all-filter _ p xs (all_turned (λ x. AllByRecursion (T x) xs) (λ x. AllByRecursion (T x) (filter p xs)) (λ x h. all-filter _ p xs h) xs all)

  moved_pairs : (xs ys : List X) → IsPermutation xs ys → AllByRecursion (λ x. AllByRecursion (T x) xs) xs → AllByRecursion (λ x. AllByRecursion (T x) ys) ys
  moved_pairs xs ys same all = all_moved (λ x. AllByRecursion (T x) ys) xs ys same (all_turned (λ x. AllByRecursion (T x) xs) (λ x. AllByRecursion (T x) ys) (λ x h. all_moved (T x) xs ys same h) xs all)

  -- Each element is related with each later one.
  later_pairs : (xs : List X) → AllByRecursion (λ x. AllByRecursion (T x) xs) xs → IsAscending T xs
  later_pairs [] all = tt
  later_pairs (x ∷ xs) all = (all.0.1, later_pairs xs (all_turned (λ y. AllByRecursion (T y) (x ∷ xs)) (λ y. AllByRecursion (T y) xs) (λ y h. h.1) xs all.1))

mapped_pairs : {X Y : Type 0} (f : X → Y) (T : Y → Y → Type 0) (xs : List X) → AllByRecursion (λ x. AllByRecursion (λ y. T (f x) (f y)) xs) xs → AllByRecursion (λ x. AllByRecursion (T x) (map f xs)) (map f xs)
mapped_pairs f T xs all = all_map _ f xs (all_turned (λ x. AllByRecursion (λ y. T (f x) (f y)) xs) (λ x. AllByRecursion (T (f x)) (map f xs)) (λ x h. all_map _ f xs h) xs all)

unmapped_pairs : {X Y : Type 0} (f : X → Y) (T : Y → Y → Type 0) (xs : List X) → AllByRecursion (λ x. AllByRecursion (T x) (map f xs)) (map f xs) → AllByRecursion (λ x. AllByRecursion (λ y. T (f x) (f y)) xs) xs
unmapped_pairs f T xs all = all_turned (λ x. AllByRecursion (T (f x)) (map f xs)) (λ x. AllByRecursion (λ y. T (f x) (f y)) xs) (λ x h. all_unmap _ f xs h) xs (all_unmap _ f xs all)

-- ---- values

same_number : (m n : ℤ) → m ≡ n → equal Binary (Int m) (Int n) ≡ true
same_number m n e = at_ints false Eq m n ∙ equal_numbers m n e

same_text : (a b : List ℕ) → a ≡ b → equal Binary (Text a) (Text b) ≡ true
same_text a b e = at_texts false Eq a b ∙ ap is_eq (subst (λ (c : List ℕ). slice_cmp nat_cmp a c ≡ Equal) e (tied_itself nat_list_cmp_total a))

other_number : (m n : ℤ) → m ≢ n → differ (Int m) (Int n) ≡ true
other_number m n e = at_ints false Ne m n ∙ ap not (other_numbers m n e)

not_less : (m n : ℤ) → int_cmp m n ≡ Less → n ≢ m
not_less m n up e = let tie = tied_itself int_cmp_total m in let bad = sym (subst (λ (k : ℤ). int_cmp m k ≡ Less) e up) ∙ tie in cc

-- ---- entities

-- Returns true if two rows of `entity`, by the columns that are shown, have the same kind and id,
-- and different numbers.
abbrev same_key : Row → Row → Bool
same_key c d = (equal Binary (column d 1) (column c 1) && (equal Binary (column d 2) (column c 2) && true)) && differ (column d 0) (column c 0)

abbrev same_id : Row → Row → Bool
same_id c d = (equal Binary (column d 1) (column c 1) && true) && differ (column d 0) (column c 0)

module _ (db : Database) (has : db.schema ≡ dss_schema) (sound : IsDatabase db) where
  ours : IsSound dss_schema db.trees
  ours = subst (λ s. IsSound s db.trees) has sound

  entity_rule : (r : Row) → passes Unique dss_schema db.trees (entity 1) r ≡ true → clashes plain (2 ∷ 3 ∷ []) (db.trees 1) r ≡ false
  entity_rule r e = first_false (clashes plain (2 ∷ 3 ∷ []) (db.trees 1) r) true e

  sub_rule : (r : Row) → passes Unique dss_schema db.trees (subscription 9) r ≡ true → clashes plain (2 ∷ []) (db.trees 9) r ≡ false
  sub_rule r e = first_false (clashes plain (2 ∷ []) (db.trees 9) r) true e

  entity_rows : AllByRecursion (λ r. AllByRecursion (λ s. same_key (entity_columns r) (entity_columns s) ≡ false) (db.trees 1)) (db.trees 1)
  unfolding first_key
  entity_rows = all_turned (λ r. passes Unique dss_schema db.trees (entity 1) r ≡ true) (λ r. AllByRecursion (λ s. same_key (entity_columns r) (entity_columns s) ≡ false) (db.trees 1))
      (λ r e. none_from_any (λ s. same_key (entity_columns r) (entity_columns s)) (db.trees 1) (entity_rule r e)) (db.trees 1) ((ours.obeys.rules Unique).1.0)

  sub_rows : AllByRecursion (λ r. AllByRecursion (λ s. same_id (sub_columns r) (sub_columns s) ≡ false) (db.trees 9)) (db.trees 9)
  unfolding first_key
  sub_rows = all_turned (λ r. passes Unique dss_schema db.trees (subscription 9) r ≡ true) (λ r. AllByRecursion (λ s. same_id (sub_columns r) (sub_columns s) ≡ false) (db.trees 9))
      (λ r e. none_from_any (λ s. same_id (sub_columns r) (sub_columns s)) (db.trees 9) (sub_rule r e)) (db.trees 9) ((ours.obeys.rules Unique).1.1.1.1.1.0)

  module _ (serial : ℕ) (subs : List SubGroup) where
    abbrev Parted : Group → Group → Type 0
    Parted g h = same_key (entity_values g.row) (entity_values h.row) ≡ false

    apart : (g h : Group) → IsGroup serial subs g → IsGroup serial subs h → IsBefore g h → Parted g h → key_of g.entity ≢ key_of h.entity
    apart g h p q up parted e =
        let kind : h.row.kind ≡ g.row.kind = q.spelt.entity.kind ∙ (ap (λ (k : EntityKey). kind_number k.0) (sym e) ∙ sym p.spelt.entity.kind) in
        let id : h.row.id ≡ g.row.id = q.spelt.entity.id ∙ (ap (λ (k : EntityKey). printed k.1) (sym e) ∙ sym p.spelt.entity.id) in
        let all : same_key (entity_values g.row) (entity_values h.row) ≡ true =
        ap₂ ◌&&◌ (ap₂ ◌&&◌ (same_number h.row.kind g.row.kind kind) (ap (λ b. b && true) (same_text h.row.id g.row.id id))) (other_number h.row.num g.row.num (not_less g.row.num h.row.num up)) in
        let bad = sym parted ∙ all in cc

    one_apart : (g : Group) (hs : List Group) → IsGroup serial subs g → AllByRecursion (IsGroup serial subs) hs → AllByRecursion (IsBefore g) hs → AllByRecursion (Parted g) hs → AllByRecursion (λ (h : Group). key_of g.entity ≢ key_of h.entity) hs
    one_apart g [] p each up parted = tt
    one_apart g (h ∷ hs) p each up parted = (apart g h p each.0 up.0 parted.0, one_apart g hs p each.1 up.1 parted.1)

    all_apart : (gs : List Group) → AllByRecursion (IsGroup serial subs) gs → IsAscending IsBefore gs → IsAscending Parted gs → Differ (λ (g : Group). key_of g.entity) gs
    all_apart [] each up parted = tt
    all_apart (g ∷ gs) each up parted = (one_apart g gs each.0 each.1 up.0 parted.0, all_apart gs each.1 up.1 parted.1)

    -- There is a map of the entities that some of the rows represent.
    pub entity_map_of : (keep : Value → Bool) (gs : List Group) → AreEntities serial subs keep db gs → (m : Map) × IsPermutation (map pair_of gs) (entries m)
    entity_map_of keep gs are =
        let T = λ (c d : Row). same_key c d ≡ false in
        let shown = mapped_pairs entity_columns T (db.trees 1) entity_rows in
        let kept = kept_pairs T (λ c. keep (column c 0)) (map entity_columns (db.trees 1)) shown in
        let theirs = moved_pairs T (rows_where keep Entities db) (map (λ (g : Group). entity_values g.row) gs) (IsPermutation-sym _ _ are.rows) kept in
        map_of key_cmp key_total key_exact pair_of gs (all_apart gs are.each are.rising (later_pairs Parted gs (unmapped_pairs (λ (g : Group). entity_values g.row) T gs theirs)))

  -- ---- subscriptions

  module _ (serial : ℕ) where
    abbrev SubsParted : SubGroup → SubGroup → Type 0
    SubsParted g h = same_id (sub_values g.row) (sub_values h.row) ≡ false

    subs_apart : (g h : SubGroup) → IsSubGroup serial g → IsSubGroup serial h → IsSubBefore g h → SubsParted g h → g.sub.id ≢ h.sub.id
    subs_apart g h p q up parted e =
        let id : h.row.id ≡ g.row.id = q.spelt.sub.id ∙ (ap printed (sym e) ∙ sym p.spelt.sub.id) in
        let all : same_id (sub_values g.row) (sub_values h.row) ≡ true = ap₂ ◌&&◌ (ap (λ b. b && true) (same_text h.row.id g.row.id id)) (other_number h.row.num g.row.num (not_less g.row.num h.row.num up)) in
        let bad = sym parted ∙ all in cc

    one_sub_apart : (g : SubGroup) (hs : List SubGroup) → IsSubGroup serial g → AllByRecursion (IsSubGroup serial) hs → AllByRecursion (IsSubBefore g) hs → AllByRecursion (SubsParted g) hs → AllByRecursion (λ (h : SubGroup). g.sub.id ≢ h.sub.id) hs
    one_sub_apart g [] p each up parted = tt
    one_sub_apart g (h ∷ hs) p each up parted = (subs_apart g h p each.0 up.0 parted.0, one_sub_apart g hs p each.1 up.1 parted.1)

    all_subs_apart : (gs : List SubGroup) → AllByRecursion (IsSubGroup serial) gs → IsAscending IsSubBefore gs → IsAscending SubsParted gs → Differ (λ (g : SubGroup). g.sub.id) gs
    all_subs_apart [] each up parted = tt
    all_subs_apart (g ∷ gs) each up parted = (one_sub_apart g gs each.0 each.1 up.0 parted.0, all_subs_apart gs each.1 up.1 parted.1)

    -- There is a map of the subscriptions that some of the rows represent.
    pub sub_map_of : (keep : Value → Bool) (gs : List SubGroup) → AreSubs serial keep db gs → (m : SubMap) × IsPermutation (map sub_pair_of gs) (entries m)
    sub_map_of keep gs are =
        let T = λ (c d : Row). same_id c d ≡ false in
        let shown = mapped_pairs sub_columns T (db.trees 9) sub_rows in
        let kept = kept_pairs T (λ c. keep (column c 0)) (map sub_columns (db.trees 9)) shown in
        let theirs = moved_pairs T (rows_where keep Subscriptions db) (map (λ (g : SubGroup). sub_values g.row) gs) (IsPermutation-sym _ _ are.rows) kept in
        map_of nat_cmp nat_cmp_total nat_cmp-IsAntisymmetric sub_pair_of gs (all_subs_apart gs are.each are.rising (later_pairs SubsParted gs (unmapped_pairs (λ (g : SubGroup). sub_values g.row) T gs theirs)))
