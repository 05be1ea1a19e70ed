-- Proofs about the row of the entity of a kind and an id.
use Rattle.std.proofs.Common.{◌≡◌, ◌⊎◌, inl, inr, ℕ, ℤ, ◌<◌, ◌^◌, List, [], ◌∷◌, ◌&&◌, map, filter, Bool, true, false, cond, codes, Option, Some, None, refl, sym, ap, ap₂, subst, ◌∙◌, is_eq, int_eq, Ordering, Equal, Less, Greater}
use Rattle.std.specs.Prelude.{IsPermutation}
use Rattle.std.specs.List.{AllByRecursion, list_all}
use Rattle.std.specs.FinMap.{get, entries}
use Rattle.std.proofs.Common.{arith}
use Rattle.std.proofs.lemmas.Int.{ints}
use Rattle.std.proofs.lemmas.Cmp.{tied_itself}
use Rattle.std.proofs.lemmas.List.Sorted.{IsPermutation-trans, length_permutation}
use Rattle.sqlite_keyed.proofs.ListLemmas.{filter-map, IsPermutation-filter}
use Rattle.sqlite_rules.specs.Lists.{Has}
use Rattle.sqlite_typed.specs.Tests.{bytes_cmp}
use Rattle.sqlite_typed.proofs.TestLemmas.{at_ints, at_texts, last_term, then_term, same_bytes, bytes_eq_refl}
use Rattle.sqlite_sql.specs.declared.ops.CompareOp.TheVariants.{Eq}
use Rattle.sqlite_tied.specs.Compute.{everything}
use Rattle.sqlite_schema.specs.declared.command.Command.TheVariants.{Select}
use Rattle.sqlite.specs.declared.types.Value.TheVariants.{Null, Int, Text}
use Rattle.sqlite.specs.Order.{Row, column}
use Rattle.sqlite.specs.Term.{Term, col, holds}
use Rattle.sqlite.specs.Effect.{Database, Reads}
use Rattle.sqlite.specs.Listing.{understood}
use Rattle.sqlite.proofs.Callers.{one_permutation}
use Rattle.entity_core.specs.declared.entity.Entity.{Entity}
use Rattle.entity_core.specs.declared.nature.Kind.{Kind}
use Rattle.entity_core.specs.declared.nature.Kind.TheVariants.{Intent, Constraint}
use Rattle.entity_core.specs.Airspace.{Airspace, EntityKey, key_cmp, key_of}
use Rattle.entity_core.specs.Entity.{kind_of}
use Rattle.entity_core.specs.EntityId.{printed}
use Rattle.entity_core.proofs.Keys.{key_total, key_exact}
use Rattle.space_rows.specs.Rows.{kind_number}
use Rattle.space_rows.proofs.OneEntity.{one_id}
use Rattle.space_rows.proofs.Digits.{both}
use Rattle.space_sql_schema.specs.Spelling.{Spells, SubGroup, Group, IsGroup, pair_of, entity_values, entity_columns}
use Rattle.space_sql_select.specs.Selecting.{IsSelect, Answers, command_of}
use Rattle.space_sql_lookup.specs.Texts.{head_read}
use Rattle.space_sql_select.proofs.Means.{listing}
use Rattle.space_sql_select.proofs.MapEntries.{hits}
use Rattle.space_sql_lookup.proofs.Found.{same, entry_of, found_in}
use Rattle.space_sql_lookup.proofs.OwnRows.{equal_numbers}
use Rattle.space_sql_select.proofs.Selected.{selects_all}

pub head_select : IsSelect head_read
unfolding understood everything
head_select = record { plain = (refl, refl); unlisted = refl }

abbrev tests : List Term
tests = same (col 1 2) (col 0 0) ∷ same (col 1 3) (col 0 1) ∷ []

head_is : command_of head_read ≡ Select (record { lets = []; body = listing 1 tests (0 ∷ 2 ∷ 3 ∷ 4 ∷ 5 ∷ 6 ∷ 7 ∷ 8 ∷ 9 ∷ []) [] }) (codes "num" ∷ codes "kind" ∷ codes "id" ∷ codes "manager" ∷ codes "state" ∷ codes "version" ∷ codes "serial" ∷ codes "ovn" ∷ codes "url" ∷ [])
unfolding understood everything
head_is = refl

-- ---- the test of a key

pub either_way : (a b : Bool) → (a ≡ true → b ≡ true) → (b ≡ true → a ≡ true) → a ≡ b
either_way true b f g = sym (f refl)
either_way false true f g = g refl
either_way false false f g = refl

one_kind : (k l : Kind) → kind_number k ≡ kind_number l → k ≡ l
one_kind Intent Intent e = refl
one_kind Intent Constraint e = cc
one_kind Constraint Intent e = cc
one_kind Constraint Constraint e = refl

pub same_number : (m n : ℤ) → int_eq m n ≡ true → m ≡ n
same_number m n e = grind (arith, ints, e)

equal_keys : (j k : EntityKey) → is_eq (key_cmp j k) ≡ true → j ≡ k
equal_keys j k e = key_exact j k (go (key_cmp j k) e)
  where
    go : (o : Ordering) → is_eq o ≡ true → o ≡ Equal
    go Less e = cc
    go Equal e = refl
    go Greater e = cc

-- Returns true if the columns are those of the key.
abbrev is_key : EntityKey → Row → Bool
is_key k c = list_all (holds ((Int (kind_number k.0) ∷ Text (printed k.1) ∷ []) ∷ (column c 0 ∷ Null ∷ column c 1 ∷ column c 2 ∷ []) ∷ [])) tests

module _ (k : EntityKey) (fits : k.1 < 2 ^ 128) (serial : ℕ) (subs : List SubGroup) where
  test_is : (g : Group) → is_key k (entity_values g.row) ≡ (int_eq g.row.kind (kind_number k.0) && is_eq (bytes_cmp g.row.id (printed k.1)))
  test_is g = then_term (at_ints false Eq g.row.kind (kind_number k.0)) (last_term (at_texts false Eq g.row.id (printed k.1)))

  key_test : (g : Group) → IsGroup serial subs g → is_key k (entity_values g.row) ≡ hits key_cmp key_total k (pair_of g)
  key_test g p =
      let e = g.entity in
      test_is g ∙ either_way _ _
      (λ t.
      let h = both (int_eq g.row.kind (kind_number k.0)) (is_eq (bytes_cmp g.row.id (printed k.1))) t in
      let kind = one_kind (kind_of e.nature) k.0 (sym p.spelt.entity.kind ∙ same_number g.row.kind (kind_number k.0) h.0) in
      let id = one_id g.row.id e.id k.1 p.spelt.kept.id fits p.spelt.entity.id (same_bytes g.row.id (printed k.1) h.1) in
      let key : key_of e ≡ k = λ i. (kind i, id i) in
      subst (λ (j : EntityKey). is_eq (key_cmp k j) ≡ true) (sym key) (ap is_eq (tied_itself key_total k)))
      (λ t.
      let key = equal_keys k (key_of e) t in
      let kind : g.row.kind ≡ kind_number k.0 = p.spelt.entity.kind ∙ ap (λ (j : EntityKey). kind_number j.0) (sym key) in
      let id : g.row.id ≡ printed k.1 = p.spelt.entity.id ∙ ap (λ (j : EntityKey). printed j.1) (sym key) in
      ap₂ ◌&&◌ (equal_numbers g.row.kind (kind_number k.0) kind) (subst (λ (l : List ℕ). is_eq (bytes_cmp l (printed k.1)) ≡ true) (sym id) (bytes_eq_refl (printed k.1))))

  same_filter : (gs : List Group) → AllByRecursion (IsGroup serial subs) gs → filter (λ (g : Group). is_key k (entity_values g.row)) gs ≡ filter (λ g. hits key_cmp key_total k (pair_of g)) gs
  same_filter [] each = refl
  same_filter (g ∷ gs) each = λ i. cond (key_test g each.0 i) (g ∷ same_filter gs each.1 i) (same_filter gs each.1 i)

has_filtered : {X : Type 0} (q : X → Bool) (xs : List X) (x : X) → Has (filter q xs) x → Has xs x
has_filtered q [] x has = absurd has
has_filtered {X} q (y ∷ ys) x has = go (has_filtered q ys x) (q y) has
  where
    go : (Has (filter q ys) x → Has ys x) → (b : Bool) → Has (cond b (y ∷ filter q ys) (filter q ys)) x → Has (y ∷ ys) x
    go more true (inl e) = inl e
    go more true (inr h) = inr (more h)
    go more false h = inr (more h)

-- Holds if the rows are the single row of the entity, or there is neither.
abbrev pub ShowsHead : (db : Database) (a : Airspace) → Spells db a → EntityKey → List Row → Type 0
ShowsHead db a s k rows = ((rows ≡ []) × (get a.entities k ≡ None)) ⊎ ((g : Group) × Has s.groups g × (rows ≡ entity_values g.row ∷ []) × (get a.entities k ≡ Some g.entity))

told : (a : Airspace) (gs fs : List Group) (k : EntityKey) (o : Option Entity) (rows : List Row) → ((g : Group) → Has fs g → Has gs g) → IsPermutation (map pair_of fs) (entry_of key_cmp key_total key_exact k o) → IsPermutation (map (λ (g : Group). entity_values g.row) fs) rows
    → ((rows ≡ []) × (o ≡ None)) ⊎ ((g : Group) × Has gs g × (rows ≡ entity_values g.row ∷ []) × (o ≡ Some g.entity))
told a gs [] k None [] has keys p = inl (refl, refl)
told a gs [] k None (r ∷ rows) has keys p = absurd (let e = length_permutation _ _ p in cc)
told a gs [] k (Some e) rows has keys p = absurd (let e = length_permutation _ _ keys in cc)
told a gs (f ∷ fs) k None rows has keys p = absurd (let e = length_permutation _ _ keys in cc)
told a gs (f ∷ []) k (Some e) rows has keys p =
    let one = one_permutation (pair_of f) ((k, e) ∷ []) keys in
    let pair : (k, e) ≡ pair_of f = cc in
    let entity : f.entity ≡ e = sym (ap (λ (p : EntityKey × Entity). p.1) pair) in
    inr (f, has f (inl refl), one_permutation (entity_values f.row) rows p, ap (λ (x : Entity). Some x) (sym entity))
told a gs (f ∷ g ∷ fs) k (Some e) rows has keys p = absurd (let e = length_permutation _ _ keys in cc)

pub head_shown : (db : Database) (a : Airspace) (s : Spells db a) (k : EntityKey) → k.1 < 2 ^ 128 → (rows : List Row) → Answers head_read (Int (kind_number k.0) ∷ Text (printed k.1) ∷ []) db rows → ShowsHead db a s k rows
head_shown db a s k fits rows h =
    let params = Int (kind_number k.0) ∷ Text (printed k.1) ∷ [] in
    let read = subst (λ c. Reads c db params rows) head_is h in
    let all = selects_all 1 tests (0 ∷ 2 ∷ 3 ∷ 4 ∷ 5 ∷ 6 ∷ 7 ∷ 8 ∷ 9 ∷ []) [] db.trees params rows refl (read.answer Null) in
    let mine = sym (filter-map (is_key k) entity_columns (db.trees 1)) in
    let stored = IsPermutation-filter (is_key k) _ _ s.entities in
    let fs = filter (λ g. hits key_cmp key_total k (pair_of g)) s.groups in
    let theirs = filter-map (is_key k) (λ (g : Group). entity_values g.row) s.groups ∙ ap (map (λ (g : Group). entity_values g.row)) (same_filter k fits a.serial s.subs s.groups s.each) in
    let rows_are = IsPermutation-trans _ _ _ (subst (λ l. IsPermutation l (filter (is_key k) (map entity_columns (db.trees 1)))) theirs stored) (subst (λ l. IsPermutation l rows) mine all) in
    let kept = IsPermutation-filter (hits key_cmp key_total k) _ _ s.kept in
    let keys = subst (λ l. IsPermutation (map pair_of fs) l) (found_in key_cmp key_total key_exact a.entities k) (subst (λ l. IsPermutation l (filter (hits key_cmp key_total k) (entries a.entities))) (filter-map (hits key_cmp key_total k) pair_of s.groups) kept) in
    told a s.groups fs k (get a.entities k) rows (has_filtered (λ g. hits key_cmp key_total k (pair_of g)) s.groups) keys rows_are
