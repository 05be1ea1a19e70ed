-- Proofs that the numbers of entities and subscriptions are found.
use Rattle.std.proofs.Common.{◌≡◌, inl, ℕ, ◌<◌, ◌^◌, ℤ, List, [], ◌∷◌, map, filter, length, ◌&&◌, Bool, true, false, Option, Some, None, refl, sym, ap, subst, subst₂, ◌∙◌, arith, int_eq, get_or}
use Rattle.std.specs.Prelude.{IsPermutation}
use Rattle.std.specs.Ordering.{eq_by_cmp}
use Rattle.std.specs.FinMap.{nat_cmp-IsAntisymmetric, slice_cmp-IsAntisymmetric}
use Rattle.std.proofs.lemmas.Bool.Decides.{Decides-int_eq}
use Rattle.std.proofs.lemmas.Cmp.{nat_list_cmp_total, tied_itself}
use Rattle.std.proofs.lemmas.List.Sorted.{IsPermutation-map, IsPermutation-sym, IsPermutation-trans}
use Rattle.sqlite_keyed.proofs.ListLemmas.{map-map}
use Rattle.sqlite_keyed.proofs.KeyedLemmas.{same_int}
use Rattle.sqlite_tied.proofs.RuleLemmas.{and_true}
use Rattle.sqlite_typed.proofs.TestLemmas.{at_ints, at_texts}
use Rattle.sqlite_rules.specs.Lists.{Has}
use Rattle.sqlite_sql.specs.declared.ops.BinaryOp.TheVariants.{Compare}
use Rattle.sqlite_sql.specs.declared.ops.CompareOp.TheVariants.{Eq}
use Rattle.sqlite_sql.specs.Ops.{binary, is_true}
use Rattle.sqlite_value.specs.declared.keys.Collation.TheVariants.{Binary}
use Rattle.sqlite.specs.declared.types.Value.{Value}
use Rattle.sqlite.specs.declared.types.Value.TheVariants.{Null, Int, Text}
use Rattle.sqlite.specs.Order.{Row, column}
use Rattle.sqlite.specs.Term.{col}
use Rattle.sqlite.specs.Effect.{Database}
use Rattle.sqlite.specs.Listing.{understood}
use Rattle.sqlite.specs.State.{State, Shown}
use Rattle.sqlite.proofs.Callers.{IsPlain, reads_as}
use Rattle.entity_core.specs.declared.nature.Kind.{Kind}
use Rattle.entity_core.specs.declared.nature.Kind.TheVariants as kind
use Rattle.entity_core.specs.Entity.{kind_of}
use Rattle.entity_core.specs.EntityId.{printed}
use Rattle.entity_core.specs.Airspace.{EntityKey, key_of, text_cmp}
use Rattle.space_rows.specs.declared.rows.EntityRow.{EntityRow}
use Rattle.space_rows.specs.declared.rows.SubRow.{SubRow}
use Rattle.space_rows.specs.Rows.{kind_number}
use Rattle.space_rows.specs.Finds.{Finds}
use Rattle.space_rows.proofs.OneEntity.{one_id}
use Rattle.space_sql_schema.specs.Tables.{dss_schema}
use Rattle.space_sql_schema.specs.Spelling.{Group, IsGroup, IsSubGroup, IsSubNumber, SubGroup, entity_values, entity_columns, sub_columns, sub_values}
use Rattle.space_sql_schema.proofs.Selecting.{shows}
use Rattle.space_sql_write.specs.Layout.{IsNumberOf, has_id, layout_of}
use Rattle.space_sql_write.specs.Statements.{FindsNumber, FindsSubNumber, IsShown, ShowsEntities, ShowsSubs, is_of, numbers_of}
use Rattle.space_sql_write.proofs.Texts.{number_text, sub_number_text}
use Rattle.space_sql_write.proofs.Means.{is_first, is_kind_and_id, number_is, number_plain, number_unlisted, sub_number_is, sub_number_plain, sub_number_unlisted}
use Rattle.space_sql_write.proofs.Running.{shown_same}
use Rattle.space_sql_write.proofs.Lists.{all_there, equal_of, filtered_from, first_of_two, has_filtered, last_of_two, map_on, mapped_from, mapped_there, moved}
use Rattle.space_sql_write.proofs.Rows.{rows_passing}
use Rattle.space_sql_write.proofs.Updating.{names, names_id}
use Rattle.space_sql_write.proofs.Spelt.{lay_out}

-- ---- the result of a query

-- The numbers of the rows that pass are those of the typed rows that pass.
module _ {R : Type 0} (encode : R → Row) (number : R → ℤ) (at : (r : R) → column (encode r) 0 ≡ Int (number r)) (columns : Row → Row) (rs : List R) (rows : List Row) (same : IsPermutation (map encode rs) (map columns rows)) where
  numbers_passing : (test : Row → Bool) (passes : R → Bool) → ((r : R) → test (encode r) ≡ passes r) → (shown : List Row) → IsPermutation (map (λ c. column (columns c) 0 ∷ []) (filter (λ c. test (columns c)) rows)) shown → IsPermutation (numbers_of number passes rs) shown
  numbers_passing test passes agree shown it =
      let first = IsPermutation-map (λ c. column c 0 ∷ []) _ _ (rows_passing encode columns rs rows same test passes agree) in
      let from = map-map (λ c. column c 0 ∷ []) encode (filter passes rs) ∙ map_on (λ r. column (encode r) 0 ∷ []) (λ r. Int (number r) ∷ []) (filter passes rs) (λ r there. ap (λ v. v ∷ []) (at r)) in
      let to = map-map (λ c. column c 0 ∷ []) columns (filter (λ c. test (columns c)) rows) in
      IsPermutation-trans _ _ _ (subst₂ (λ a b. IsPermutation a b) from to first) it

-- The tests of the statement, as they are computed.
abbrev tests_of : ℤ → List ℕ → Row → Bool
tests_of kind id c = is_true (binary (Compare Eq Binary) (column c 1) (Int kind)) && (is_true (binary (Compare Eq Binary) (column c 2) (Text id)) && true)

agrees : (kind : ℤ) (id : List ℕ) (e : EntityRow) → tests_of kind id (entity_values e) ≡ is_of kind id e
agrees kind id e =
    ap (λ b. b && (is_true (binary (Compare Eq Binary) (Text e.id) (Text id)) && true)) (at_ints false Eq e.kind kind)
    ∙ ap (λ b. int_eq e.kind kind && b) (and_true _ ∙ at_texts false Eq e.id id)

pub shows_numbers : (old new : State) (kind : ℤ) (id : List ℕ) (rows : List Row) → Shown number_text (Int kind ∷ Text id ∷ []) old new rows → ShowsEntities kind id rows old.now new.now
shows_numbers old new kind id rows h = λ l has.
    let params : Row = Int kind ∷ Text id ∷ [] in
    let db = old.now.trees in
    let read = reads_as number_text params old new dss_schema has.schema _ number_is number_plain number_unlisted rows h in (
      (shown_same old new number_text params rows (subst (λ s. IsPlain (understood s number_text)) (sym has.schema) number_plain) h).0.now_is,
      numbers_passing entity_values (λ e. e.num) (λ e. refl) entity_columns l.entities (db 1) has.entities.same (tests_of kind id) (is_of kind id) (agrees kind id) rows (shows 1 is_kind_and_id (col 1 0 ∷ []) db params rows refl (read.answer Null)),
    )

pub shows_sub_numbers : (old new : State) (id : List ℕ) (rows : List Row) → Shown sub_number_text (Text id ∷ []) old new rows → ShowsSubs id rows old.now new.now
shows_sub_numbers old new id rows h = λ l has.
    let params : Row = Text id ∷ [] in
    let db = old.now.trees in
    let read = reads_as sub_number_text params old new dss_schema has.schema _ sub_number_is sub_number_plain sub_number_unlisted rows h in (
      (shown_same old new sub_number_text params rows (subst (λ s. IsPlain (understood s sub_number_text)) (sym has.schema) sub_number_plain) h).0.now_is,
      numbers_passing sub_values (λ s. s.num) (λ s. refl) sub_columns l.subs (db 9) has.subs.same (names id) (has_id id) (names_id id) rows (shows 9 (is_first 2) (col 1 0 ∷ []) db params rows refl (read.answer Null)),
    )

-- ---- from shown rows to groups

module _ {G R : Type 0} (row : G → R) (number : R → ℤ) (passes : R → Bool) (gs : List G) (shown : List Row) (same : IsPermutation (numbers_of number passes (map row gs)) shown) where
  abbrev Is : ℤ → Type 0
  Is num = (g : G) × Has gs g × (passes (row g) ≡ true) × (number (row g) ≡ num)

  same_number : (m n : ℤ) → ◌≡◌ {A = Value} (Int m) (Int n) → m ≡ n
  same_number m n e = cc

  -- A number that is shown is that of a group whose row passes.
  one_shown : (num : ℤ) → IsShown shown (Some num) → Is num
  one_shown num it =
      let r = mapped_from (λ r. Int (number r) ∷ []) (filter passes (map row gs)) it.0 (moved _ shown it.0 same it.1) in
      let f = filtered_from passes (map row gs) r.0 r.1 in
      let g = mapped_from row gs r.0 f.0 in
      let is = same_number (number r.0) num (sym (ap (λ c. column c 0) r.2) ∙ it.2) in
      (g.0, g.1, ap passes (sym g.2) ∙ f.1, ap number (sym g.2) ∙ is)

  -- If no number is shown, no group's row passes.
  none_shown : IsShown shown None → (g : G) → Has gs g → passes (row g) ≡ true → ⊥
  none_shown none g there pass =
      let f = has_filtered passes (map row gs) (row g) (mapped_there row gs g there) pass in
      let from = mapped_there (λ r. Int (number r) ∷ []) (filter passes (map row gs)) (row g) f in
      subst (λ l. Has l (Int (number (row g)) ∷ [])) none (moved shown _ _ (IsPermutation-sym _ _ same) from)

-- ---- the rows that pass

pub same_text : (a b : List ℕ) → eq_by_cmp text_cmp a b ≡ true → a ≡ b
same_text a b e = slice_cmp-IsAntisymmetric nat_cmp-IsAntisymmetric a b (equal_of _ e)

one_kind : (a b : Kind) → kind_number a ≡ kind_number b → a ≡ b
one_kind kind.Intent kind.Intent e = refl
one_kind kind.Constraint kind.Constraint e = refl
one_kind kind.Intent kind.Constraint e = absurd cc
one_kind kind.Constraint kind.Intent e = absurd cc

module _ (serial : ℕ) (ss : List SubGroup) (k : EntityKey) where
  abbrev is_its : EntityRow → Bool
  is_its = is_of (kind_number k.0) (printed k.1)

  -- The row of an entity with the key passes.
  passes_own : (g : Group) → IsGroup serial ss g → key_of g.entity ≡ k → is_its g.row ≡ true
  passes_own g is e =
      let kind : g.row.kind ≡ kind_number k.0 = is.spelt.entity.kind ∙ ap (λ (q : EntityKey). kind_number q.0) e in
      let id : g.row.id ≡ printed k.1 = is.spelt.entity.id ∙ ap (λ (q : EntityKey). printed q.1) e in
      rw (kind, id, (Decides-int_eq (kind_number k.0) (kind_number k.0)).1 refl, tied_itself nat_list_cmp_total (printed k.1))

  -- A row that passes is that of an entity with the key.
  pub key_from : (g : Group) → k.1 < 2 ^ 128 → IsGroup serial ss g → is_its g.row ≡ true → key_of g.entity ≡ k
  key_from g low is e =
      let kind = one_kind (kind_of g.entity.nature) k.0 (sym is.spelt.entity.kind ∙ same_int g.row.kind (kind_number k.0) (first_of_two _ _ e)) in
      let id = one_id g.row.id g.entity.id k.1 is.spelt.kept.id low is.spelt.entity.id (same_text g.row.id (printed k.1) (last_of_two _ _ e)) in
      λ i. (kind i, id i)

-- The row of a subscription with the id passes.
pub sub_passes : (n id : ℕ) (s : SubGroup) → IsSubGroup n s → s.sub.id ≡ id → has_id (printed id) s.row ≡ true
sub_passes n id s is e =
    let own : s.row.id ≡ printed id = is.spelt.sub.id ∙ ap printed e in
    rw (own, tied_itself nat_list_cmp_total (printed id))

-- A row that passes is that of a subscription with the id.
pub id_from : (n id : ℕ) (s : SubGroup) → id < 2 ^ 128 → IsSubGroup n s → has_id (printed id) s.row ≡ true → s.sub.id ≡ id
id_from n id s low is e = one_id s.row.id s.sub.id id is.spelt.kept.id low is.spelt.sub.id (same_text s.row.id (printed id) e)

-- ---- the number found in the rows

abbrev own_row : Group → EntityRow
own_row g = g.row

pub finds_number : (k : EntityKey) (shown : List Row) (found : Option ℤ) (old new : Database) → k.1 < 2 ^ 128 → IsShown shown found → ShowsEntities (kind_number k.0) (printed k.1) shown old new → FindsNumber k found old new
finds_number k shown found old new low is told a p = let it = told (layout_of old a p) (lay_out old a p) in (it.0, go found is it.1)
  where
    go : (found : Option ℤ) → IsShown shown found → IsPermutation (numbers_of (λ (e : EntityRow). e.num) (is_of (kind_number k.0) (printed k.1)) (map own_row p.groups)) shown → Finds (λ num. IsNumberOf num k p.groups) found
    go None none same = λ num it. none_shown own_row (λ (e : EntityRow). e.num) _ p.groups shown same none it.group it.there (passes_own a.serial p.subs k it.group (all_there (IsGroup a.serial p.subs) p.groups p.each it.group it.there) it.key)
    go (Some num) some same =
        let g = one_shown own_row (λ (e : EntityRow). e.num) _ p.groups shown same num some in
        record { group = g.0; there = g.1; number = g.3; key = key_from a.serial p.subs k g.0 low (all_there (IsGroup a.serial p.subs) p.groups p.each g.0 g.1) g.2 }

abbrev own_sub_row : SubGroup → SubRow
own_sub_row s = s.row

abbrev number_and_id : SubGroup → ℤ × ℕ
number_and_id s = (s.row.num, s.sub.id)

pub finds_sub : (id : ℕ) (shown : List Row) (found : Option ℤ) (old new : Database) → id < 2 ^ 128 → IsShown shown found → ShowsSubs (printed id) shown old new → FindsSubNumber id found old new
finds_sub id shown found old new low is told a p = let it = told (layout_of old a p) (lay_out old a p) in (it.0, go found is it.1)
  where
    go : (found : Option ℤ) → IsShown shown found → IsPermutation (numbers_of (λ (s : SubRow). s.num) (has_id (printed id)) (map own_sub_row p.subs)) shown → Finds (λ num. IsSubNumber p.subs num id) found
    go None none same = λ num there.
        let it = mapped_from number_and_id p.subs (num, id) there in
        none_shown own_sub_row (λ (s : SubRow). s.num) _ p.subs shown same none it.0 it.1 (sub_passes a.serial id it.0 (all_there (IsSubGroup a.serial) p.subs p.each_sub it.0 it.1) (sym (ap (λ (x : ℤ × ℕ). x.1) it.2)))
    go (Some num) some same =
        let s = one_shown own_sub_row (λ (s : SubRow). s.num) _ p.subs shown same num some in
        let key = id_from a.serial id s.0 low (all_there (IsSubGroup a.serial) p.subs p.each_sub s.0 s.1) s.2 in
        subst (λ (x : ℤ × ℕ). Has (map number_and_id p.subs) x) (λ i. (s.3 i, key i)) (mapped_there number_and_id p.subs s.0 s.1)

-- The first row is among the rows.
pub first_there : {X : Type 0} (xs : List X) (x : X) → 0 < length xs → x ≡ get_or xs 0 x → Has xs x
first_there [] x low e = absurd (omega (arith, low))
first_there (y ∷ xs) x low e = inl e

pub none_there : {X : Type 0} (xs : List X) → length xs ≡ 0 → xs ≡ []
none_there [] none = refl
none_there (x ∷ xs) none = absurd (omega (arith, none))
