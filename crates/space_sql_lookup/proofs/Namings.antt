-- Proofs about the rows of `naming`: the subscription that an entity references, and the entities
-- that reference a subscription.
use Rattle.std.proofs.Common.{◌≡◌, ℕ, ℤ, ◌<◌, ◌^◌, List, [], ◌∷◌, ◌++◌, map, filter, flat_map, Bool, true, false, cond, Option, Some, None, refl, sym, ap, ap₂, subst, ◌∙◌, int_eq}
use Rattle.std.specs.Prelude.{IsPermutation}
use Rattle.std.specs.List.{AllByRecursion, list_all}
use Rattle.sqlite_keyed.proofs.ListLemmas.{map-map, map-flat_map}
use Rattle.sqlite_rules.specs.Lists.{Has}
use Rattle.sqlite_rules.proofs.ListLemmas.{all_has}
use Rattle.sqlite_rules.proofs.ProbeLemmas.{has_mapped}
use Rattle.sqlite_typed.proofs.TestLemmas.{at_ints, last_term}
use Rattle.sqlite_sql.specs.declared.ops.CompareOp.TheVariants.{Eq}
use Rattle.sqlite.specs.declared.types.Value.TheVariants.{Null, Int, Text}
use Rattle.sqlite.specs.Order.{Row, column}
use Rattle.sqlite.specs.Term.{holds}
use Rattle.sqlite.specs.Effect.{Database, Reads}
use Rattle.sqlite.proofs.Callers.{one_permutation}
use Rattle.entity_core.specs.Airspace.{Airspace}
use Rattle.entity_core.specs.Entity.{subscription_of}
use Rattle.entity_core.specs.EntityId.{printed}
use Rattle.space_rows.proofs.Chunks.{Borne}
use Rattle.space_sql_schema.specs.Spelling.{Spells, SubGroup, IsSubGroup, Group, IsGroup, Names, naming_values, naming_rows, naming_rows_of, sub_values, sub_columns, two_columns}
use Rattle.space_sql_schema.proofs.OneAirspace.{numbers_differ, sub_numbers_differ}
use Rattle.space_sql_select.specs.Rows.{number_values}
use Rattle.space_sql_lookup.specs.Naming.{AnswersNaming, AnswersSubId, FindsNaming}
use Rattle.space_sql_lookup.specs.Dependents.{AnswersNamers}
use Rattle.space_sql_lookup.proofs.Commands.{by_key, by_second, naming_is, sub_id_is, namers_is}
use Rattle.space_sql_lookup.proofs.OwnRows.{own_of}
use Rattle.space_sql_lookup.proofs.Picked.{selects_from, nothing_left, one_shown}

-- ---- rows as pairs of numbers

abbrev pub pair_values : ℤ × ℤ → Row
pair_values p = naming_values p.0 p.1

abbrev pub pairs : ℤ → Option ℤ → List (ℤ × ℤ)
pairs num None = []
pairs num (Some sub) = (num, sub) ∷ []

abbrev pub pairs_of : Group → List (ℤ × ℤ)
pairs_of g = pairs g.row.num g.naming

one_naming : (num : ℤ) (o : Option ℤ) → naming_rows num o ≡ map pair_values (pairs num o)
one_naming num None = refl
one_naming num (Some sub) = refl

all_namings : (gs : List Group) → flat_map naming_rows_of gs ≡ flat_map (λ g. map pair_values (pairs_of g)) gs
all_namings [] = refl
all_namings (g ∷ gs) = ap₂ ◌++◌ (one_naming g.row.num g.naming) (all_namings gs)

namings_are : (gs : List Group) → flat_map naming_rows_of gs ≡ map pair_values (flat_map pairs_of gs)
namings_are gs = all_namings gs ∙ sym (map-flat_map pair_values pairs_of gs)

pairs_borne : (gs : List Group) → Borne (λ (p : ℤ × ℤ). p.0) (λ (g : Group). g.row.num) pairs_of gs
pairs_borne [] = tt
pairs_borne (g ∷ gs) = (one g.row.num g.naming, pairs_borne gs)
  where
    one : (num : ℤ) (o : Option ℤ) → AllByRecursion (λ (p : ℤ × ℤ). p.0 ≡ num) (pairs num o)
    one num None = tt
    one num (Some sub) = (refl, tt)

-- Returns true if the row of `naming`, if any, has this number.
abbrev pub names_number : ℤ → Option ℤ → Bool
names_number sub None = false
names_number sub (Some num) = int_eq num sub

namers_are : (sub : ℤ) (gs : List Group) → map (λ (p : ℤ × ℤ). p.0) (filter (λ (p : ℤ × ℤ). int_eq p.1 sub) (flat_map pairs_of gs)) ≡ map (λ (g : Group). g.row.num) (filter (λ (g : Group). names_number sub g.naming) gs)
namers_are sub [] = refl
namers_are sub (g ∷ gs) = go g.naming (namers_are sub gs)
  where
    go : (o : Option ℤ) → map (λ (p : ℤ × ℤ). p.0) (filter (λ (p : ℤ × ℤ). int_eq p.1 sub) (flat_map pairs_of gs)) ≡ map (λ (g : Group). g.row.num) (filter (λ (g : Group). names_number sub g.naming) gs)
        → map (λ (p : ℤ × ℤ). p.0) (filter (λ (p : ℤ × ℤ). int_eq p.1 sub) (pairs g.row.num o ++ flat_map pairs_of gs)) ≡ map (λ (g : Group). g.row.num) (cond (names_number sub o) (g ∷ filter (λ (g : Group). names_number sub g.naming) gs) (filter (λ (g : Group). names_number sub g.naming) gs))
    go None more = more
    go (Some num) more =
        elim (int_eq num sub) as (λ b. map (λ (p : ℤ × ℤ). p.0) (cond b ((g.row.num, num) ∷ filter (λ (p : ℤ × ℤ). int_eq p.1 sub) (flat_map pairs_of gs)) (filter (λ (p : ℤ × ℤ). int_eq p.1 sub) (flat_map pairs_of gs))) ≡ map (λ (g : Group). g.row.num) (cond b (g ∷ filter (λ (g : Group). names_number sub g.naming) gs) (filter (λ (g : Group). names_number sub g.naming) gs)))
        [ true ↦ ap (λ (l : List ℤ). g.row.num ∷ l) more | false ↦ more ]

-- ---- the subscription that an entity references

abbrev pub numbers_in : Option ℤ → List Row
numbers_in None = []
numbers_in (Some sub) = number_values sub ∷ []

second_shown : (num : ℤ) (o : Option ℤ) (rows : List Row) → IsPermutation (map (λ (p : ℤ × ℤ). number_values p.1) (pairs num o)) rows → rows ≡ numbers_in o
second_shown num None rows p = nothing_left rows p
second_shown num (Some sub) rows p = one_permutation (number_values sub) rows p

module _ (db : Database) (a : Airspace) (s : Spells db a) where
  stored : IsPermutation (map pair_values (flat_map pairs_of s.groups)) (map two_columns (db.trees 13))
  stored = subst (λ (l : List Row). IsPermutation l (map two_columns (db.trees 13))) (namings_are s.groups) s.namings

  pub naming_shown : (g : Group) → Has s.groups g → (rows : List Row) → AnswersNaming g.row.num db rows → rows ≡ numbers_in g.naming
  naming_shown g there rows h =
      let num = g.row.num in
      let params = Int num ∷ [] in
      let read = subst (λ c. Reads c db params rows) naming_is h in
      let all = selects_from 13 by_key (2 ∷ []) db.trees params rows refl (read.answer Null) pair_values two_columns (λ c. list_all (holds (params ∷ c ∷ [])) by_key) (λ c. column c 1 ∷ []) (λ (p : ℤ × ℤ). int_eq p.0 num)
      (λ r. refl) (λ r. refl) (λ p. last_term (at_ints false Eq p.0 num)) (flat_map pairs_of s.groups) stored in
      let own = own_of (λ (p : ℤ × ℤ). p.0) (λ (g : Group). g.row.num) pairs_of s.groups g (pairs_borne s.groups) (numbers_differ s.groups s.rising) there in
      second_shown num g.naming rows (subst (λ (l : List (ℤ × ℤ)). IsPermutation (map (λ (p : ℤ × ℤ). number_values p.1) l) rows) own all)

  -- The query returns the id of the subscription with the number.
  pub sub_id_shown : (num : ℤ) (rows : List Row) → AnswersSubId num db rows → (t : SubGroup) → Has s.subs t → t.row.num ≡ num → rows ≡ (Text t.row.id ∷ []) ∷ []
  sub_id_shown num rows h =
      let params = Int num ∷ [] in
      let read = subst (λ c. Reads c db params rows) sub_id_is h in
      let all = selects_from 9 by_key (2 ∷ []) db.trees params rows refl (read.answer Null) (λ (t : SubGroup). sub_values t.row) sub_columns (λ c. list_all (holds (params ∷ c ∷ [])) by_key) (λ c. column c 1 ∷ []) (λ (t : SubGroup). int_eq t.row.num num)
      (λ r. refl) (λ r. refl) (λ t. last_term (at_ints false Eq t.row.num num)) s.subs s.sub_rows in
      one_shown (λ (t : SubGroup). t.row.num) num (λ t. Text t.row.id ∷ []) s.subs rows all (sub_numbers_differ s.subs s.subs_rising)

  -- ---- the entities that reference a subscription

  pub namers_shown : (sub : ℤ) (rows : List Row) → AnswersNamers sub db rows → IsPermutation (map number_values (map (λ (g : Group). g.row.num) (filter (λ (g : Group). names_number sub g.naming) s.groups))) rows
  namers_shown sub rows h =
      let params = Int sub ∷ [] in
      let read = subst (λ c. Reads c db params rows) namers_is h in
      let own = filter (λ (p : ℤ × ℤ). int_eq p.1 sub) (flat_map pairs_of s.groups) in
      let all = selects_from 13 by_second (0 ∷ []) db.trees params rows refl (read.answer Null) pair_values two_columns (λ c. list_all (holds (params ∷ (column c 0 ∷ Null ∷ column c 1 ∷ []) ∷ [])) by_second) (λ c. column c 0 ∷ []) (λ (p : ℤ × ℤ). int_eq p.1 sub)
      (λ r. refl) (λ r. refl) (λ p. last_term (at_ints false Eq p.1 sub)) (flat_map pairs_of s.groups) stored in
      subst (λ (l : List Row). IsPermutation l rows) (sym (map-map number_values (λ (p : ℤ × ℤ). p.0) own) ∙ ap (map number_values) (namers_are sub s.groups)) all

-- ---- results

none_named : (subs : List SubGroup) (o : Option ℤ) (named : Option ℕ) → Names subs o named → o ≡ None → None ≡ named
none_named subs None None p e = refl
none_named subs None (Some id) p e = absurd p
none_named subs (Some num) named p e = cc

one_named : (subs : List SubGroup) (o : Option ℤ) (named : Option ℕ) (sub : ℤ) → Names subs o named → o ≡ Some sub → (t : SubGroup) × Has subs t × (t.row.num ≡ sub) × (named ≡ Some t.sub.id)
one_named subs None named sub p e = cc
one_named subs (Some num) None sub p e = absurd p
one_named subs (Some num) (Some id) sub p e =
    let t = has_mapped (λ (s : SubGroup). (s.row.num, s.sub.id)) subs (num, id) p in
    let same : num ≡ sub = cc in
    (t.0, t.1, sym (ap (λ (q : ℤ × ℕ). q.0) t.2) ∙ same, ap (λ (q : ℤ × ℕ). Some q.1) t.2)

module _ (rows : List Row) (o : Option ℤ) (none : rows ≡ [] → o ≡ None) (one : (n : ℤ) → rows ≡ number_values n ∷ [] → o ≡ Some n) where
  among : (m : Option ℤ) → rows ≡ numbers_in m → o ≡ m
  among None e = none e
  among (Some n) e = one n e

  named_by : (num : ℤ) (db : Database) → AnswersNaming num db rows → (a : Airspace) (s : Spells db a) (g : Group) → Has s.groups g → g.row.num ≡ num → o ≡ g.naming
  named_by num db h a s g there same = among g.naming (naming_shown db a s g there rows (subst (λ (n : ℤ). AnswersNaming n db rows) (sym same) h))

  pub no_naming_told : o ≡ None → (num : ℤ) (db : Database) → AnswersNaming num db rows → FindsNaming num db None
  no_naming_told is num db h a s g there same =
      none_named s.subs g.naming (subscription_of g.entity.nature) (all_has (IsGroup a.serial s.subs) s.groups g s.each there).names (sym (named_by num db h a s g there same) ∙ is)

  pub naming_told : (sub : ℤ) → o ≡ Some sub → (ids : List Row) (id : ℕ) → ((n : ℕ) → n < 2 ^ 128 → ids ≡ (Text (printed n) ∷ []) ∷ [] → id ≡ n) → (num : ℤ) (db : Database) → AnswersNaming num db rows → AnswersSubId sub db ids → FindsNaming num db (Some id)
  naming_told sub is ids id told num db h k a s g there same =
      let t = one_named s.subs g.naming (subscription_of g.entity.nature) sub (all_has (IsGroup a.serial s.subs) s.groups g s.each there).names (sym (named_by num db h a s g there same) ∙ is) in
      let own = all_has (IsSubGroup a.serial) s.subs t.0 s.each_sub t.1 in
      let shown = sub_id_shown db a s sub ids k t.0 t.1 t.2 ∙ ap (λ (l : List ℕ). (Text l ∷ []) ∷ []) own.spelt.sub.id in
      ap (λ (n : ℕ). Some n) (told t.0.sub.id own.spelt.kept.id shown) ∙ sym t.3
