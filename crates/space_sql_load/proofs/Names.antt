-- Proofs that the number in a row of `naming` is found among those of the subscriptions.
use Rattle.std.proofs.Common.{◌≡◌, inl, inr, ℕ, ℤ, List, [], ◌∷◌, map, Bool, true, false, cond, Option, Some, None, refl, sym, ap, subst, ◌∙◌, Ordering, Less, Equal, Greater, is_eq}
use Rattle.std.specs.Prelude.{◌&&◌, T}
use Rattle.std.specs.List.{AllByRecursion}
use Rattle.std.specs.Ordering.{int_cmp, is_lt}
use Rattle.std.specs.FinMap.Entries.{below_all}
use Rattle.std.proofs.lemmas.Cmp.{int_cmp_total, tied_itself}
use Rattle.sqlite_trees.specs.Tree.{IsAscending}
use Rattle.entity_maps.specs.Sorted.{Rise}
use Rattle.space_sql_schema.specs.Spelling.{SubGroup, IsSubBefore, IsSubNumber, Names}
use Rattle.space_sql_schema.proofs.OneAirspace.{one_number, sub_numbers_differ}
use Rattle.space_sql_select.specs.declared.sub_rows.NamingRow.{NamingRow}
use Rattle.space_sql_load.specs.Gathering.{NamesBy, id_in, number_pair}
use Rattle.space_sql_load.proofs.Fronts.{equal}
use Rattle.space_sql_load.proofs.SubGroups.{numbers_of}

-- ---- numbers and ids

pub found_is : (num : ℤ) (id : ℕ) (subs : List SubGroup) → id_in (numbers_of subs) num ≡ Some id → IsSubNumber subs num id
found_is num id [] h = absurd cc
found_is num id (s ∷ subs) h = go (int_cmp num s.row.num) refl h (found_is num id subs)
  where
    go : (c : Ordering) → int_cmp num s.row.num ≡ c → cond (is_eq c) (Some s.sub.id) (id_in (numbers_of subs) num) ≡ Some id → (id_in (numbers_of subs) num ≡ Some id → IsSubNumber subs num id) → IsSubNumber (s ∷ subs) num id
    go Less p e more = inr (more e)
    go Greater p e more = inr (more e)
    go Equal p e more =
        let n : num ≡ s.row.num = equal num s.row.num p in
        let k : id ≡ s.sub.id = cc in
        inl (λ i. (n i, k i))

unfound : (num : ℤ) (id : ℕ) (subs : List SubGroup) → id_in (numbers_of subs) num ≡ None → ¬ IsSubNumber subs num id
unfound num id [] h there = there
unfound num id (s ∷ subs) h there = go (int_cmp num s.row.num) refl h (unfound num id subs)
  where
    tied : (c : Ordering) → int_cmp num s.row.num ≡ c → ◌≡◌ {A = ℤ × ℕ} (num, id) (s.row.num, s.sub.id) → c ≡ Equal
    tied c p is = sym p ∙ subst (λ (n : ℤ). int_cmp num n ≡ Equal) (ap (λ (q : ℤ × ℕ). q.0) is) (tied_itself int_cmp_total num)

    go : (c : Ordering) → int_cmp num s.row.num ≡ c → cond (is_eq c) (Some s.sub.id) (id_in (numbers_of subs) num) ≡ None → (id_in (numbers_of subs) num ≡ None → ¬ IsSubNumber subs num id) → ⊥
    go Equal p e more = absurd cc
    go Less p e more = elim there as (λ _. ⊥) [ inl is ↦ absurd (let no = tied Less p is in cc) | inr rest ↦ more e rest ]
    go Greater p e more = elim there as (λ _. ⊥) [ inl is ↦ absurd (let no = tied Greater p is in cc) | inr rest ↦ more e rest ]

is_found : (num : ℤ) (id : ℕ) (subs : List SubGroup) → IsAscending IsSubBefore subs → IsSubNumber subs num id → id_in (numbers_of subs) num ≡ Some id
is_found num id subs up there = go (id_in (numbers_of subs) num) refl
  where
    go : (o : Option ℕ) → id_in (numbers_of subs) num ≡ o → id_in (numbers_of subs) num ≡ Some id
    go None e = absurd (unfound num id subs e there)
    go (Some k) e = e ∙ ap Some (one_number num k id subs (sub_numbers_differ subs up) (found_is num k subs e) there)

-- ---- rows of naming

abbrev pub naming_list : ℤ → Option ℤ → List NamingRow
naming_list num None = []
naming_list num (Some at) = record { entity = num; subscription = at } ∷ []

pub names_from : (subs : List SubGroup) (num : ℤ) (own : List NamingRow) (named : Option ℕ) → NamesBy (numbers_of subs) num own named → (naming : Option ℤ) × (own ≡ naming_list num naming) × Names subs naming named
names_from subs num own None h = (None, h, tt)
names_from subs num own (Some id) h = (Some h.0, h.1, found_is h.0 id subs h.2)

pub named_by : (subs : List SubGroup) → IsAscending IsSubBefore subs → (num : ℤ) (naming : Option ℤ) (named : Option ℕ) → Names subs naming named → NamesBy (numbers_of subs) num (naming_list num naming) named
named_by subs up num None None h = refl
named_by subs up num None (Some id) h = absurd h
named_by subs up num (Some at) None h = absurd h
named_by subs up num (Some at) (Some id) h = (at, refl, is_found at id subs up h)

-- ---- ascending numbers

both : (a b : Bool) → T a → T b → T (a && b)
both true b p q = q
both false b p q = p

below : (num : ℤ) (gs : List SubGroup) → AllByRecursion (λ (g : SubGroup). int_cmp num g.row.num ≡ Less) gs → T (below_all int_cmp num (map number_pair (numbers_of gs)))
below num [] all = tt
below num (g ∷ gs) all = both (is_lt (int_cmp num g.row.num)) _ (subst (λ (c : Ordering). T (is_lt c)) (sym all.0) tt) (below num gs all.1)

pub numbers_rise : (subs : List SubGroup) → IsAscending IsSubBefore subs → Rise int_cmp number_pair (numbers_of subs)
numbers_rise [] up = tt
numbers_rise (s ∷ subs) up = both (below_all int_cmp s.row.num (map number_pair (numbers_of subs))) _ (below s.row.num subs up.0) (numbers_rise subs up.1)
