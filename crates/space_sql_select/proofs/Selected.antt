-- Proofs that a SELECT from one table shows the rows that pass its tests, in its order.
use Rattle.std.proofs.Common.{◌≡◌, ℕ, List, [], ◌∷◌, ◌++◌, map, filter, Bool, true, false, cond, refl, sym, ap, subst, ◌∙◌, Ordering, Less}
use Rattle.std.specs.Prelude.{IsPermutation}
use Rattle.std.specs.List.{list_all, flat_map}
use Rattle.std.proofs.lemmas.List.Sorted.{IsPermutation-map, IsPermutation-trans}
use Rattle.sqlite_keyed.proofs.ListLemmas.{map-map, ascending-map, ascending_weaker, map_same}
use Rattle.sqlite_keyed.proofs.SortLemmas.{sorted_unique}
use Rattle.sqlite_sql.proofs.QueryLemmas.{output_cmp_total}
use Rattle.sqlite_trees.specs.Tree.{Trees, IsAscending}
use Rattle.sqlite.specs.Order.{Row}
use Rattle.sqlite.specs.Term.{Term, eval_all, holds}
use Rattle.sqlite.specs.Program.{overlay}
use Rattle.sqlite_sql.specs.Query.{Query, Output, output, output_cmp, IsAnswer}
use Rattle.space_sql_select.proofs.Means.{listing, cols}

kept_as_filter : {X Y : Type 0} (p : X → Bool) (f : X → Y) (xs : List X) → flat_map (λ x. cond (p x) (f x ∷ []) []) xs ≡ map f (filter p xs)
kept_as_filter p f [] = refl
kept_as_filter p f (x ∷ xs) = elim (p x) as (λ b. cond b (f x ∷ []) [] ++ flat_map (λ x. cond (p x) (f x ∷ []) []) xs ≡ map f (cond b (x ∷ filter p xs) (filter p xs)))
    [ true ↦ ap (λ l. f x ∷ l) (kept_as_filter p f xs) | false ↦ kept_as_filter p f xs ]

filtered : (t : ℕ) (fs : List Term) (db : Trees) (params : Row) → overlay db [] t ≡ db t
    → flat_map (λ r. cond (list_all (holds (params ∷ r ∷ [])) fs) ((params ∷ r ∷ []) ∷ []) []) (overlay db [] t) ≡ map (λ r. params ∷ r ∷ []) (filter (λ r. list_all (holds (params ∷ r ∷ [])) fs) (db t))
filtered t fs db params here = ap (flat_map (λ r. cond (list_all (holds (params ∷ r ∷ [])) fs) ((params ∷ r ∷ []) ∷ []) [])) here ∙ kept_as_filter _ (λ r. params ∷ r ∷ []) (db t)

module _ (t : ℕ) (tests : List Term) (shown order : List ℕ) (db : Trees) (params : Row) (rows : List Row) (here : overlay db [] t ≡ db t) (a : IsAnswer (listing t tests shown order) (overlay db []) params rows) where
  abbrev q : Query
  q = listing t tests shown order

  -- The rows of the table that pass.
  abbrev pub passing : List Row
  passing = filter (λ r. list_all (holds (params ∷ r ∷ [])) tests) (db t)

  kept_are : a.kept ≡ map (λ r. output q (params ∷ r ∷ [])) passing
  kept_are = a.distinct ∙ (ap (map (output q)) (a.grouped ∙ filtered t tests db params here) ∙ map-map (output q) (λ r. params ∷ r ∷ []) passing)

  -- The rows that pass are shown, in some order.
  pub selects_all : IsPermutation (map (λ r. eval_all (cols shown) (params ∷ r ∷ [])) passing) rows
  selects_all =
      let moved = IsPermutation-map (λ (o : Output). o.1) _ _ a.same in
      let from = ap (map (λ (o : Output). o.1)) kept_are ∙ map-map (λ (o : Output). o.1) (λ r. output q (params ∷ r ∷ [])) passing in
      subst (λ k. IsPermutation k rows) from (subst (IsPermutation (map (λ (o : Output). o.1) a.kept)) (sym a.shown) moved)

  -- If the columns are those of an ascending list, the rows are that list.
  pub selects_one : {X : Type 0} (encode : X → Row) (columns : Row → Row) (pick : Row → Output) (cmp : X → X → Ordering) → ((r : Row) → output q (params ∷ r ∷ []) ≡ pick (columns r)) → ((c : Row) → (pick c).1 ≡ c)
      → ((x y : X) → cmp x y ≡ Less → output_cmp q (pick (encode x)) (pick (encode y)) ≡ Less) → (xs : List X) → IsAscending (λ x y. cmp x y ≡ Less) xs → IsPermutation (map encode xs) (map columns passing) → rows ≡ map encode xs
  selects_one {X} encode columns pick cmp picks whole less xs rises same =
      let outs = map pick (map encode xs) in
      let moved : IsPermutation outs (map pick (map columns passing)) = IsPermutation-map pick _ _ same in
      let mine : map pick (map columns passing) ≡ a.kept = map-map pick columns passing ∙ (sym (map_same (λ r. output q (params ∷ r ∷ [])) (λ r. pick (columns r)) picks passing) ∙ sym kept_are) in
      let strict : IsAscending (λ a b. output_cmp q a b ≡ Less) outs = ascending-map (λ a b. output_cmp q a b ≡ Less) pick (map encode xs)
      (ascending-map (λ a b. output_cmp q (pick a) (pick b) ≡ Less) encode xs (ascending_weaker (λ x y. cmp x y ≡ Less) (λ x y. output_cmp q (pick (encode x)) (pick (encode y)) ≡ Less) less xs rises)) in
      let found = sorted_unique (output_cmp q) (output_cmp_total q) outs a.ordered strict (IsPermutation-trans _ _ _ (subst (IsPermutation outs) mine moved) a.same) a.sorted in
      a.shown ∙ (ap (map (λ (o : Output). o.1)) found ∙ (map-map (λ (o : Output). o.1) pick (map encode xs) ∙ (map_same (λ c. (pick c).1) (λ c. c) whole (map encode xs) ∙ same_map (map encode xs))))
    where
      same_map : (l : List Row) → map (λ c. c) l ≡ l
      same_map [] = refl
      same_map (x ∷ l) = ap (λ m. x ∷ m) (same_map l)
