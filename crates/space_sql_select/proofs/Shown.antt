-- Proofs about reading a whole table.
use Rattle.std.proofs.Common.{◌≡◌, ℕ, List, [], ◌∷◌, map, filter, true, refl, sym, ap, subst, Ordering, Less, Equal, Greater}
use Rattle.std.specs.Prelude.{IsPermutation}
use Rattle.std.specs.Ordering.{ordering_then}
use Rattle.sqlite_trees.specs.Tree.{IsAscending}
use Rattle.sqlite.specs.declared.types.Value.TheVariants.{Null}
use Rattle.sqlite.specs.Order.{Row}
use Rattle.sqlite.specs.Term.{eval_all}
use Rattle.sqlite.specs.Program.{overlay}
use Rattle.sqlite_sql.specs.Query.{Output, output, output_cmp, IsAnswer}
use Rattle.sqlite.specs.State.{State, Shown}
use Rattle.sqlite.proofs.Callers.{reads_as}
use Rattle.space_sql_schema.specs.Tables.{dss_schema}
use Rattle.space_sql_select.specs.Meta.{ShowsMeta}
use Rattle.space_sql_select.proofs.Texts.{metas_read}
use Rattle.space_sql_select.proofs.Selected.{selects_all, selects_one}
use Rattle.space_sql_select.proofs.Means.{Lists, listing, cols, metas_list}

pub then_equal : (o : Ordering) → ordering_then o Equal ≡ o
then_equal Less = refl
then_equal Equal = refl
then_equal Greater = refl

pub all_pass : {X : Type 0} (xs : List X) → filter (λ _. true) xs ≡ xs
all_pass [] = refl
all_pass (x ∷ xs) = ap (λ l. x ∷ l) (all_pass xs)

module _ (text : List ℕ) (t : ℕ) (shown order : List ℕ) (l : Lists text t shown order) (old new : State) (rows : List Row) (has : old.now.schema ≡ dss_schema) (h : Shown text [] old new rows) (here : overlay old.now.trees [] t ≡ old.now.trees t) where
  answer : IsAnswer (listing t [] shown order) (overlay old.now.trees []) [] rows
  answer =
      let read = reads_as text [] old new dss_schema has _ l.is l.plain l.unlisted rows h in
      read.answer Null

  -- All rows of the table are shown, in some order.
  pub lists_all : IsPermutation (map (λ r. eval_all (cols shown) ([] ∷ r ∷ [])) (old.now.trees t)) rows
  lists_all = subst (λ l. IsPermutation (map (λ r. eval_all (cols shown) ([] ∷ r ∷ [])) l) rows) (all_pass (old.now.trees t)) (selects_all t [] shown order old.now.trees [] rows here answer)

  -- If the columns are those of an ascending list, the rows are that list.
  pub lists_one : {X : Type 0} (encode : X → Row) (columns : Row → Row) (pick : Row → Output) (cmp : X → X → Ordering) → ((r : Row) → output (listing t [] shown order) ([] ∷ r ∷ []) ≡ pick (columns r)) → ((c : Row) → (pick c).1 ≡ c)
      → ((x y : X) → cmp x y ≡ Less → output_cmp (listing t [] shown order) (pick (encode x)) (pick (encode y)) ≡ Less) → (xs : List X) → IsAscending (λ x y. cmp x y ≡ Less) xs → IsPermutation (map encode xs) (map columns (old.now.trees t)) → rows ≡ map encode xs
  lists_one encode columns pick cmp picks whole less xs rises same =
      selects_one t [] shown order old.now.trees [] rows here answer encode columns pick cmp picks whole less xs rises (subst (λ l. IsPermutation (map encode xs) (map columns l)) (sym (all_pass (old.now.trees t))) same)

module _ (old new : State) (rows : List Row) (has : old.now.schema ≡ dss_schema) where
  pub metas_shown : Shown metas_read [] old new rows → ShowsMeta old.now rows
  metas_shown h = lists_all metas_read 0 _ _ metas_list old new rows has h refl
