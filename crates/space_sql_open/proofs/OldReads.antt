-- Proofs about reading all rows of tables of an old format within a transaction.
use Rattle.std.proofs.Common.{◌≡◌, ◌⊎◌, inl, inr, ℕ, List, [], ◌∷◌, map, Ok, Err, Result, IfOk, sym, subst, ◌∙◌}
use Rattle.std.specs.Prelude.{IfErr, IsPermutation, Vec}
use Rattle.std.specs.Global.{Global}
use Rattle.std.proofs.lemmas.List.Elements.{All-from_recursion, recursion_from_All}
use Rattle.std.proofs.lemmas.List.Sorted.{IsPermutation-trans, All-permutation}
use Rattle.sqlite.specs.declared.types.Value.TheVariants.{Null}
use Rattle.sqlite.specs.Order.{Row}
use Rattle.sqlite.specs.Term.{eval_all}
use Rattle.sqlite.specs.Program.{overlay}
use Rattle.sqlite.specs.Schema.{Schema}
use Rattle.sqlite.specs.Tree.{Trees}
use Rattle.sqlite.specs.Effect.{Database}
use Rattle.sqlite.specs.Listing.{understood}
use Rattle.sqlite.specs.declared.error.Error.{Error}
use Rattle.sqlite.specs.State.{State, FailsToQuery, HasCleanDisk, IsTooLate, KeepsCommit, Shown, Survives}
use Rattle.sqlite.proofs.Callers.{IsPlain, reads_as}
use Rattle.space_sql_schema.proofs.Steps.{kept_keeps, unchanged_keeps}
use Rattle.space_sql_select.proofs.Means.{cols}
use Rattle.space_sql_select.proofs.Readings.{query_kept, shown_same}
use Rattle.space_sql_select.proofs.Selected.{selects_all}
use Rattle.space_sql_select.proofs.Shown.{all_pass}
use Rattle.space_sql_load.proofs.Junction.{swapped_back}
use Rattle.space_sql_open.specs.Inside.{Inside}
use Rattle.space_sql_open.specs.OldRows.{AreAll, HasAll, IsTyped, Lacks, Takes}
use Rattle.space_sql_open.specs.declared.open_fault.OpenFault.{OpenFault}
use Rattle.space_sql_open.specs.declared.open_fault.OpenFault.TheVariants.{NotADss, Version, Store}
use Rattle.space_sql_open.proofs.Insides.{inside_as, inside_then}
use Rattle.space_sql_open.proofs.OldMeans.{ListsIn}

-- ---- one statement

module _ (schema : Schema) (text : List ℕ) (t : ℕ) (shown order : List ℕ) (l : ListsIn schema text t shown order) (old new : State) (here : overlay old.now.trees [] t ≡ old.now.trees t) where
  ours : old.now.schema ≡ schema → IsPlain (understood old.now.schema text)
  ours has = subst (λ s. IsPlain (understood s text)) (sym has) l.plain

  shown_all : (rows : List Row) → old.now.schema ≡ schema → Shown text [] old new rows → IsPermutation (map (λ r. eval_all (cols shown) ([] ∷ r ∷ [])) (old.now.trees t)) rows
  shown_all rows has h =
      let read = reads_as text [] old new schema has _ l.is l.plain l.unlisted rows h in
      subst (λ k. IsPermutation (map (λ r. eval_all (cols shown) ([] ∷ r ∷ [])) k) rows) (all_pass (old.now.trees t)) (selects_all t [] shown order old.now.trees [] rows here (read.answer Null))

  failed : (e : Error) → FailsToQuery text [] old new e ⊎ IsTooLate text [] old new e → old.now.schema ≡ schema → KeepsCommit old new
  failed e (inl h) has = kept_keeps old new (query_kept text [] old new e (ours has) h)
  failed e (inr h) has = unchanged_keeps old new h.5

  -- A single statement is a read.
  pub reads_all : (R : Database → Database → Result (Vec Row Global) Error → Type 0)
      → ((rows : Vec Row Global) → IsPermutation (map (λ r. eval_all (cols shown) ([] ∷ r ∷ [])) (old.now.trees t)) rows.items → new.now ≡ old.now → R old.now new.now (Ok rows)) → ((e : Error) → R old.now new.now (Err e))
      → (r : Result (Vec Row Global) Error) → (HasCleanDisk new → IfOk r (λ rows. Shown text [] old new rows.items)) → (HasCleanDisk new → IfErr r (λ e. FailsToQuery text [] old new e ⊎ IsTooLate text [] old new e))
      → Survives old new (λ _. ⊥) → Inside schema R old new r
  reads_all R good bad (Ok rows) ok err survives = record {
    done = λ clean has. good rows (shown_all rows.items has (ok clean)) (shown_same text [] old new rows.items (ours has) (ok clean)).0.now_is;
    kept = λ clean has. unchanged_keeps old new (shown_same text [] old new rows.items (ours has) (ok clean));
    survives = survives;
  }
  reads_all R good bad (Err e) ok err survives = record { done = λ clean has. bad e; kept = λ clean has. failed e (err clean) has; survives = survives }

-- ---- typed rows

module _ {X : Type 0} (values : X → Row) (W : X → Type 0) (columns : Row → Row) (decode : Row → X) (back : (x : X) → decode (values x) ≡ x) (tree : ℕ) (old new : Database) (rows sliced : List Row) (e : sliced ≡ rows)
    (read : IsPermutation (map columns (old.trees tree)) rows × (new ≡ old)) where
  abbrev Wants : Trees → Type 0
  Wants trees = HasAll values W columns (trees tree)

  abbrev Holds : Trees → Vec X Global → Type 0
  Holds trees v = AreAll values columns (trees tree) v.items

  pub takes_typed : (r : Result (Vec X Global) OpenFault) → IsTyped values W sliced r → Takes Wants Holds old new r
  takes_typed (Ok v) typed = (subst (IsPermutation (map columns (old.trees tree))) (sym e ∙ typed.values_are) read.0, read.1)
  takes_typed (Err NotADss) typed = λ want.
      let it = swapped_back values decode back want.typed rows (IsPermutation-trans _ _ _ want.same read.0) in
      typed (map decode rows) (record { written = recursion_from_All W _ (All-permutation W _ _ it.1 (All-from_recursion W _ want.written)); values_are = e ∙ it.0 })
  takes_typed (Err Version) typed = absurd typed
  takes_typed (Err Store) typed = tt

-- ---- several tables

pub lacks_weaker : (P Q : Type 0) (fault : OpenFault) → (Q → P) → Lacks P fault → Lacks Q fault
lacks_weaker P Q NotADss f lacks = λ q. lacks (f q)
lacks_weaker P Q Version f lacks = lacks
lacks_weaker P Q Store f lacks = tt

module _ {X Y Z : Type 0} (schema : Schema) (P Q W : Trees → Type 0) (H : Trees → X → Type 0) (J : Trees → Y → Type 0) (K : Trees → Z → Type 0) (first : (trees : Trees) → W trees → P trees) (second : (trees : Trees) → W trees → Q trees) where
  pub first_lacks : (a b : State) (fault : OpenFault) → Inside schema (Takes P H) a b (Err fault) → Inside schema (Takes W K) a b (Err fault)
  first_lacks a b fault x = inside_as schema (Takes P H) (Takes W K) a b (Err fault) (Err fault) (λ has lacks. lacks_weaker (P a.now.trees) (W a.now.trees) fault (first a.now.trees) lacks) x

  same_schema : (old new : Database) → new ≡ old → old.schema ≡ schema → new.schema ≡ schema
  same_schema old new same has = subst (λ (d : Database). d.schema ≡ schema) (sym same) has

  pub second_lacks : (a b d : State) (x : X) (fault : OpenFault) → Inside schema (Takes P H) a b (Ok x) → Inside schema (Takes Q J) b d (Err fault) → Inside schema (Takes W K) a d (Err fault)
  second_lacks a b d x fault p q = inside_then schema schema (Takes P H) (Takes Q J) (Takes W K) a b d (Ok x) (Err fault) (Err fault) (λ has took. same_schema a.now b.now took.1 has)
      (λ has took lacks. lacks_weaker (Q b.now.trees) (W a.now.trees) fault (λ want. second b.now.trees (subst (λ (e : Database). W e.trees) (sym took.1) want)) lacks) p q

  pub both_taken : (a b d : State) (x : X) (y : Y) (z : Z) → ((trees : Trees) → H trees x → J trees y → K trees z) → Inside schema (Takes P H) a b (Ok x) → Inside schema (Takes Q J) b d (Ok y) → Inside schema (Takes W K) a d (Ok z)
  both_taken a b d x y z joins p q = inside_then schema schema (Takes P H) (Takes Q J) (Takes W K) a b d (Ok x) (Ok y) (Ok z) (λ has took. same_schema a.now b.now took.1 has)
      (λ has took more. (joins a.now.trees took.0 (subst (λ (e : Database). J e.trees y) took.1 more.0), more.1 ∙ took.1)) p q
