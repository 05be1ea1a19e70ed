-- Proofs about queries on one table, and about what updates and deletes leave.
use Rattle.std.proofs.Common.{◌≡◌, ℕ, List, [], ◌∷◌, ◌++◌, map, filter, flat_map, slice_get, Bool, true, false, cond, pos, negsuc, None, Some, Ok, refl, sym, ap, subst, ◌∙◌}
use Rattle.std.specs.Prelude.{IsPermutation}
use Rattle.std.specs.List.{list_all}
use Rattle.std.proofs.lemmas.List.Sorted.{IsPermutation-map}
use Rattle.sqlite_keyed.proofs.ListLemmas.{map-map}
use Rattle.sqlite.specs.declared.types.Value.TheVariants.{Int}
use Rattle.sqlite.specs.Order.{Row}
use Rattle.sqlite.specs.Term.{Term, lit, col, op2, eval_all, holds}
use Rattle.sqlite.specs.Collation.TheVariants.{Binary}
use Rattle.sqlite_sql.specs.declared.ops.BinaryOp.TheVariants.{Compare}
use Rattle.sqlite_sql.specs.declared.ops.CompareOp.TheVariants.{Eq}
use Rattle.sqlite.specs.Query.{Query, inner, end, IsAnswer, output, Output}
use Rattle.sqlite.specs.Program.{overlay}
use Rattle.sqlite_schema.specs.declared.program.Program.{Program}
use Rattle.sqlite.specs.Table.{Table}
use Rattle.sqlite.specs.Tree.{Trees}
use Rattle.sqlite.specs.Edit.{edit_of}
use Rattle.sqlite_rules.specs.Calls.{ids_of}
use Rattle.sqlite_rules.specs.Action.{Writes as Acts}
use Rattle.sqlite.specs.Rowids.TheVariants.{Given}
use Rattle.sqlite.specs.Command.TheVariants.{Update, Delete}
use Rattle.sqlite.specs.Does.{Tally, Does}
use Rattle.sqlite.specs.Rows.{Written}
use Rattle.sqlite.specs.Effect.{Database, Answers}
use Rattle.sqlite.specs.Schema.{Schema}
use Rattle.sqlite.specs.State.{State, mode_of, Writes}
use Rattle.space_sql_schema.proofs.Steps.{went, same_value}

abbrev pub equals : Term → Term → Term
equals a b = op2 (Compare Eq Binary) a b

-- The query that shows these terms for the rows of a tree that pass the tests.
abbrev pub query_of : ℕ → List Term → List Term → Query
query_of t tests shown = record { from = inner t end; filter = tests; group = None; project = shown; distinct = false; collations = []; order = []; limit = lit (Int (negsuc 0)); offset = lit (Int (pos 0)) }

-- The test that the key of `meta` is 1.
abbrev pub is_one : List Term
is_one = equals (col 1 0) (lit (Int (pos 1))) ∷ []

kept_as_filter : {X Y : Type 0} (p : X → Bool) (f : X → Y) (xs : List X) → flat_map (λ x. cond (p x) (f x ∷ []) []) xs ≡ map f (filter p xs)
kept_as_filter p f [] = refl
kept_as_filter p f (x ∷ xs) = elim (p x) as (λ b. cond b (f x ∷ []) [] ++ flat_map (λ x. cond (p x) (f x ∷ []) []) xs ≡ map f (cond b (x ∷ filter p xs) (filter p xs)))
    [ true ↦ ap (λ l. f x ∷ l) (kept_as_filter p f xs) | false ↦ kept_as_filter p f xs ]

-- A query on one table shows the rows that pass, in some order.
pub shows : (t : ℕ) (fs project : List Term) (db : Trees) (params : Row) (rows : List Row) → overlay db [] t ≡ db t → IsAnswer (query_of t fs project) (overlay db []) params rows
    → IsPermutation (map (λ r. eval_all project (params ∷ r ∷ [])) (filter (λ r. list_all (holds (params ∷ r ∷ [])) fs) (db t))) rows
shows t fs project db params rows here a =
    let q = query_of t fs project in
    let staged : a.staged ≡ map (λ r. params ∷ r ∷ []) (filter (λ r. list_all (holds (params ∷ r ∷ [])) fs) (db t)) =
    a.grouped ∙ ap (flat_map (λ r. cond (list_all (holds (params ∷ r ∷ [])) fs) ((params ∷ r ∷ []) ∷ []) [])) here ∙ kept_as_filter _ (λ r. params ∷ r ∷ []) (db t) in
    let kept = a.distinct ∙ ap (map (output q)) staged in
    let shown = IsPermutation-map (λ (o : Output). o.1) _ _ a.same in
    let from = ap (map (λ (o : Output). o.1)) kept ∙ map-map _ (output q) _ ∙ map-map _ (λ r. params ∷ r ∷ []) _ in
    subst (λ l. IsPermutation l rows) from (subst (IsPermutation (map (λ (o : Output). o.1) a.kept)) (sym a.shown) shown)

module _ (schema : Schema) (old new : State) (params : Row) (table : Table) (at : ℕ) (q : Program) (text : List ℕ) (count : ℕ) (has : old.now.schema ≡ schema) (listed : slice_get schema.tables at ≡ Some table) where
  abbrev now : Database
  now = record { schema = schema; trees = old.now.trees }

  pub record Updated : Type 0 where
    pub rows : List Row
    pub answer : Answers now q params rows
    pub next : Trees
    pub wrote : Acts schema (mode_of old).keys old.now.trees (edit_of old.now.trees table (ids_of rows) Given 1 rows) (Ok next)
    pub is : new.now ≡ record { schema = schema; trees = next }

  pub updates : Writes old new None (Update at q) text params count → Updated
  updates w =
      let placed = subst (λ s. Does old.step_limit (mode_of old) params (record old.now { schema = s }) text None (Update at q) (Ok (w.tally, new.now))) has w.changed in
      let done = went (rw listed at placed) in
      let after = ap (λ (p : Tally × Database). p.1) (same_value (went (went done.2).2).2) in
      let given = went done.1 in
      let written = went given.2 in
      let trees = ap (λ (it : Written). it.trees) (same_value written.2) in
      record { rows = given.0; answer = given.1; next = written.0; wrote = written.1; is = after ∙ ap (λ t. record { schema = schema; trees = t }) trees }

  pub record Deleted : Type 0 where
    pub rows : List Row
    pub answer : Answers now q params rows
    pub next : Trees
    pub wrote : Acts schema (mode_of old).keys old.now.trees (edit_of old.now.trees table (ids_of rows) Given 0 []) (Ok next)
    pub is : new.now ≡ record { schema = schema; trees = next }

  pub deletes : Writes old new None (Delete at q) text params count → Deleted
  deletes w =
      let placed = subst (λ s. Does old.step_limit (mode_of old) params (record old.now { schema = s }) text None (Delete at q) (Ok (w.tally, new.now))) has w.changed in
      let done = went (rw listed at placed) in
      let after = ap (λ (p : Tally × Database). p.1) (same_value (went (went done.2).2).2) in
      let given = went done.1 in
      let written = went given.2 in
      let trees = ap (λ (it : Written). it.trees) (same_value written.2) in
      record { rows = given.0; answer = given.1; next = written.0; wrote = written.1; is = after ∙ ap (λ t. record { schema = schema; trees = t }) trees }
