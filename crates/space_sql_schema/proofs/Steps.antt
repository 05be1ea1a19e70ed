-- Proofs about the effect of a statement in a transaction.
use Rattle.std.proofs.Common.{arith, ◌≡◌, ◌⊎◌, inl, inr, ℕ, ℤ, List, [], slice_get, Bool, true, false, cond, Option, Some, None, Ok, Err, Result, OnOk, OnErr, refl, sym, ap, subst, ◌∙◌, length, ◌/◌}
use Rattle.std.specs.Prelude.{IsTrue}
use Rattle.sqlite.specs.declared.types.Value.{Value}
use Rattle.sqlite.specs.declared.types.Value.TheVariants.{Null, Int}
use Rattle.sqlite.specs.Order.{Row}
use Rattle.sqlite.specs.Term.{Term}
use Rattle.sqlite.specs.Ops.{unary}
use Rattle.sqlite.specs.Kind.TheVariants.{Integer}
use Rattle.sqlite.specs.Cast.{cast}
use Rattle.sqlite.specs.Table.{Table}
use Rattle.sqlite.specs.Tree.{Trees}
use Rattle.sqlite.specs.Edit.{edit_of}
use Rattle.sqlite_rules.specs.Action.{Writes as Acts}
use Rattle.sqlite.specs.Rowids.TheVariants.{Chosen, Above}
use Rattle.sqlite.specs.Source.TheVariants.{Values}
use Rattle.sqlite_schema.specs.declared.schema.Keys.TheVariants.{Enforced}
use Rattle.sqlite.specs.Command.TheVariants.{Insert}
use Rattle.sqlite.specs.Does.{Tally, Does}
use Rattle.sqlite.specs.Rows.{Written, stamped, rowids_for, Task, Counts}
use Rattle.sqlite.specs.declared.error.Error.{Error}
use Rattle.sqlite.specs.Effect.{Database, value_rows}
use Rattle.sqlite.specs.Schema.{Schema}
use Rattle.sqlite.specs.State.{State, Shows, mode_of, Writes, IsUnchanged, IsRolledBack, Executes, ExecutesInside, KeepsCommit, HasCleanDisk, Survives}
use Rattle.std.proofs.lemmas.Bool.{cases_Bool}
use Rattle.sqlite.proofs.StateLemmas.{survives_then}
use Rattle.space_sql_schema.specs.Making.{Leads}
use Rattle.space_sql_schema.specs.Making as making

pub went : {B E R : Type 0} {b : B} {Stops : E → Type 0} → ((stop : E) × Stops stop × (Ok b ≡ Err stop)) ⊎ R → R
went (inl stopped) = absurd (let e = stopped.2 in cc)
went (inr on) = on

pub same_value : {B E : Type 0} {a b : B} → ◌≡◌ {A = Result B E} (Ok a) (Ok b) → a ≡ b
same_value e = cc

pub either : (b : Bool) (x : Value) → cond b x x ≡ x
either true x = refl
either false x = refl

pub cast_int : (n : ℤ) → cast Integer (Int n) ≡ Int n
unfolding unary
cast_int n = either _ (Int n)

pub cast_null : cast Integer Null ≡ Null
unfolding unary
cast_null = either _ Null

pub steps_on : (old new : State) (sql : List ℕ) (params : Row) (r : Result ℕ Error) (X : Type 0) (e : Error) (R : Database → Database → Type 0)
    → (old.in_transaction ≡ false → (r ≡ Err e) × X) → (IsTrue old.in_transaction → ExecutesInside 0 sql params old new r)
    → (Executes sql params old new r → OnOk r (R old.now new.now)) → OnOk r (R old.now new.now × Shows old new new.now old.committed true)
steps_on old new sql params (Err e) X error R ended runs each = tt
steps_on old new sql params (Ok n) X error R ended runs each = elim (cases_Bool old.in_transaction) [
  | inl on ↦ let it = runs on in (each it.0, it.1)
  | inr off ↦ absurd (let e = (ended off).0 in cc)
]

chosen : (table : Table) (top : ℤ) → table.is_counted ≡ false → rowids_for table top ≡ Chosen
chosen table top e = ap (λ b. cond b (Above top) Chosen) e

counts_same : (task : Task) (mid next : Trees) (counter : Option Row) (top : ℤ) → task.table.is_counted ≡ false → Counts task mid counter top (Ok next) → next ≡ mid
counts_same task mid next counter top e h = same_value (rw e at h)

-- Lemmas about the effect of an INSERT of values.
module _ (schema : Schema) (old new : State) (params : Row) (table : Table) (at : ℕ) (terms : List Term) (width : ℕ) (text : List ℕ) (count : ℕ) (has : old.now.schema ≡ schema) (listed : slice_get schema.tables at ≡ Some table)
    (uncounted : table.is_counted ≡ false) where
  pub record Inserted : Type 0 where
    pub rows : List Row
    pub given : rows ≡ value_rows (stamped table params) width (length terms / width) terms
    pub next : Trees
    pub wrote : Acts schema Enforced old.now.trees (edit_of old.now.trees table [] Chosen 0 rows) (Ok next)
    pub is : new.now ≡ record { schema = schema; trees = next }

  pub inserts : Writes old new None (Insert at (Values terms width)) text params count → Inserted
  inserts w =
      let placed = subst (λ s. Does old.step_limit (mode_of old) params (record old.now { schema = s }) text None (Insert at (Values terms width)) (Ok (w.tally, new.now))) has w.changed in
      let done = went (rw listed at placed) in
      let after = ap (λ (p : Tally × Database). p.1) (same_value (went (went done.2).2).2) in
      let given = went done.1 in
      let written = went (went given.2).2 in
      let plain_ids = subst (λ ids. Acts schema Enforced old.now.trees (edit_of old.now.trees table [] ids 0 given.0) (Ok written.0)) (chosen table _ uncounted) written.1 in
      let counted = went written.2 in
      let task : Task = record { limit = old.step_limit; keys = (mode_of old).keys; schema = schema; table = table; params = params } in
      let last = counts_same task written.0 counted.0 (went given.2).0 _ uncounted counted.1 in
      let trees = ap (λ (it : Written). it.trees) (same_value {E = Option Error} counted.2) ∙ last in
      record { rows = given.0; given = given.1.1; next = written.0; wrote = plain_ids; is = after ∙ ap (λ t. record { schema = schema; trees = t }) trees }

pub clean_first : (old new : State) (P : Trees → Type 0) → Survives old new P → HasCleanDisk new → HasCleanDisk old
clean_first old new P went clean = omega (arith, went.clean, clean)

pub keeps_then : (a b d : State) → KeepsCommit a b → KeepsCommit b d → KeepsCommit a d
keeps_then a b d p q = record { was_open = λ o. p.was_open (q.was_open o); committed = λ o. q.committed o ∙ p.committed (q.was_open o) }

pub unchanged_keeps : (old new : State) → IsUnchanged old new → KeepsCommit old new
unchanged_keeps old new p = record { was_open = λ _. p.0.was_open; committed = λ _. p.0.committed_is }

pub kept_keeps : (old new : State) → IsUnchanged old new ⊎ IsRolledBack old new → KeepsCommit old new
kept_keeps old new (inl p) = unchanged_keeps old new p
kept_keeps old new (inr p) = record { was_open = p.was_open; committed = λ o. (p.undone o).1 }

inside_keeps : (old new : State) (sql : List ℕ) (params : Row) (r : Result ℕ Error) → ExecutesInside 0 sql params old new r → KeepsCommit old new
inside_keeps old new sql params (Ok n) h = record { was_open = λ _. h.1.was_open; committed = λ _. h.1.committed_is }
inside_keeps old new sql params (Err e) (inl h) = kept_keeps old new h.1
inside_keeps old new sql params (Err e) (inr h) = unchanged_keeps old new h.2

-- No statement in a transaction changes the last commit.
pub keeps : (old new : State) (sql : List ℕ) (params : Row) (r : Result ℕ Error) → (old.in_transaction ≡ false → new ≡ old) → (IsTrue old.in_transaction → ExecutesInside 0 sql params old new r) → KeepsCommit old new
keeps old new sql params r ended runs = elim (cases_Bool old.in_transaction) [
  | inl on ↦ inside_keeps old new sql params r (runs on)
  | inr off ↦ subst (KeepsCommit old) (sym (ended off)) (record { was_open = λ o. o; committed = λ _. refl })
]

pub on_err : {X : Type 0} (r : Result X Error) (A : Type 0) → A → OnErr r A
on_err (Ok x) A a = tt
on_err (Err e) A a = a

pub ok_map : {X : Type 0} (r : Result X Error) (A B : Type 0) → OnOk r A → (A → B) → OnOk r B
ok_map (Ok x) A B a f = f a
ok_map (Err e) A B a f = tt

-- A single statement is a step.
pub steps_by : (old new : State) (sql : List ℕ) (params : Row) (r : Result ℕ Error) (X : Type 0) (e : Error) (R : Database → Database → Type 0) → (old.in_transaction ≡ false → (r ≡ Err e) × X) → (old.in_transaction ≡ false → new ≡ old)
    → (HasCleanDisk new → IsTrue old.in_transaction → ExecutesInside 0 sql params old new r) → Survives old new (λ _. ⊥) → (Executes sql params old new r → OnOk r (R old.now new.now)) → making.Steps R old new r
steps_by old new sql params r X e R ended off runs survives each = record {
  done = λ clean. steps_on old new sql params r X e R ended (runs clean) each;
  kept = λ clean. keeps old new sql params r off (runs clean);
  survives = survives;
}

turned : {X : Type 0} (r : Result X Error) (A B : Type 0) → (A → OnOk r B) → OnOk r (A → B)
turned (Ok x) A B f = f
turned (Err e) A B f = tt

pub leads_on : (old new : State) (sql : List ℕ) (params : Row) (r : Result ℕ Error) (X : Type 0) (e : Error) (A B : Database → Type 0) → (old.in_transaction ≡ false → (r ≡ Err e) × X) → (old.in_transaction ≡ false → new ≡ old)
    → (HasCleanDisk new → IsTrue old.in_transaction → ExecutesInside 0 sql params old new r) → Survives old new (λ _. ⊥) → (Executes sql params old new r → A old.now → OnOk r (B new.now)) → Leads A B old new r
leads_on old new sql params r X e A B ended off runs survives each = steps_by old new sql params r X e (λ before after. A before → B after) ended off runs survives (λ h. turned r (A old.now) (B new.now) (each h))

-- A step is one for each result without an error.
pub steps_as : {X Y : Type 0} (R : Database → Database → Type 0) (old new : State) (x : X) (y : Y) → making.Steps R old new (Ok x) → making.Steps R old new (Ok y)
steps_as R old new x y p = record { done = p.done; kept = p.kept; survives = p.survives }

-- A step that holds for each value holds for all values.
pub of_all : {X T : Type 0} (r : Result X Error) (A B : T → Type 0) → ((t : T) → A t → OnOk r (B t)) → OnOk r ((t : T) → A t → B t)
of_all (Ok x) A B f = f
of_all (Err e) A B f = tt

-- Steps compose.
module _ {X Y Z : Type 0} (R Q T : Database → Database → Type 0) (a b d : State) where
  pub steps_then : (x : X) (y : Y) (z : Z) → (R a.now b.now → Q b.now d.now → T a.now d.now) → making.Steps R a b (Ok x) → making.Steps Q b d (Ok y) → making.Steps T a d (Ok z)
  steps_then x y z joins p q = record {
    done = λ clean.
        let first = p.done (omega (arith, q.survives.clean)) in
        let second = q.done clean in
        (joins first.0 second.0, record { was_open = first.1.was_open; is_open = second.1.is_open; now_is = refl; committed_is = second.1.committed_is ∙ first.1.committed_is; mode = second.1.mode });
    kept = λ clean. keeps_then a b d (p.kept (omega (arith, q.survives.clean))) (q.kept clean);
    survives = survives_then a b d _ _ (λ _. ⊥) (λ _ db none. none) (λ _ db none. none) p.survives q.survives;
  }

module _ {X Y Z : Type 0} (A B C : Database → Type 0) (a b d : State) where
  pub leads_then : (x : X) (y : Y) (z : Z) → Leads A B a b (Ok x) → Leads B C b d (Ok y) → Leads A C a d (Ok z)
  leads_then x y z p q = steps_then (λ s t. A s → B t) (λ s t. B s → C t) (λ s t. A s → C t) a b d x y z (λ f g has. g (f has)) p q
