-- Proofs that the serial increases by one.
use Rattle.std.proofs.Common.{◌≡◌, ℕ, ◌+◌, ◌<◌, ◌^◌, ℤ, pos, [], ◌∷◌, map, filter, cond, Some, None, Ok, Err, Result, OnOk, refl, sym, ap, subst, ◌∙◌, arith}
use Rattle.std.specs.Prelude.{IsPermutation}
use Rattle.std.proofs.lemmas.Bool.{lt-ltb}
use Rattle.sqlite.specs.declared.types.Value.TheVariants.{Null, Int}
use Rattle.sqlite.specs.Order.{Row, column}
use Rattle.sqlite.specs.Term.{eval_all}
use Rattle.sqlite_sql.specs.Ops.{binary, int_or, real_arith, from_int}
use Rattle.sqlite_sql.specs.declared.ops.BinaryOp.TheVariants.{Arith}
use Rattle.sqlite_sql.specs.declared.ops.ArithOp.TheVariants.{Add}
use Rattle.sqlite_value.proofs.OrderLemmas.{value_cmp-Int}
use Rattle.sqlite.specs.Tree.{Trees}
use Rattle.sqlite.specs.Edit.{Edit, edit_of, edited}
use Rattle.sqlite_rules.specs.Edit.{taken_by}
use Rattle.sqlite_rules.specs.Action.{works, Writes as Acts}
use Rattle.sqlite_rules.specs.Calls.{ids_of}
use Rattle.sqlite_schema.specs.declared.schema.Keys.TheVariants.{Enforced}
use Rattle.sqlite.specs.Rowids.TheVariants.{Given}
use Rattle.sqlite.specs.declared.error.Error.{Error}
use Rattle.sqlite.specs.Listing.{understood}
use Rattle.sqlite.specs.State.{State, Executes}
use Rattle.sqlite.proofs.Callers.{statement_of, runs_as, one_step, one_permutation}
use Rattle.entity_core.specs.Serial.{max_serial}
use Rattle.space_sql_schema.specs.Tables.{dss_schema, meta}
use Rattle.space_sql_schema.specs.Spelling.{meta_values, meta_columns}
use Rattle.space_sql_schema.proofs.Steps.{cast_int, cast_null}
use Rattle.space_sql_write.specs.Layout.{Layout, LaysOut, with_next_serial}
use Rattle.space_sql_write.specs.Statements.{RelaysSound}
use Rattle.space_sql_write.proofs.Texts.{raise_serial_text}
use Rattle.space_sql_schema.proofs.Formats.{one_row, passes_one}
use Rattle.space_sql_schema.proofs.Selecting.{is_one, shows, updates}
use Rattle.space_sql_write.proofs.Means.{raised_row, raise_serial_is, raise_serial_plain}
use Rattle.space_sql_write.proofs.Relaying.{meta_relaid}

pub added : (n : ℕ) → n < max_serial → binary (Arith Add) (Int (pos n)) (Int (pos 1)) ≡ Int (pos (n + 1))
unfolding binary
added n low = ap (λ b. int_or (cond b (Some (pos (n + 1))) None) (real_arith Add (from_int (pos n)) (from_int (pos 1)))) (lt-ltb (n + 1) (2 ^ 63) (omega (arith, low)))

abbrev raised : ℤ → Row
raised n = Int (pos 1) ∷ Int (pos 1) ∷ Null ∷ Int (pos 2) ∷ Int n ∷ []

abbrev raised_edit : Trees → ℤ → Edit
raised_edit db n = edit_of db (meta 0) (ids_of (raised n ∷ [])) Given 1 (raised n ∷ [])

abbrev stored : ℤ → Row
stored n = Int (pos 1) ∷ Null ∷ Int (pos 2) ∷ Int n ∷ []

edits : (db : Trees) (n : ℤ) (r : Row) → db 0 ≡ r ∷ [] → column r 0 ≡ Int (pos 1) → edited db (raised_edit db n) ≡ stored n ∷ []
edits db n r is one = rw (is, one, value_cmp-Int (pos 1) (pos 1), cast_int (pos 1), cast_int (pos 2), cast_int n, cast_null)

acts_on_none : (db : Trees) (n : ℤ) → works dss_schema Enforced 0 0 (taken_by db (raised_edit db n)) (raised_edit db n).news ≡ []
acts_on_none db n = refl

shown_row : (n : ℕ) (r : Row) → n < max_serial → column r 0 ≡ Int (pos 1) → column r 2 ≡ Int (pos 2) → column r 3 ≡ Int (pos n) → eval_all raised_row ([] ∷ r ∷ []) ≡ raised (pos (n + 1))
shown_row n r low a b c =
    let sum : binary (Arith Add) (column r 3) (Int (pos 1)) ≡ Int (pos (n + 1)) = ap (λ v. binary (Arith Add) v (Int (pos 1))) c ∙ added n low in
    λ i. a i ∷ a i ∷ Null ∷ b i ∷ sum i ∷ []

pub raises_serial : (old new : State) (r : Result ℕ Error) → Executes raise_serial_text [] old new r → OnOk r (RelaysSound (λ l. l.serial < max_serial) with_next_serial old.now new.now)
raises_serial old new (Err e) h = tt
raises_serial old new (Ok count) h = (relays, λ l low has. (runs_as raise_serial_text [] old new dss_schema has.schema _ raise_serial_is raise_serial_plain count h).sound)
  where
    relays : (l : Layout) → l.serial < max_serial → LaysOut old.now l → LaysOut new.now (with_next_serial l)
    relays l low has =
        let db = old.now.trees in
        let n = l.serial + 1 in
        let it = one_row (db 0) (meta_values 2 l.serial) has.meta in
        let first : column it.0 0 ≡ Int (pos 1) = ap (λ c. column c 0) it.2 in
        let second : column it.0 2 ≡ Int (pos 2) = ap (λ c. column c 1) it.2 in
        let third : column it.0 3 ≡ Int (pos l.serial) = ap (λ c. column c 2) it.2 in
        let w = runs_as raise_serial_text [] old new dss_schema has.schema _ raise_serial_is raise_serial_plain count h in
        let u = updates dss_schema old new [] (meta 0) 0 _ (statement_of raise_serial_text (understood dss_schema raise_serial_text)) count has.schema refl w in
        let found = shows 0 is_one raised_row db [] u.rows refl (u.answer.answer Null) in
        let shown = subst (λ k. IsPermutation (map (λ r. eval_all raised_row ([] ∷ r ∷ [])) k) u.rows) (ap (filter _) it.1 ∙ passes_one it.0 first) found in
        let rows : u.rows ≡ raised (pos n) ∷ [] = one_permutation (raised (pos n)) u.rows (subst (λ k. IsPermutation (k ∷ []) u.rows) (shown_row l.serial it.0 low first second third) shown) in
        let wrote = subst (λ rs. Acts dss_schema Enforced db (edit_of db (meta 0) (ids_of rs) Given 1 rs) (Ok u.next)) rows u.wrote in
        let step = one_step dss_schema Enforced db u.next (raised_edit db (pos n)) (acts_on_none db (pos n)) wrote in
        subst (λ d. LaysOut d (with_next_serial l)) (sym u.is) (meta_relaid old.now u.next l has step.tables n (ap (map meta_columns) (step.rows ∙ edits db (pos n) it.0 it.1 first)))
