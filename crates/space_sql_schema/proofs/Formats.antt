-- A proof about the statement that sets the format in `meta` to 2.
use Rattle.std.proofs.Common.{◌≡◌, ℕ, ℤ, pos, List, [], ◌∷◌, map, filter, false, Ok, Err, Result, OnOk, refl, ap, subst, ◌∙◌}
use Rattle.std.specs.Prelude.{IsPermutation}
use Rattle.std.specs.List.{list_all}
use Rattle.sqlite.specs.declared.types.Value.TheVariants.{Null, Int}
use Rattle.sqlite.specs.Order.{Row, column}
use Rattle.sqlite.specs.Term.{eval_all, holds}
use Rattle.sqlite_sql.specs.declared.ops.CompareOp.TheVariants.{Eq}
use Rattle.sqlite_value.proofs.OrderLemmas.{value_cmp-Int}
use Rattle.sqlite_typed.proofs.TestLemmas.{at_ints}
use Rattle.sqlite.specs.Tree.{Trees}
use Rattle.sqlite.specs.Edit.{Edit, edit_of, edited}
use Rattle.sqlite_rules.specs.Edit.{taken_by}
use Rattle.sqlite_rules.specs.Action.{works, Writes as Acts}
use Rattle.sqlite_rules.specs.Calls.{ids_of}
use Rattle.sqlite_schema.specs.declared.schema.Keys.TheVariants.{Enforced}
use Rattle.sqlite.specs.Rowids.TheVariants.{Given}
use Rattle.sqlite.specs.Effect.{Database}
use Rattle.sqlite.specs.declared.error.Error.{Error}
use Rattle.sqlite.specs.Listing.{understood}
use Rattle.sqlite.specs.State.{State, Executes}
use Rattle.sqlite.proofs.Callers.{statement_of, runs_as, one_step, one_permutation}
use Rattle.space_sql_schema.specs.Tables.{meta, second_schema}
use Rattle.space_sql_schema.specs.Spelling.{meta_columns}
use Rattle.space_sql_schema.specs.Making.{HasRows, IsUpgraded, first_rows}
use Rattle.space_sql_schema.proofs.Texts.{set_format_text}
use Rattle.space_sql_schema.proofs.Means.{format_row, set_format_is, set_format_plain}
use Rattle.space_sql_schema.proofs.Selecting.{is_one, shows, updates}
use Rattle.space_sql_schema.proofs.Steps.{cast_int, cast_null}

pub one_row : (rows : List Row) (c : Row) → map meta_columns rows ≡ c ∷ [] → (r : Row) × (rows ≡ r ∷ []) × (meta_columns r ≡ c)
one_row [] c e = absurd cc
one_row (r ∷ []) c e = (r, refl, cc)
one_row (r ∷ s ∷ rows) c e = absurd cc

pub passes_one : (r : Row) → column r 0 ≡ Int (pos 1) → filter (λ r. list_all (holds ([] ∷ r ∷ [])) is_one) (r ∷ []) ≡ r ∷ []
passes_one r e = rw (e, at_ints false Eq (pos 1) (pos 1))

abbrev set_row : ℤ → Row
set_row n = Int (pos 1) ∷ Int (pos 1) ∷ Null ∷ Int (pos 2) ∷ Int n ∷ []

abbrev set_edit : Trees → ℤ → Edit
set_edit db n = edit_of db (meta 0) (ids_of (set_row n ∷ [])) Given 1 (set_row n ∷ [])

abbrev stored : ℤ → Row
stored n = Int (pos 1) ∷ Null ∷ Int (pos 2) ∷ Int n ∷ []

edits : (db : Trees) (n : ℤ) (r : Row) → db 0 ≡ r ∷ [] → column r 0 ≡ Int (pos 1) → edited db (set_edit db n) ≡ stored n ∷ []
edits db n r is one = rw (is, one, value_cmp-Int (pos 1) (pos 1), cast_int (pos 1), cast_int (pos 2), cast_int n, cast_null)

acts_on_none : (db : Trees) (n : ℤ) → works second_schema Enforced 0 0 (taken_by db (set_edit db n)) (set_edit db n).news ≡ []
acts_on_none db n = refl

shown_row : (n : ℤ) (r : Row) → column r 0 ≡ Int (pos 1) → column r 3 ≡ Int n → eval_all format_row ([] ∷ r ∷ []) ≡ set_row n
shown_row n r a b = λ i. a i ∷ a i ∷ Null ∷ Int (pos 2) ∷ b i ∷ []

pub sets_format : (trees : Trees) (old new : State) (r : Result ℕ Error) → Executes set_format_text [] old new r → HasRows second_schema (first_rows trees) old.now → OnOk r (IsUpgraded trees new.now)
sets_format trees old new (Err e) h has = tt
sets_format trees old new (Ok count) h has = λ n first.
    let db = old.now.trees in
    let it = one_row (db 0) _ (ap (map meta_columns) has.1.0 ∙ first) in
    let key : column it.0 0 ≡ Int (pos 1) = ap (λ c. column c 0) it.2 in
    let serial : column it.0 3 ≡ Int n = ap (λ c. column c 2) it.2 in
    let w = runs_as set_format_text [] old new second_schema has.0 _ set_format_is set_format_plain count h in
    let u = updates second_schema old new [] (meta 0) 0 _ (statement_of set_format_text (understood second_schema set_format_text)) count has.0 refl w in
    let found = shows 0 is_one format_row db [] u.rows refl (u.answer.answer Null) in
    let shown = subst (λ k. IsPermutation (map (λ r. eval_all format_row ([] ∷ r ∷ [])) k) u.rows) (ap (filter _) it.1 ∙ passes_one it.0 key) found in
    let rows : u.rows ≡ set_row n ∷ [] = one_permutation (set_row n) u.rows (subst (λ k. IsPermutation (k ∷ []) u.rows) (shown_row n it.0 key serial) shown) in
    let wrote = subst (λ rs. Acts second_schema Enforced db (edit_of db (meta 0) (ids_of rs) Given 1 rs) (Ok u.next)) rows u.wrote in
    let step = one_step second_schema Enforced db u.next (set_edit db n) (acts_on_none db n) wrote in
    let at = λ (t : ℕ). ap (λ (d : Database). d.trees t) u.is in
    let kept = step.tables.1 in
    let rest = has.1.1 in
    record {
      schema = ap (λ (d : Database). d.schema) u.is;
      meta = ap (map meta_columns) (at 0 ∙ (step.rows ∙ edits db n it.0 it.1 key));
      entities = at 1 ∙ (kept.0 (λ e. cc) ∙ rest.0);
      volumes = at 3 ∙ (kept.1.0 (λ e. cc) ∙ rest.1.0);
      cells = at 5 ∙ (kept.1.1.0 (λ e. cc) ∙ rest.1.1.0);
      availabilities = at 7 ∙ (kept.1.1.1.0 (λ e. cc) ∙ rest.1.1.1.0);
      bare = (at 9 ∙ (kept.1.1.1.1.0 (λ e. cc) ∙ rest.1.1.1.1.0), at 11 ∙ (kept.1.1.1.1.1.0 (λ e. cc) ∙ rest.1.1.1.1.1.0), at 13 ∙ (kept.1.1.1.1.1.1.0 (λ e. cc) ∙ rest.1.1.1.1.1.1.0));
      sound = w.sound;
    }
