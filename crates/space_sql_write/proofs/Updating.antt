-- Proofs that the row of a subscription is changed.
use Rattle.std.proofs.Common.{◌≡◌, ℕ, ◌<◌, ℤ, pos, ◌+ℤ◌, List, [], ◌∷◌, map, filter, not, ◌&&◌, Bool, true, false, Ok, Err, Result, OnOk, refl, sym, ap, subst, ◌∙◌, int_eq}
use Rattle.std.specs.Prelude.{IsPermutation}
use Rattle.std.proofs.lemmas.List.Sorted.{IsPermutation-map, IsPermutation-sym, IsPermutation-trans}
use Rattle.sqlite_keyed.proofs.KeyedLemmas.{same_int}
use Rattle.sqlite_tied.proofs.RuleLemmas.{and_true}
use Rattle.sqlite_typed.proofs.TestLemmas.{at_texts}
use Rattle.sqlite.specs.declared.types.Value.TheVariants.{Null, Int, Text}
use Rattle.sqlite.specs.Order.{Row, column}
use Rattle.sqlite.specs.Term.{eval_all}
use Rattle.sqlite_sql.specs.declared.ops.BinaryOp.TheVariants.{Arith, Compare}
use Rattle.sqlite_sql.specs.declared.ops.ArithOp.TheVariants.{Add}
use Rattle.sqlite_sql.specs.declared.ops.CompareOp.TheVariants.{Eq}
use Rattle.sqlite_sql.specs.Ops.{binary, is_true}
use Rattle.sqlite_value.specs.declared.keys.Collation.TheVariants.{Binary}
use Rattle.sqlite.specs.Tree.{Trees}
use Rattle.sqlite.specs.Edit.{edit_of}
use Rattle.sqlite_rules.specs.Edit.{taken_by}
use Rattle.sqlite_rules.specs.Action.{works}
use Rattle.sqlite_rules.specs.Calls.{ids_of}
use Rattle.sqlite_schema.specs.declared.schema.Keys.TheVariants.{Enforced}
use Rattle.sqlite.specs.Rowids.TheVariants.{Given}
use Rattle.sqlite.specs.declared.error.Error.{Error}
use Rattle.sqlite.specs.State.{State, Executes}
use Rattle.sqlite.proofs.Callers.{runs_as, one_permutation}
use Rattle.entity_core.specs.Serial.{max_serial}
use Rattle.space_rows.specs.declared.rows.SubRow.{SubRow}
use Rattle.space_sql_schema.specs.Tables.{dss_schema, subscription}
use Rattle.space_sql_schema.specs.Spelling.{sub_values, sub_columns}
use Rattle.space_sql_schema.proofs.Steps.{cast_int, cast_null}
use Rattle.space_sql_write.specs.Layout.{AreRows, CanBeNotified, HasSub, Layout, LaysOut, Relays, has_id, notified_row, with_sub_row, with_notified_row, without_sub_row}
use Rattle.space_sql_write.specs.Statements.{RelaysSound}
use Rattle.space_sql_write.proofs.Texts.{update_sub_row_text, raise_notes_text}
use Rattle.space_sql_write.proofs.Means.{is_first, replaced_row, update_sub_row_is, update_sub_row_plain, notes_row, raise_notes_is, raise_notes_plain}
use Rattle.space_sql_write.proofs.Lists.{one_passes, one_row, one_turned}
use Rattle.space_sql_write.proofs.Selecting.{changes_one}
use Rattle.space_sql_write.proofs.Relaying.{subs_relaid}
use Rattle.space_sql_write.proofs.Joining.{one_more}
use Rattle.space_sql_write.proofs.Serials.{added}
use Rattle.space_sql_write.proofs.Rows.{bears, rows_left, rows_of, rows_passing, some_left}

-- The row as it is stored.
abbrev stored : SubRow → Row
stored r = Int r.num ∷ Null ∷ Text r.id ∷ Text r.manager ∷ Int r.serial ∷ Text r.version ∷ Int r.notes ∷ Text r.url ∷ Int r.for_intents ∷ Int r.for_constraints ∷ Int r.alt_lower ∷ Int r.alt_upper ∷ Int r.time_start ∷ Int r.time_end ∷ []

news_of : (db : Trees) (r : SubRow) → (edit_of db (subscription 9) (ids_of ((Int r.num ∷ stored r) ∷ [])) Given 1 ((Int r.num ∷ stored r) ∷ [])).news ≡ stored r ∷ []
news_of db r = rw (cast_int r.num, cast_null, cast_int r.serial, cast_int r.notes, cast_int r.for_intents, cast_int r.for_constraints, cast_int r.alt_lower, cast_int r.alt_upper, cast_int r.time_start, cast_int r.time_end)

no_works : (db : Trees) (r : SubRow) → works dss_schema Enforced 0 9 (taken_by db (edit_of db (subscription 9) (ids_of ((Int r.num ∷ stored r) ∷ [])) Given 1 ((Int r.num ∷ stored r) ∷ []))) (edit_of db (subscription 9) (ids_of ((Int r.num ∷ stored r) ∷ [])) Given 1 ((Int r.num ∷ stored r) ∷ [])).news ≡ []
no_works db r = refl

-- ---- all its columns

replaced : (r : SubRow) (row : Row) → column row 0 ≡ Int r.num → eval_all replaced_row (sub_values r ∷ row ∷ []) ≡ Int r.num ∷ stored r
replaced r row e = λ i. e i ∷ e i ∷ Null ∷ Text r.id ∷ Text r.manager ∷ Int r.serial ∷ Text r.version ∷ Int r.notes ∷ Text r.url ∷ Int r.for_intents ∷ Int r.for_constraints ∷ Int r.alt_lower ∷ Int r.alt_upper ∷ Int r.time_start ∷ Int r.time_end ∷ []

pub updates_sub_row : (old new : State) (r : SubRow) (result : Result ℕ Error) → Executes update_sub_row_text (sub_values r) old new result → OnOk result (Relays (HasSub r.num) (λ l. with_sub_row r (without_sub_row r.num l)) old.now new.now)
updates_sub_row old new r (Err e) h = tt
updates_sub_row old new r (Ok count) h = λ l one has.
    let db = old.now.trees in
    let num = r.num in
    let found = subst (λ rs. IsPermutation (map sub_values rs) (map sub_columns (filter (λ row. bears 0 num (sub_columns row)) (db 9)))) one.alone (rows_of 0 sub_values (λ (s : SubRow). s.num) (λ s. refl) sub_columns l.subs (db 9) has.subs num) in
    let row = one_row sub_columns (filter (λ row. bears 0 num (sub_columns row)) (db 9)) (sub_values one.row) (one_permutation (sub_values one.row) _ found) in
    let own : one.row.num ≡ num = same_int one.row.num num (one_passes (λ (s : SubRow). int_eq s.num num) l.subs one.row one.alone) in
    let first : column row.0 0 ≡ Int num = ap (λ c. column c 0) row.2 ∙ ap Int own in
    let it = changes_one update_sub_row_text (sub_values r) (subscription 9) 5 (is_first 0) replaced_row refl update_sub_row_is update_sub_row_plain old new count row.0 (Int num ∷ stored r) (stored r) has.schema has.subs.apart refl h row.1 (replaced r row.0 first) (sym first) (news_of db r) (no_works db r) in
    let left = rows_left 0 sub_values (λ (s : SubRow). s.num) (λ s. refl) sub_columns l.subs (db 9) has.subs num in
    let more = one_more sub_values sub_columns _ r (stored r) num _ refl refl it.fresh left in
    subst (λ d. LaysOut d (with_sub_row r (without_sub_row num l))) (sym it.is) (subs_relaid old.now it.next l has it.stand _ (subst (AreRows sub_values sub_columns _) (sym it.rows) more))

-- ---- its index

-- The test of the statement, as it is computed.
abbrev pub names : List ℕ → Row → Bool
names id c = is_true (binary (Compare Eq Binary) (column c 1) (Text id)) && true

pub names_id : (id : List ℕ) (s : SubRow) → names id (sub_values s) ≡ has_id id s
names_id id s = and_true _ ∙ at_texts false Eq s.id id

one_higher : (m : ℤ) (n : ℕ) → m ≡ pos n → n < max_serial → binary (Arith Add) (Int m) (Int (pos 1)) ≡ Int (m +ℤ pos 1)
one_higher m n is low = ap (λ k. binary (Arith Add) (Int k) (Int (pos 1))) is ∙ (added n low ∙ ap (λ k. Int (k +ℤ pos 1)) (sym is))

raised : (s : SubRow) (row : Row) → sub_columns row ≡ sub_values s → binary (Arith Add) (Int s.notes) (Int (pos 1)) ≡ Int (s.notes +ℤ pos 1) → (id : List ℕ) → eval_all notes_row ((Text id ∷ []) ∷ row ∷ []) ≡ Int s.num ∷ stored (notified_row s)
raised s row is up id =
    let at = λ (k : ℕ). ap (λ c. column c k) is in
    let notes : binary (Arith Add) (column row 6) (Int (pos 1)) ≡ Int (s.notes +ℤ pos 1) = ap (λ v. binary (Arith Add) v (Int (pos 1))) (at 5) ∙ up in
    λ i. at 0 i ∷ at 0 i ∷ Null ∷ at 1 i ∷ at 2 i ∷ at 3 i ∷ at 4 i ∷ notes i ∷ at 6 i ∷ at 7 i ∷ at 8 i ∷ at 9 i ∷ at 10 i ∷ at 11 i ∷ at 12 i ∷ []

pub raises_notes : (old new : State) (id : List ℕ) (result : Result ℕ Error) → Executes raise_notes_text (Text id ∷ []) old new result → OnOk result (RelaysSound (CanBeNotified id) (with_notified_row id) old.now new.now)
raises_notes old new id (Err e) h = tt
raises_notes old new id (Ok count) h = (relays, λ l one has. (runs_as raise_notes_text (Text id ∷ []) old new dss_schema has.schema _ raise_notes_is raise_notes_plain count h).sound)
  where
    relays : (l : Layout) → CanBeNotified id l → LaysOut old.now l → LaysOut new.now (with_notified_row id l)
    relays l one has =
        let db = old.now.trees in
        let told = notified_row one.row in
        let found = subst (λ rs. IsPermutation (map sub_values rs) (map sub_columns (filter (λ row. names id (sub_columns row)) (db 9)))) one.alone (rows_passing sub_values sub_columns l.subs (db 9) has.subs.same (names id) (has_id id) (names_id id)) in
        let row = one_row sub_columns (filter (λ row. names id (sub_columns row)) (db 9)) (sub_values one.row) (one_permutation (sub_values one.row) _ found) in
        let first : column row.0 0 ≡ Int one.row.num = ap (λ c. column c 0) row.2 in
        let shown = raised one.row row.0 row.2 (one_higher one.row.notes one.index one.notes one.below) id in
        let it = changes_one raise_notes_text (Text id ∷ []) (subscription 9) 5 (is_first 2) notes_row refl raise_notes_is raise_notes_plain old new count row.0 (Int told.num ∷ stored told) (stored told) has.schema has.subs.apart refl h row.1 shown (sym first) (news_of db told) (no_works db told) in
        let left = some_left sub_values sub_columns l.subs (db 9) has.subs (λ c. not (names id c)) (λ s. not (has_id id s)) (λ s. ap not (names_id id s)) in
        let more = one_more sub_values sub_columns _ told (stored told) told.num _ refl refl it.fresh left in
        let same = IsPermutation-trans _ _ _ (IsPermutation-map sub_values _ _ (IsPermutation-sym _ _ (one_turned (has_id id) notified_row l.subs one.row one.alone))) more.same in
        subst (λ d. LaysOut d (with_notified_row id l)) (sym it.is) (subs_relaid old.now it.next l has it.stand _ (subst (AreRows sub_values sub_columns _) (sym it.rows) (record { same = same; apart = more.apart })))
