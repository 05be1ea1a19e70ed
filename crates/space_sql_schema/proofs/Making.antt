-- Proofs about creating the tables, one statement after the other.
use Rattle.std.proofs.Common.{◌≡◌, ℕ, pos, List, [], ◌∷◌, map, slice_get, false, Some, None, Ok, Err, Result, OnOk, refl, sym, ap, subst, ◌∙◌}
use Rattle.std.specs.List.{AllByRecursion}
use Rattle.sqlite_keyed.proofs.ListLemmas.{all_both, all-append}
use Rattle.sqlite.specs.declared.types.Value.TheVariants.{Null, Int}
use Rattle.sqlite.specs.Order.{Row}
use Rattle.sqlite.specs.Table.{Table}
use Rattle.sqlite.specs.Schema.{Schema}
use Rattle.sqlite_schema.specs.declared.schema.Index.{Index}
use Rattle.sqlite.specs.Command.TheVariants.{CreateTable, CreateIndex, DropIndex, DropTable}
use Rattle.sqlite.specs.Compile.{table_defined_by}
use Rattle.sqlite_resolve.specs.Compile.{index_defined_by}
use Rattle.sqlite.specs.Change.{created, indexed, next_tree, without_index, without_table}
use Rattle.sqlite.specs.Does.{Tally, Does, UncountsIn, lacks_sequence, is_acted_on}
use Rattle.sqlite.specs.Rows.{Task, sequence}
use Rattle.sqlite.specs.Tree.{Trees}
use Rattle.sqlite.specs.declared.error.Error.{Error}
use Rattle.sqlite.specs.Listing.{understood}
use Rattle.sqlite.specs.Effect.{Database, IsDatabase}
use Rattle.sqlite.specs.State.{State, mode_of, Writes, Executes}
use Rattle.sqlite.proofs.Callers.{IsPlain, command_of, statement_of, runs_as}
use Rattle.sqlite.specs.Edit.{Edit, edit_of, edited}
use Rattle.sqlite_rules.specs.Edit.{taken_by}
use Rattle.sqlite_rules.specs.Action.{works, Writes as Acts}
use Rattle.sqlite.specs.Rowids.TheVariants.{Chosen}
use Rattle.sqlite_schema.specs.declared.schema.Keys.{Keys}
use Rattle.sqlite_schema.specs.declared.schema.Keys.TheVariants.{Enforced}
use Rattle.sqlite_trees.specs.Tree.{rowid}
use Rattle.std.specs.Prelude.{Bool, IsPermutation, MatchBool, Option, if◌then◌else◌, true}
use Rattle.std.proofs.Common.{subst₂, arith}
use Rattle.std.proofs.lemmas.List.Sorted.{IsPermutation-refl}
use Rattle.std.specs.FinMap.{entries, empty, len-entries, len-empty}
use Rattle.std.proofs.Common.{length, Ordering}
use Rattle.std.specs.Ordering.{nat_cmp}
use Rattle.entity_core.specs.Airspace.{key_cmp, text_cmp}
use Rattle.sqlite.proofs.Callers.{one_step}
use Rattle.space_sql_schema.specs.declared.format.Format.{Format}
use Rattle.space_sql_schema.specs.declared.format.Format.TheVariants.{One, TwoUnindexed, Two, OldOne, OldTwoUnindexed, OldTwo}
use Rattle.space_sql_schema.specs.Tables.{meta, first_schema, dss_schema, schema_of, format_number}
use Rattle.space_sql_schema.proofs.Texts.{old_row_text, first_row_text}
use Rattle.space_sql_schema.specs.Spelling.{AreApart, AreFit, IsStated, availability_values, meta_columns, entity_columns, six_columns, three_columns, sub_columns, five_columns, two_columns, later_rows, availability_rows}
use Rattle.space_sql_schema.proofs.Means.{old_row_is, old_row_plain, first_row_is, first_row_plain}
use Rattle.space_sql_schema.proofs.Steps.{cast_int, cast_null, inserts}
use Rattle.space_sql_schema.specs.Making.{HasRows, IsBare, IsMade, SpellsEmptyAs}
use Rattle.space_sql_schema.proofs.Steps.{went, same_value, ok_map}

-- The statement creates a table beside the others, whose rows stay.
pub makes : (before after : Schema) (rows : Trees) (table : Table) (text : List ℕ) (old new : State) (r : Result ℕ Error) → rows (next_tree before) ≡ [] → command_of (understood before text) ≡ CreateTable → IsPlain (understood before text)
    → statement_of text (understood before text) ≡ text → table_defined_by text ≡ Ok table → created before table ≡ after → lacks_sequence after ≡ false
    → Executes text [] old new r → HasRows before rows old.now → OnOk r (HasRows after rows new.now)
makes before after rows table text old new (Err e) none is plain whole defined after_is counted h has = tt
makes before after rows table text old new (Ok count) none is plain whole defined after_is counted h has =
    let w = subst (λ t. Writes old new None CreateTable t [] count) whole (runs_as text [] old new before has.0 CreateTable is plain count h) in
    let all = went w.changed in
    let first = went all.1 in
    let made = first.1 in
    let both : Ok made.table ≡ Ok table = sym made.defined ∙ defined in
    let same : made.table ≡ table = cc in
    let schema : first.0.schema ≡ after = made.is ∙ ap (λ s. created s made.table) has.0 ∙ ap (created before) same ∙ after_is in
    let free : lacks_sequence first.0.schema ≡ false = ap lacks_sequence schema ∙ counted in
    let now : new.now ≡ first.0 = ap (λ (p : Tally × Database). p.1) (same_value all.2) ∙ same_value (rw free at first.2) in
    let kept = subst (λ (s : Schema). AllByRecursion (λ t. first.0.trees t.tree ≡ old.now.trees t.tree) s.tables) has.0 made.others in
    let there = all_both (λ (t : Table). first.0.trees t.tree ≡ old.now.trees t.tree) (λ t. old.now.trees t.tree ≡ rows t.tree) (λ t. first.0.trees t.tree ≡ rows t.tree) (λ t p q. p ∙ q) before.tables kept has.1 in
    let empty : first.0.trees (next_tree before) ≡ rows (next_tree before) = subst (λ s. first.0.trees (next_tree s) ≡ []) has.0 made.empty ∙ sym none in
    let every = all-append (λ (t : Table). first.0.trees t.tree ≡ rows t.tree) before.tables (record table { tree = next_tree before } ∷ []) there (empty, tt) in
    subst (HasRows after rows) (sym now) (schema, subst (λ (s : Schema). AllByRecursion (λ t. first.0.trees t.tree ≡ rows t.tree) s.tables) after_is every)

-- The statement creates an index, and all rows stay. The rows also obey the new schema.
pub makes_sound_index : (before after : Schema) (rows : Trees) (table : Table) (at : ℕ) (index : Index) (text : List ℕ) (old new : State) (r : Result ℕ Error) → command_of (understood before text) ≡ CreateIndex at → IsPlain (understood before text)
    → statement_of text (understood before text) ≡ text → slice_get before.tables at ≡ Some table → index_defined_by table text ≡ Ok index → indexed before table index ≡ after → after.tables ≡ before.tables
    → Executes text [] old new r → HasRows before rows old.now → OnOk r (HasRows after rows new.now × IsDatabase new.now)
makes_sound_index before after rows table at index text old new (Err e) is plain whole listed defined after_is tables h has = tt
makes_sound_index before after rows table at index text old new (Ok count) is plain whole listed defined after_is tables h has =
    let w = subst (λ t. Writes old new None (CreateIndex at) t [] count) whole (runs_as text [] old new before has.0 (CreateIndex at) is plain count h) in
    let at_schema = subst (λ s. Does old.step_limit (mode_of old) [] (record old.now { schema = s }) text None (CreateIndex at) (Ok (w.tally, new.now))) has.0 w.changed in
    let all = went (rw listed at at_schema) in
    let made = all.1 in
    let both : Ok made.index ≡ Ok index = sym made.defined ∙ defined in
    let same : made.index ≡ index = cc in
    let schema : all.0.schema ≡ after = made.is ∙ ap (indexed before table) same ∙ after_is in
    let now : new.now ≡ all.0 = ap (λ (p : Tally × Database). p.1) (same_value all.2) in
    let there = all_both (λ (t : Table). all.0.trees t.tree ≡ old.now.trees t.tree) (λ t. old.now.trees t.tree ≡ rows t.tree) (λ t. all.0.trees t.tree ≡ rows t.tree) (λ t p q. p ∙ q) before.tables made.rows has.1 in
    (subst (HasRows after rows) (sym now) (schema, subst (λ ts. AllByRecursion (λ (t : Table). all.0.trees t.tree ≡ rows t.tree) ts) (sym tables) there), w.sound)

pub makes_index : (before after : Schema) (rows : Trees) (table : Table) (at : ℕ) (index : Index) (text : List ℕ) (old new : State) (r : Result ℕ Error) → command_of (understood before text) ≡ CreateIndex at → IsPlain (understood before text)
    → statement_of text (understood before text) ≡ text → slice_get before.tables at ≡ Some table → index_defined_by table text ≡ Ok index → indexed before table index ≡ after → after.tables ≡ before.tables
    → Executes text [] old new r → HasRows before rows old.now → OnOk r (HasRows after rows new.now)
makes_index before after rows table at index text old new r is plain whole listed defined after_is tables h has =
    ok_map r _ _ (makes_sound_index before after rows table at index text old new r is plain whole listed defined after_is tables h has) (λ it. it.0)

-- The statement drops an index, and all rows stay.
pub drops_index : (before after : Schema) (rows : Trees) (at : ℕ) (index : Index) (text : List ℕ) (old new : State) (r : Result ℕ Error) → command_of (understood before text) ≡ DropIndex at → IsPlain (understood before text)
    → statement_of text (understood before text) ≡ text → slice_get before.indexes at ≡ Some index → without_index before index.tree ≡ after → after.tables ≡ before.tables
    → Executes text [] old new r → HasRows before rows old.now → OnOk r (HasRows after rows new.now)
drops_index before after rows at index text old new (Err e) is plain whole listed after_is tables h has = tt
drops_index before after rows at index text old new (Ok count) is plain whole listed after_is tables h has =
    let w = subst (λ t. Writes old new None (DropIndex at) t [] count) whole (runs_as text [] old new before has.0 (DropIndex at) is plain count h) in
    let at_schema = subst (λ s. Does old.step_limit (mode_of old) [] (record old.now { schema = s }) text None (DropIndex at) (Ok (w.tally, new.now))) has.0 w.changed in
    let all = went (rw listed at at_schema) in
    let schema : all.0.schema ≡ after = all.1.0 ∙ after_is in
    let now : new.now ≡ all.0 = ap (λ (p : Tally × Database). p.1) (same_value all.2) in
    let there = all_both (λ (t : Table). all.0.trees t.tree ≡ old.now.trees t.tree) (λ t. old.now.trees t.tree ≡ rows t.tree) (λ t. all.0.trees t.tree ≡ rows t.tree) (λ t p q. p ∙ q) before.tables all.1.1 has.1 in
    subst (HasRows after rows) (sym now) (schema, subst (λ ts. AllByRecursion (λ (t : Table). all.0.trees t.tree ≡ rows t.tree) ts) (sym tables) there)

-- What is done only where a test passes is not done where it fails.
not_done : (b : Bool) (P : Type 0) (x a : Trees) → b ≡ false → MatchBool b P (◌≡◌ {A = Result Trees (Option Error)} (Ok x) (Ok a)) → x ≡ a
not_done false P x a e h = same_value h
not_done true P x a e h = absurd (let never = e in cc)

not_uncounted : (task : Task) (db x : Trees) (b : Bool) (o : Option Table) → b ≡ false → UncountsIn task db (if b then o else None) (Ok x) → x ≡ db
not_uncounted task db x false o e h = same_value h
not_uncounted task db x true o e h = absurd (let never = e in cc)

-- The statement drops a table to which no other refers, and the rows of the others stay.
pub drops_table : (before after : Schema) (rows : Trees) (at : ℕ) (table : Table) (text : List ℕ) (old new : State) (r : Result ℕ Error) → command_of (understood before text) ≡ DropTable at → IsPlain (understood before text)
    → statement_of text (understood before text) ≡ text → slice_get before.tables at ≡ Some table → ((keys : Keys) → is_acted_on before keys table ≡ false) → table.is_counted ≡ false → without_table before table.tree ≡ after
    → ((P : Table → Type 0) → AllByRecursion P before.tables → AllByRecursion P after.tables) → Executes text [] old new r → HasRows before rows old.now → OnOk r (HasRows after rows new.now)
drops_table before after rows at table text old new (Err e) is plain whole listed unacted uncounted after_is fewer h has = tt
drops_table before after rows at table text old new (Ok count) is plain whole listed unacted uncounted after_is fewer h has =
    let w = subst (λ t. Writes old new None (DropTable at) t [] count) whole (runs_as text [] old new before has.0 (DropTable at) is plain count h) in
    let at_schema = subst (λ s. Does old.step_limit (mode_of old) [] (record old.now { schema = s }) text None (DropTable at) (Ok (w.tally, new.now))) has.0 w.changed in
    let emptied = went (rw listed at at_schema) in
    let first : emptied.0 ≡ old.now.trees = not_done (is_acted_on before (mode_of old).keys table) _ emptied.0 old.now.trees (unacted (mode_of old).keys) emptied.1 in
    let counted = went emptied.2 in
    let task : Task = record { limit = old.step_limit; keys = (mode_of old).keys; schema = before; table = table; params = [] } in
    let second : counted.0 ≡ emptied.0 = not_uncounted task emptied.0 counted.0 table.is_counted (sequence before) uncounted counted.1 in
    let all = went (went counted.2).2 in
    let schema : all.0.schema ≡ after = all.1.0 ∙ after_is in
    let now : new.now ≡ all.0 = ap (λ (p : Tally × Database). p.1) (same_value all.2) in
    let kept = subst (λ (s : Schema). AllByRecursion (λ (t : Table). all.0.trees t.tree ≡ counted.0 t.tree) s.tables) after_is all.1.1 in
    let mine = subst (λ (d : Trees). AllByRecursion (λ (t : Table). all.0.trees t.tree ≡ d t.tree) after.tables) (second ∙ first) kept in
    let there = all_both (λ (t : Table). all.0.trees t.tree ≡ old.now.trees t.tree) (λ t. old.now.trees t.tree ≡ rows t.tree) (λ t. all.0.trees t.tree ≡ rows t.tree) (λ t p q. p ∙ q) after.tables mine (fewer (λ t. old.now.trees t.tree ≡ rows t.tree) has.1) in
    subst (HasRows after rows) (sym now) (schema, there)

abbrev source : ℕ → Row
source format = Int (pos 1) ∷ Null ∷ Int (pos format) ∷ Int (pos 0) ∷ []

abbrev first_edit : ℕ → Trees → Edit
first_edit format db = edit_of db (meta 0) [] Chosen 0 (source format ∷ [])

first_stored : (format : ℕ) (db : Trees) → db 0 ≡ [] → edited db (first_edit format db) ≡ source format ∷ []
first_stored format db none = rw (none, cast_int (pos 1), cast_null, cast_int (pos format), cast_int (pos 0))

none_acted : (db : Trees) → works first_schema Enforced 0 0 (taken_by db (first_edit 1 db)) (first_edit 1 db).news ≡ []
none_acted db = refl

acts_on_none : (db : Trees) → works dss_schema Enforced 0 0 (taken_by db (first_edit 2 db)) (first_edit 2 db).news ≡ []
acts_on_none db = refl

no_permutation : {X : Type 0} {ys zs : List X} → ys ≡ [] → zs ≡ [] → IsPermutation zs ys
no_permutation {X} a b = subst₂ (λ l m. IsPermutation {X = X} l m) (sym b) (sym a) (IsPermutation-refl [])

pub none_apart : (rows : List Row) → rows ≡ [] → AreApart rows
none_apart rows is = ([], tt, subst (λ rs. IsPermutation [] (map rowid rs)) (sym is) (IsPermutation-refl []))

none_fit : (format : Format) (rows : List Row) → rows ≡ [] → AreFit format rows
none_fit One rows is = none_apart rows is
none_fit TwoUnindexed rows is = none_apart rows is
none_fit Two rows is = none_apart rows is
none_fit OldOne rows is = tt
none_fit OldTwoUnindexed rows is = tt
none_fit OldTwo rows is = tt

none_of_length : {X : Type 0} (xs : List X) → length xs ≡ 0 → xs ≡ []
none_of_length [] e = refl
none_of_length (x ∷ xs) e = absurd (omega (arith, e))

pub no_entries : {K X : Type 0} (R : K → K → Ordering) → entries (empty {X = X} {R = R}) ≡ []
no_entries {K} {X} R = none_of_length _ (sym (len-entries (empty {X = X} {R = R})) ∙ len-empty R X)

-- Empty tables with the first row of `meta` represent an empty airspace.
pub spells_empty : (format : Format) (db : Database) → db.schema ≡ schema_of format → db.trees 0 ≡ source (format_number format) ∷ [] → db.trees 1 ≡ [] → db.trees 3 ≡ [] → db.trees 5 ≡ [] → availability_rows format db ≡ [] → later_rows format db 9 ≡ [] → later_rows format db 11 ≡ [] → later_rows format db 13 ≡ []
    → SpellsEmptyAs format db
spells_empty format db schema first one three five seven nine eleven thirteen = record {
  schema = schema;
  meta = ap (map meta_columns) first;
  most = omega arith;
  subs = [];
  subs_rising = tt;
  each_sub = tt;
  sub_rows = no_permutation (ap (map sub_columns) nine) refl;
  sub_cells = no_permutation (ap (map five_columns) eleven) refl;
  subs_kept = no_permutation (no_entries nat_cmp) refl;
  groups = [];
  rising = tt;
  each = tt;
  entities = no_permutation (ap (map entity_columns) one) refl;
  volumes = no_permutation (ap (map six_columns) three) refl;
  cells = no_permutation (ap (map six_columns) five) refl;
  namings = no_permutation (ap (map two_columns) thirteen) refl;
  kept = no_permutation (no_entries key_cmp) refl;
  availabilities = no_permutation (ap (map three_columns) seven) (ap (map availability_values) (no_entries text_cmp));
  stated = subst (AllByRecursion IsStated) (sym (no_entries text_cmp)) tt;
  apart = (none_apart _ three, none_apart _ five, none_fit format _ seven, none_fit format _ eleven);
}

pub starts_first : (old new : State) (r : Result ℕ Error) → Executes old_row_text [] old new r → IsBare first_schema old.now → OnOk r (SpellsEmptyAs One new.now)
starts_first old new (Err e) h bare = tt
starts_first old new (Ok count) h bare =
    let db = old.now.trees in
    let w = runs_as old_row_text [] old new first_schema bare.0 _ old_row_is old_row_plain count h in
    let u = inserts first_schema old new [] (meta 0) 0 _ 4 (statement_of old_row_text (understood first_schema old_row_text)) count bare.0 refl refl w in
    let rows : u.rows ≡ source 1 ∷ [] = u.given in
    let wrote = subst (λ rs. Acts first_schema Enforced db (edit_of db (meta 0) [] Chosen 0 rs) (Ok u.next)) rows u.wrote in
    let step = one_step first_schema Enforced db u.next (first_edit 1 db) (none_acted db) wrote in
    let at = λ (t : ℕ). ap (λ (d : Database). d.trees t) u.is in
    spells_empty One new.now (ap (λ (d : Database). d.schema) u.is) (at 0 ∙ step.rows ∙ first_stored 1 db bare.1.0)
    (at 1 ∙ step.tables.1.0 (λ e. cc) ∙ bare.1.1.0) (at 3 ∙ step.tables.1.1.0 (λ e. cc) ∙ bare.1.1.1.0) (at 5 ∙ step.tables.1.1.1.0 (λ e. cc) ∙ bare.1.1.1.1.0) (at 7 ∙ step.tables.1.1.1.1.0 (λ e. cc) ∙ bare.1.1.1.1.1.0) refl refl refl

pub starts : (old new : State) (r : Result ℕ Error) → Executes first_row_text [] old new r → IsBare dss_schema old.now → OnOk r (IsMade new.now)
starts old new (Err e) h bare = tt
starts old new (Ok count) h bare =
    let db = old.now.trees in
    let w = runs_as first_row_text [] old new dss_schema bare.0 _ first_row_is first_row_plain count h in
    let u = inserts dss_schema old new [] (meta 0) 0 _ 4 (statement_of first_row_text (understood dss_schema first_row_text)) count bare.0 refl refl w in
    let rows : u.rows ≡ source 2 ∷ [] = u.given in
    let wrote = subst (λ rs. Acts dss_schema Enforced db (edit_of db (meta 0) [] Chosen 0 rs) (Ok u.next)) rows u.wrote in
    let step = one_step dss_schema Enforced db u.next (first_edit 2 db) (acts_on_none db) wrote in
    let at = λ (t : ℕ). ap (λ (d : Database). d.trees t) u.is in
    let kept = step.tables.1 in
    let none = bare.1.1 in (
      w.sound,
      spells_empty Two new.now (ap (λ (d : Database). d.schema) u.is) (at 0 ∙ step.rows ∙ first_stored 2 db bare.1.0)
          (at 1 ∙ kept.0 (λ e. cc) ∙ none.0) (at 3 ∙ kept.1.0 (λ e. cc) ∙ none.1.0) (at 5 ∙ kept.1.1.0 (λ e. cc) ∙ none.1.1.0) (at 7 ∙ kept.1.1.1.0 (λ e. cc) ∙ none.1.1.1.0)
          (at 9 ∙ kept.1.1.1.1.0 (λ e. cc) ∙ none.1.1.1.1.0) (at 11 ∙ kept.1.1.1.1.1.0 (λ e. cc) ∙ none.1.1.1.1.1.0) (at 13 ∙ kept.1.1.1.1.1.1.0 (λ e. cc) ∙ none.1.1.1.1.1.1.0),
    )
