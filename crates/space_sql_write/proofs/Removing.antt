-- Proofs that rows are removed, starting with those that refer to others.
use Rattle.std.proofs.Common.{◌≡◌, ℕ, ℤ, List, [], ◌∷◌, ◌&&◌, true, Ok, Err, Result, OnOk, refl, sym, ap, subst, ◌∙◌, int_eq}
use Rattle.sqlite_keyed.proofs.KeyedLemmas.{same_int}
use Rattle.sqlite_tied.specs.Compute.{everything}
use Rattle.sqlite.specs.declared.types.Value.TheVariants.{Int}
use Rattle.sqlite.specs.Order.{Row, column}
use Rattle.sqlite_sql.specs.declared.ops.BinaryOp.TheVariants.{Compare}
use Rattle.sqlite_sql.specs.declared.ops.CompareOp.TheVariants.{Eq}
use Rattle.sqlite_sql.specs.Ops.{binary, is_true}
use Rattle.sqlite_value.specs.declared.keys.Collation.TheVariants.{Binary}
use Rattle.sqlite.specs.Tree.{Trees}
use Rattle.sqlite_trees.specs.Tree.{rowid}
use Rattle.sqlite_trees.specs.View.{is_int}
use Rattle.sqlite.specs.Edit.{edit_of}
use Rattle.sqlite_rules.specs.Edit.{taken_by, id_in}
use Rattle.sqlite_rules.specs.Action.{works}
use Rattle.sqlite_rules.proofs.TableLemmas.{int_is}
use Rattle.sqlite_schema.specs.declared.schema.Keys.TheVariants.{Enforced}
use Rattle.sqlite.specs.Rowids.TheVariants.{Given}
use Rattle.sqlite.specs.declared.error.Error.{Error}
use Rattle.sqlite.specs.Effect.{IsDatabase}
use Rattle.sqlite.specs.State.{State, Executes}
use Rattle.sqlite.proofs.Callers.{one_step}
use Rattle.space_rows.specs.declared.rows.EntityRow.{EntityRow}
use Rattle.space_rows.specs.declared.rows.VolumeRow.{VolumeRow}
use Rattle.space_rows.specs.declared.rows.CellRow.{CellRow}
use Rattle.space_rows.specs.declared.rows.SubRow.{SubRow}
use Rattle.space_rows.specs.declared.rows.SubCellRow.{SubCellRow}
use Rattle.space_sql_schema.specs.Tables.{dss_schema, cell, volume, entity, naming, subscription, subscription_cell}
use Rattle.space_sql_schema.specs.Spelling.{entity_values, volume_values, cell_values, sub_values, sub_cell_values, entity_columns, six_columns, sub_columns, five_columns, two_columns}
use Rattle.space_sql_write.specs.Layout.{Always, AreRows, Layout, LaysOut, Relays, Naming, values_of_naming, LacksCells, LacksParts, IsFree, without_cells, without_volumes, without_naming, without_entity_row, without_sub_cells, without_sub_row}
use Rattle.space_sql_write.specs.Statements.{RelaysSound}
use Rattle.space_sql_write.proofs.Texts.{clear_cells_text, clear_volumes_text, clear_naming_text, clear_row_text, clear_sub_cells_text, clear_sub_row_text}
use Rattle.space_sql_write.proofs.Means.{is_first, clear_cells_is, clear_cells_plain, clear_volumes_is, clear_volumes_plain, clear_naming_is, clear_naming_plain, clear_row_is, clear_row_plain, clear_sub_cells_is, clear_sub_cells_plain, clear_sub_row_is, clear_sub_row_plain}
use Rattle.space_sql_write.proofs.Lists.{all_there}
use Rattle.space_sql_write.proofs.Selecting.{clears_table}
use Rattle.space_sql_write.proofs.Cascades.{taken_have, volumes_quiet, entity_quiet, sub_quiet}
use Rattle.space_sql_write.proofs.Clear.{pair_apart}
use Rattle.space_sql_write.proofs.Relaying.{cells_relaid, volumes_relaid, namings_relaid, entities_relaid, sub_cells_relaid, subs_relaid}
use Rattle.space_sql_write.proofs.Rows.{bears, bears_number, rows_left, rows_numbered, rows_other}

number_of_row : (num : ℤ) (r : Row) → (k : ℤ) × (column r 1 ≡ Int k) → bears 1 num r ≡ true → column r 1 ≡ Int num
number_of_row num r it e =
    let equal : int_eq it.0 num ≡ true = sym (bears_number it.0 num) ∙ (ap (λ v. is_true (binary (Compare Eq Binary) v (Int num)) && true) (sym it.1) ∙ e) in
    it.1 ∙ ap Int (same_int it.0 num equal)

head_number : (num : ℤ) (r : Row) → is_int (rowid r) ≡ true → bears 0 num r ≡ true → column r 0 ≡ Int num
head_number num r int e =
    let is : rowid r ≡ Int (id_in (rowid r)) = int_is (rowid r) int in
    let equal : int_eq (id_in (rowid r)) num ≡ true = sym (bears_number (id_in (rowid r)) num) ∙ (ap (λ v. is_true (binary (Compare Eq Binary) v (Int num)) && true) (sym is) ∙ e) in
    is ∙ ap Int (same_int (id_in (rowid r)) num equal)

-- ---- rows without references to them

no_cells_works : (db : Trees) (ids : List ℤ) → works dss_schema Enforced 0 5 (taken_by db (edit_of db (cell 5) ids Given 0 [])) [] ≡ []
unfolding everything
no_cells_works db ids = refl

pub clears_cells : (old new : State) (num : ℤ) (r : Result ℕ Error) → Executes clear_cells_text (Int num ∷ []) old new r → OnOk r (Relays Always (without_cells num) old.now new.now)
clears_cells old new num (Err e) h = tt
clears_cells old new num (Ok count) h = λ l _ has.
    let db = old.now.trees in
    let u = clears_table clear_cells_text (Int num ∷ []) (cell 5) 3 (is_first 1) refl clear_cells_is clear_cells_plain old new count has.schema has.cells.apart refl h
    (λ ids next same wrote. one_step dss_schema Enforced db next (edit_of db (cell 5) ids Given 0 []) (no_cells_works db ids) wrote) in
    let left = rows_left 0 cell_values (λ (r : CellRow). r.entity) (λ r. refl) six_columns l.cells (db 5) has.cells num in
    subst (λ d. LaysOut d (without_cells num l)) (sym u.is) (cells_relaid old.now u.next l has u.step.tables _ (subst (AreRows cell_values six_columns _) (sym u.rows) left))

no_naming_works : (db : Trees) (ids : List ℤ) → works dss_schema Enforced 0 13 (taken_by db (edit_of db (naming 13) ids Given 0 [])) [] ≡ []
unfolding everything
no_naming_works db ids = refl

pub clears_naming : (old new : State) (num : ℤ) (r : Result ℕ Error) → Executes clear_naming_text (Int num ∷ []) old new r → OnOk r (Relays Always (without_naming num) old.now new.now)
clears_naming old new num (Err e) h = tt
clears_naming old new num (Ok count) h = λ l _ has.
    let db = old.now.trees in
    let u = clears_table clear_naming_text (Int num ∷ []) (naming 13) 7 (is_first 0) refl clear_naming_is clear_naming_plain old new count has.schema has.namings.apart refl h
    (λ ids next same wrote. one_step dss_schema Enforced db next (edit_of db (naming 13) ids Given 0 []) (no_naming_works db ids) wrote) in
    let left = rows_left 0 values_of_naming (λ (r : Naming). r.0) (λ r. refl) two_columns l.namings (db 13) has.namings num in
    subst (λ d. LaysOut d (without_naming num l)) (sym u.is) (namings_relaid old.now u.next l has u.step.tables _ (subst (AreRows values_of_naming two_columns _) (sym u.rows) left))

no_sub_cells_works : (db : Trees) (ids : List ℤ) → works dss_schema Enforced 0 11 (taken_by db (edit_of db (subscription_cell 11) ids Given 0 [])) [] ≡ []
unfolding everything
no_sub_cells_works db ids = refl

pub clears_sub_cells : (old new : State) (num : ℤ) (r : Result ℕ Error) → Executes clear_sub_cells_text (Int num ∷ []) old new r → OnOk r (Relays Always (without_sub_cells num) old.now new.now)
clears_sub_cells old new num (Err e) h = tt
clears_sub_cells old new num (Ok count) h = λ l _ has.
    let db = old.now.trees in
    let u = clears_table clear_sub_cells_text (Int num ∷ []) (subscription_cell 11) 6 (is_first 1) refl clear_sub_cells_is clear_sub_cells_plain old new count has.schema has.sub_cells.apart refl h
    (λ ids next same wrote. one_step dss_schema Enforced db next (edit_of db (subscription_cell 11) ids Given 0 []) (no_sub_cells_works db ids) wrote) in
    let left = rows_left 0 sub_cell_values (λ (r : SubCellRow). r.subscription) (λ r. refl) five_columns l.sub_cells (db 11) has.sub_cells num in
    subst (λ d. LaysOut d (without_sub_cells num l)) (sym u.is) (sub_cells_relaid old.now u.next l has u.step.tables _ (subst (AreRows sub_cell_values five_columns _) (sym u.rows) left))

-- ---- volumes without cells

pub clears_volumes : (old new : State) (num : ℤ) (r : Result ℕ Error) → Executes clear_volumes_text (Int num ∷ []) old new r → OnOk r (Relays (LacksCells num) (without_volumes num) old.now new.now)
clears_volumes old new num (Err e) h = tt
clears_volumes old new num (Ok count) h = λ l gone has.
    let db = old.now.trees in
    let pairs = pair_apart (db 3) has.volumes.apart in
    let numbers = rows_numbered 0 volume_values (λ (v : VolumeRow). v.entity) (λ v. refl) six_columns l.volumes (db 3) has.volumes in
    let none = rows_other 0 cell_values (λ (c : CellRow). c.entity) (λ c. refl) six_columns l.cells (db 5) has.cells num gone in
    let u = clears_table clear_volumes_text (Int num ∷ []) (volume 3) 2 (is_first 1) refl clear_volumes_is clear_volumes_plain old new count has.schema has.volumes.apart refl h
    (λ ids next same wrote. volumes_quiet db next ids num (taken_have (λ m. column m 1 ≡ Int num) (bears 1 num) (db 3) ids pairs same (λ r there e. number_of_row num r (all_there (λ r. (k : ℤ) × (column r 1 ≡ Int k)) (db 3) numbers r there) e)) none wrote) in
    let left = rows_left 0 volume_values (λ (r : VolumeRow). r.entity) (λ r. refl) six_columns l.volumes (db 3) has.volumes num in
    subst (λ d. LaysOut d (without_volumes num l)) (sym u.is) (volumes_relaid old.now u.next l has u.step.tables _ (subst (AreRows volume_values six_columns _) (sym u.rows) left))

-- ---- the row of an entity without volumes and references

row_cleared : (old new : State) (num : ℤ) (count : ℕ) → Executes clear_row_text (Int num ∷ []) old new (Ok count) → (l : Layout) → LacksParts num l → LaysOut old.now l → LaysOut new.now (without_entity_row num l) × IsDatabase new.now
row_cleared old new num count h l gone has =
    let db = old.now.trees in
    let pairs = pair_apart (db 1) has.entities.apart in
    let none = rows_other 0 volume_values (λ (v : VolumeRow). v.entity) (λ v. refl) six_columns l.volumes (db 3) has.volumes num gone.0 in
    let unnamed = rows_other 0 values_of_naming (λ (n : Naming). n.0) (λ n. refl) two_columns l.namings (db 13) has.namings num gone.1 in
    let u = clears_table clear_row_text (Int num ∷ []) (entity 1) 1 (is_first 0) refl clear_row_is clear_row_plain old new count has.schema has.entities.apart refl h
    (λ ids next same wrote. entity_quiet db next ids num (taken_have (λ m. column m 0 ≡ Int num) (bears 0 num) (db 1) ids pairs same (λ r there e. head_number num r (pairs.numbers r there) e)) none unnamed wrote) in
    let left = rows_left 0 entity_values (λ (r : EntityRow). r.num) (λ r. refl) entity_columns l.entities (db 1) has.entities num in
    (subst (λ d. LaysOut d (without_entity_row num l)) (sym u.is) (entities_relaid old.now u.next l has u.step.tables _ (subst (AreRows entity_values entity_columns _) (sym u.rows) left)), u.sound)

pub clears_row : (old new : State) (num : ℤ) (r : Result ℕ Error) → Executes clear_row_text (Int num ∷ []) old new r → OnOk r (RelaysSound (LacksParts num) (without_entity_row num) old.now new.now)
clears_row old new num (Err e) h = tt
clears_row old new num (Ok count) h = ((λ l gone has. (row_cleared old new num count h l gone has).0), (λ l gone has. (row_cleared old new num count h l gone has).1))

-- ---- the row of a subscription without cells that no entity references

sub_row_cleared : (old new : State) (num : ℤ) (count : ℕ) → Executes clear_sub_row_text (Int num ∷ []) old new (Ok count) → (l : Layout) → IsFree num l → LaysOut old.now l → LaysOut new.now (without_sub_row num l) × IsDatabase new.now
sub_row_cleared old new num count h l gone has =
    let db = old.now.trees in
    let pairs = pair_apart (db 9) has.subs.apart in
    let none = rows_other 0 sub_cell_values (λ (c : SubCellRow). c.subscription) (λ c. refl) five_columns l.sub_cells (db 11) has.sub_cells num gone.0 in
    let unnamed = rows_other 1 values_of_naming (λ (n : Naming). n.1) (λ n. refl) two_columns l.namings (db 13) has.namings num gone.1 in
    let u = clears_table clear_sub_row_text (Int num ∷ []) (subscription 9) 5 (is_first 0) refl clear_sub_row_is clear_sub_row_plain old new count has.schema has.subs.apart refl h
    (λ ids next same wrote. sub_quiet db next ids num (taken_have (λ m. column m 0 ≡ Int num) (bears 0 num) (db 9) ids pairs same (λ r there e. head_number num r (pairs.numbers r there) e)) none unnamed wrote) in
    let left = rows_left 0 sub_values (λ (r : SubRow). r.num) (λ r. refl) sub_columns l.subs (db 9) has.subs num in
    (subst (λ d. LaysOut d (without_sub_row num l)) (sym u.is) (subs_relaid old.now u.next l has u.step.tables _ (subst (AreRows sub_values sub_columns _) (sym u.rows) left)), u.sound)

pub clears_sub_row : (old new : State) (num : ℤ) (r : Result ℕ Error) → Executes clear_sub_row_text (Int num ∷ []) old new r → OnOk r (RelaysSound (IsFree num) (without_sub_row num) old.now new.now)
clears_sub_row old new num (Err e) h = tt
clears_sub_row old new num (Ok count) h = ((λ l gone has. (sub_row_cleared old new num count h l gone has).0), (λ l gone has. (sub_row_cleared old new num count h l gone has).1))
