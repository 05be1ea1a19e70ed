-- Proofs that a row is inserted into a table that was created anew.
use Rattle.std.proofs.Common.{◌≡◌, ℕ, [], ◌∷◌, Ok, Err, Result, OnOk, refl, sym, ap, subst, ◌∙◌}
use Rattle.sqlite.specs.Effect.{Database}
use Rattle.sqlite.specs.Tree.{Trees}
use Rattle.sqlite.specs.declared.error.Error.{Error}
use Rattle.sqlite.specs.State.{State, Executes}
use Rattle.sqlite_rules.specs.Edit.{next_rowid}
use Rattle.space_rows.specs.declared.rows.SubRow.{SubRow}
use Rattle.space_rows.specs.declared.rows.SubCellRow.{SubCellRow}
use Rattle.space_sql_schema.specs.Spelling.{sub_values, sub_cell_values, sub_columns, five_columns, two_columns, three_columns}
use Rattle.space_sql_select.specs.AvailabilityRecord.{stated_by}
use Rattle.space_sql_select.specs.Rows.{values_of_naming}
use Rattle.space_sql_select.specs.declared.availability_record.AvailabilityRecord.{AvailabilityRecord}
use Rattle.space_sql_select.specs.declared.sub_rows.NamingRow.{NamingRow}
use Rattle.space_sql_write.specs.Layout.{AreRows}
use Rattle.space_sql_write.proofs.Texts.{insert_naming_text, insert_sub_row_text, insert_sub_cell_text, insert_availability_text}
use Rattle.space_sql_write.proofs.Joining.{one_more}
use Rattle.space_sql_write.proofs.Inserting.{joins_sub_row, joins_sub_cell, joins_naming, joins_availability, stored_sub_row, stored_sub_cell, stored_naming, stored_availability}
use Rattle.space_sql_open.specs.OldRows.{record_values}
use Rattle.space_sql_open.specs.Relaying.{Listed, HasListed, Puts, with_subs, with_cells, with_namings, with_settings}

module _ (old new : Database) (four next : Trees) (l : Listed) (is : new.trees ≡ next) (has : HasListed four l old) where
  at : (t : ℕ) → new.trees t ≡ next t
  at t = ap (λ (db : Trees). db t) is

  settings_stay : next 7 ≡ old.trees 7 → AreRows record_values three_columns l.settings (new.trees 7)
  settings_stay same = subst (AreRows record_values three_columns l.settings) (sym (at 7 ∙ same)) has.settings

  subs_stay : next 9 ≡ old.trees 9 → AreRows sub_values sub_columns l.subs (new.trees 9)
  subs_stay same = subst (AreRows sub_values sub_columns l.subs) (sym (at 9 ∙ same)) has.subs

  sub_cells_stay : next 11 ≡ old.trees 11 → AreRows sub_cell_values five_columns l.cells (new.trees 11)
  sub_cells_stay same = subst (AreRows sub_cell_values five_columns l.cells) (sym (at 11 ∙ same)) has.sub_cells

  namings_stay : next 13 ≡ old.trees 13 → AreRows values_of_naming two_columns l.namings (new.trees 13)
  namings_stay same = subst (AreRows values_of_naming two_columns l.namings) (sym (at 13 ∙ same)) has.namings

pub puts_sub : (old new : State) (r : SubRow) (result : Result ℕ Error) → Executes insert_sub_row_text (sub_values r) old new result → OnOk result (Puts (with_subs (r ∷ [])) old.now new.now)
puts_sub old new r (Err e) h = tt
puts_sub old new r (Ok count) h = λ four l has.
    let db = old.now.trees in
    let it = joins_sub_row old new r count has.schema h in
    let trees : new.now.trees ≡ it.next = ap (λ (d : Database). d.trees) it.is in
    let at_next = λ (t : ℕ). ap (λ (d : Trees). d t) trees in
    let more = one_more sub_values sub_columns l.subs r (stored_sub_row db r) r.num (db 9) refl refl it.fresh has.subs in
    record {
      schema = ap (λ (d : Database). d.schema) it.is;
      meta = at_next 0 ∙ (it.stand.0 (λ e. cc) ∙ has.meta);
      entities = at_next 1 ∙ (it.stand.1.0 (λ e. cc) ∙ has.entities);
      volumes = at_next 3 ∙ (it.stand.1.1.0 (λ e. cc) ∙ has.volumes);
      cells = at_next 5 ∙ (it.stand.1.1.1.0 (λ e. cc) ∙ has.cells);
      settings = settings_stay old.now new.now four it.next l trees has (it.stand.1.1.1.1.0 (λ e. cc));
      subs = subst (AreRows sub_values sub_columns _) (sym (at_next 9 ∙ it.rows)) more;
      sub_cells = sub_cells_stay old.now new.now four it.next l trees has (it.stand.1.1.1.1.1.1.0 (λ e. cc));
      namings = namings_stay old.now new.now four it.next l trees has (it.stand.1.1.1.1.1.1.1.0 (λ e. cc));
      sound = it.sound;
    }

pub puts_cell : (old new : State) (r : SubCellRow) (result : Result ℕ Error) → Executes insert_sub_cell_text (sub_cell_values r) old new result → OnOk result (Puts (with_cells (r ∷ [])) old.now new.now)
puts_cell old new r (Err e) h = tt
puts_cell old new r (Ok count) h = λ four l has.
    let db = old.now.trees in
    let it = joins_sub_cell old new r count has.schema h in
    let trees : new.now.trees ≡ it.next = ap (λ (d : Database). d.trees) it.is in
    let at_next = λ (t : ℕ). ap (λ (d : Trees). d t) trees in
    let more = one_more sub_cell_values five_columns l.cells r (stored_sub_cell db r) (next_rowid (db 11)) (db 11) refl refl it.fresh has.sub_cells in
    record {
      schema = ap (λ (d : Database). d.schema) it.is;
      meta = at_next 0 ∙ (it.stand.0 (λ e. cc) ∙ has.meta);
      entities = at_next 1 ∙ (it.stand.1.0 (λ e. cc) ∙ has.entities);
      volumes = at_next 3 ∙ (it.stand.1.1.0 (λ e. cc) ∙ has.volumes);
      cells = at_next 5 ∙ (it.stand.1.1.1.0 (λ e. cc) ∙ has.cells);
      settings = settings_stay old.now new.now four it.next l trees has (it.stand.1.1.1.1.0 (λ e. cc));
      subs = subs_stay old.now new.now four it.next l trees has (it.stand.1.1.1.1.1.0 (λ e. cc));
      sub_cells = subst (AreRows sub_cell_values five_columns _) (sym (at_next 11 ∙ it.rows)) more;
      namings = namings_stay old.now new.now four it.next l trees has (it.stand.1.1.1.1.1.1.1.0 (λ e. cc));
      sound = it.sound;
    }

pub puts_naming : (old new : State) (r : NamingRow) (result : Result ℕ Error) → Executes insert_naming_text (values_of_naming r) old new result → OnOk result (Puts (with_namings (r ∷ [])) old.now new.now)
puts_naming old new r (Err e) h = tt
puts_naming old new r (Ok count) h = λ four l has.
    let db = old.now.trees in
    let it = joins_naming old new (r.entity, r.subscription) count has.schema h in
    let trees : new.now.trees ≡ it.next = ap (λ (d : Database). d.trees) it.is in
    let at_next = λ (t : ℕ). ap (λ (d : Trees). d t) trees in
    let more = one_more values_of_naming two_columns l.namings r (stored_naming db (r.entity, r.subscription)) r.entity (db 13) refl refl it.fresh has.namings in
    record {
      schema = ap (λ (d : Database). d.schema) it.is;
      meta = at_next 0 ∙ (it.stand.0 (λ e. cc) ∙ has.meta);
      entities = at_next 1 ∙ (it.stand.1.0 (λ e. cc) ∙ has.entities);
      volumes = at_next 3 ∙ (it.stand.1.1.0 (λ e. cc) ∙ has.volumes);
      cells = at_next 5 ∙ (it.stand.1.1.1.0 (λ e. cc) ∙ has.cells);
      settings = settings_stay old.now new.now four it.next l trees has (it.stand.1.1.1.1.0 (λ e. cc));
      subs = subs_stay old.now new.now four it.next l trees has (it.stand.1.1.1.1.1.0 (λ e. cc));
      sub_cells = sub_cells_stay old.now new.now four it.next l trees has (it.stand.1.1.1.1.1.1.0 (λ e. cc));
      namings = subst (AreRows values_of_naming two_columns _) (sym (at_next 13 ∙ it.rows)) more;
      sound = it.sound;
    }

pub puts_setting : (old new : State) (r : AvailabilityRecord) (result : Result ℕ Error) → Executes insert_availability_text (record_values r) old new result → OnOk result (Puts (with_settings (r ∷ [])) old.now new.now)
puts_setting old new r (Err e) h = tt
puts_setting old new r (Ok count) h = λ four l has.
    let db = old.now.trees in
    let it = joins_availability old new (stated_by r) count has.schema h in
    let trees : new.now.trees ≡ it.next = ap (λ (d : Database). d.trees) it.is in
    let at_next = λ (t : ℕ). ap (λ (d : Trees). d t) trees in
    let more = one_more record_values three_columns l.settings r (stored_availability db (stated_by r)) (next_rowid (db 7)) (db 7) refl refl it.fresh has.settings in
    record {
      schema = ap (λ (d : Database). d.schema) it.is;
      meta = at_next 0 ∙ (it.stand.0 (λ e. cc) ∙ has.meta);
      entities = at_next 1 ∙ (it.stand.1.0 (λ e. cc) ∙ has.entities);
      volumes = at_next 3 ∙ (it.stand.1.1.0 (λ e. cc) ∙ has.volumes);
      cells = at_next 5 ∙ (it.stand.1.1.1.0 (λ e. cc) ∙ has.cells);
      settings = subst (AreRows record_values three_columns _) (sym (at_next 7 ∙ it.rows)) more;
      subs = subs_stay old.now new.now four it.next l trees has (it.stand.1.1.1.1.1.0 (λ e. cc));
      sub_cells = sub_cells_stay old.now new.now four it.next l trees has (it.stand.1.1.1.1.1.1.0 (λ e. cc));
      namings = namings_stay old.now new.now four it.next l trees has (it.stand.1.1.1.1.1.1.1.0 (λ e. cc));
      sound = it.sound;
    }
