-- Proofs that a row is inserted into one of the tables.
use Rattle.std.proofs.Common.{◌≡◌, ◌/◌, ℕ, List, [], ◌∷◌, false, slice_get, length, Some, Ok, Err, Result, OnOk, refl, sym, subst, ◌∙◌}
use Rattle.sqlite.specs.declared.types.Value.TheVariants.{Null, Int, Text}
use Rattle.sqlite.specs.Order.{Row}
use Rattle.sqlite.specs.Term.{Term, lit, col}
use Rattle.sqlite_tied.specs.Compute.{everything}
use Rattle.sqlite.specs.Tree.{Trees}
use Rattle.sqlite_trees.specs.Tree.{put_row}
use Rattle.sqlite.specs.Edit.{Edit, edit_of}
use Rattle.sqlite_rules.specs.Edit.{taken_by, is_taken, next_rowid}
use Rattle.sqlite_rules.specs.Action.{works, Writes as Acts}
use Rattle.sqlite_schema.specs.declared.schema.Keys.TheVariants.{Enforced}
use Rattle.sqlite.specs.Table.{Table}
use Rattle.sqlite.specs.Effect.{Database, IsDatabase, value_rows}
use Rattle.sqlite.specs.Rows.{stamped}
use Rattle.sqlite.specs.Rowids.TheVariants.{Chosen}
use Rattle.sqlite.specs.Command.TheVariants.{Insert}
use Rattle.sqlite.specs.Source.TheVariants.{Values}
use Rattle.sqlite.specs.declared.error.Error.{Error}
use Rattle.sqlite.specs.Listing.{understood}
use Rattle.sqlite.specs.State.{State, Executes}
use Rattle.sqlite.proofs.Callers.{IsPlain, command_of, statement_of, runs_as, one_step}
use Rattle.entity_core.specs.Airspace.{VersionedAvailability}
use Rattle.space_rows.specs.declared.rows.EntityRow.{EntityRow}
use Rattle.space_rows.specs.declared.rows.VolumeRow.{VolumeRow}
use Rattle.space_rows.specs.declared.rows.CellRow.{CellRow}
use Rattle.space_rows.specs.declared.rows.SubRow.{SubRow}
use Rattle.space_rows.specs.declared.rows.SubCellRow.{SubCellRow}
use Rattle.space_sql_schema.specs.Tables.{dss_schema, entity, volume, cell, naming, subscription, subscription_cell, availability}
use Rattle.space_sql_schema.specs.Spelling.{entity_values, volume_values, cell_values, sub_values, sub_cell_values, availability_values, availability_number, entity_columns, six_columns, sub_columns, five_columns, two_columns, three_columns}
use Rattle.space_sql_schema.proofs.Steps.{cast_int, cast_null, inserts}
use Rattle.space_sql_write.specs.Layout.{Always, AreRows, LaysOut, Relays, Naming, values_of_naming, with_entity_row, with_volumes, with_cells, with_naming, with_sub_row, with_sub_cells, with_availability_row}
use Rattle.space_sql_write.proofs.Texts.{insert_row_text, insert_volume_text, insert_cell_text, insert_naming_text, insert_sub_row_text, insert_sub_cell_text, insert_availability_text}
use Rattle.space_sql_write.proofs.Relaying.{OthersStand, entities_relaid, volumes_relaid, cells_relaid, namings_relaid, subs_relaid, sub_cells_relaid, availabilities_relaid}
use Rattle.space_sql_write.proofs.Joining.{one_more}
use Rattle.space_sql_write.proofs.Selecting.{fresh_one, one_put}

-- Holds if one row was inserted, and it was new.
pub record Joined (old new : Database) (table : Table) (one : Row) : Type 0 where
  pub next : Trees
  pub is : new ≡ record { schema = dss_schema; trees = next }
  pub stand : OthersStand old.trees next table.tree
  pub fresh : is_taken (old.trees table.tree) one ≡ false
  pub rows : next table.tree ≡ put_row one (old.trees table.tree)
  pub sound : IsDatabase new

module _ (text : List ℕ) (params : Row) (table : Table) (at : ℕ) (terms : List Term) (width : ℕ) (source : Row) (listed : slice_get dss_schema.tables at ≡ Some table) (uncounted : table.is_counted ≡ false)
    (is : command_of (understood dss_schema text) ≡ Insert at (Values terms width)) (plain : IsPlain (understood dss_schema text)) (means : value_rows (stamped table params) width (length terms / width) terms ≡ source ∷ []) where
  abbrev puts : Trees → Edit
  puts db = edit_of db table [] Chosen 0 (source ∷ [])

  joined : (old new : State) (count : ℕ) (one : Row) → old.now.schema ≡ dss_schema → (puts old.now.trees).news ≡ one ∷ [] → works dss_schema Enforced 0 table.tree (taken_by old.now.trees (puts old.now.trees)) (puts old.now.trees).news ≡ []
      → Executes text params old new (Ok count) → Joined old.now new.now table one
  joined old new count one has news none h =
      let db = old.now.trees in
      let w = runs_as text params old new dss_schema has _ is plain count h in
      let u = inserts dss_schema old new params table at terms width (statement_of text (understood dss_schema text)) count has listed uncounted w in
      let rows : u.rows ≡ source ∷ [] = u.given ∙ means in
      let wrote = subst (λ rs. Acts dss_schema Enforced db (edit_of db table [] Chosen 0 rs) (Ok u.next)) rows u.wrote in
      let step = one_step dss_schema Enforced db u.next (puts db) none wrote in
      record {
        next = u.next;
        is = u.is;
        stand = step.tables;
        fresh = fresh_one db u.next (puts db) one news step;
        rows = one_put db u.next (puts db) one news step;
        sound = w.sound;
      }

-- ---- volumes

insert_volume_is : command_of (understood dss_schema insert_volume_text) ≡ Insert 2 (Values (lit Null ∷ col 0 0 ∷ col 0 1 ∷ col 0 2 ∷ col 0 3 ∷ col 0 4 ∷ col 0 5 ∷ []) 7)
unfolding understood everything
insert_volume_is = refl

insert_volume_plain : IsPlain (understood dss_schema insert_volume_text)
unfolding understood everything
insert_volume_plain = (refl, refl)

abbrev volume_source : VolumeRow → Row
volume_source r = Null ∷ volume_values r

abbrev stored_volume : Trees → VolumeRow → Row
stored_volume db r = Int (next_rowid (db 3)) ∷ volume_values r

new_volume : (db : Trees) (r : VolumeRow) → (edit_of db (volume 3) [] Chosen 0 (volume_source r ∷ [])).news ≡ stored_volume db r ∷ []
new_volume db r = rw (cast_int r.entity, cast_null, cast_int r.place, cast_int r.alt_lower, cast_int r.alt_upper, cast_int r.time_start, cast_int r.time_end)

volume_works : (db : Trees) (r : VolumeRow) → works dss_schema Enforced 0 3 (taken_by db (edit_of db (volume 3) [] Chosen 0 (volume_source r ∷ []))) (edit_of db (volume 3) [] Chosen 0 (volume_source r ∷ [])).news ≡ []
volume_works db r = refl

pub inserts_volume : (old new : State) (r : VolumeRow) (result : Result ℕ Error) → Executes insert_volume_text (volume_values r) old new result → OnOk result (Relays Always (with_volumes (r ∷ [])) old.now new.now)
inserts_volume old new r (Err e) h = tt
inserts_volume old new r (Ok count) h = λ l _ has.
    let db = old.now.trees in
    let it = joined insert_volume_text (volume_values r) (volume 3) 2 _ 7 (volume_source r) refl refl insert_volume_is insert_volume_plain refl old new count (stored_volume db r) has.schema (new_volume db r) (volume_works db r) h in
    let more = one_more volume_values six_columns l.volumes r (stored_volume db r) (next_rowid (db 3)) (db 3) refl refl it.fresh has.volumes in
    subst (λ d. LaysOut d (with_volumes (r ∷ []) l)) (sym it.is) (volumes_relaid old.now it.next l has it.stand _ (subst (AreRows volume_values six_columns _) (sym it.rows) more))

-- ---- cells

insert_cell_is : command_of (understood dss_schema insert_cell_text) ≡ Insert 3 (Values (lit Null ∷ col 0 0 ∷ col 0 1 ∷ col 0 2 ∷ col 0 3 ∷ col 0 4 ∷ col 0 5 ∷ []) 7)
unfolding understood everything
insert_cell_is = refl

insert_cell_plain : IsPlain (understood dss_schema insert_cell_text)
unfolding understood everything
insert_cell_plain = (refl, refl)

abbrev cell_source : CellRow → Row
cell_source r = Null ∷ cell_values r

abbrev stored_cell : Trees → CellRow → Row
stored_cell db r = Int (next_rowid (db 5)) ∷ cell_values r

new_cell : (db : Trees) (r : CellRow) → (edit_of db (cell 5) [] Chosen 0 (cell_source r ∷ [])).news ≡ stored_cell db r ∷ []
new_cell db r = rw (cast_int r.entity, cast_null, cast_int r.volume, cast_int r.place, cast_int r.lo, cast_int r.hi)

cell_works : (db : Trees) (r : CellRow) → works dss_schema Enforced 0 5 (taken_by db (edit_of db (cell 5) [] Chosen 0 (cell_source r ∷ []))) (edit_of db (cell 5) [] Chosen 0 (cell_source r ∷ [])).news ≡ []
cell_works db r = refl

pub inserts_cell : (old new : State) (r : CellRow) (result : Result ℕ Error) → Executes insert_cell_text (cell_values r) old new result → OnOk result (Relays Always (with_cells (r ∷ [])) old.now new.now)
inserts_cell old new r (Err e) h = tt
inserts_cell old new r (Ok count) h = λ l _ has.
    let db = old.now.trees in
    let it = joined insert_cell_text (cell_values r) (cell 5) 3 _ 7 (cell_source r) refl refl insert_cell_is insert_cell_plain refl old new count (stored_cell db r) has.schema (new_cell db r) (cell_works db r) h in
    let more = one_more cell_values six_columns l.cells r (stored_cell db r) (next_rowid (db 5)) (db 5) refl refl it.fresh has.cells in
    subst (λ d. LaysOut d (with_cells (r ∷ []) l)) (sym it.is) (cells_relaid old.now it.next l has it.stand _ (subst (AreRows cell_values six_columns _) (sym it.rows) more))

-- ---- cells of subscriptions

insert_sub_cell_is : command_of (understood dss_schema insert_sub_cell_text) ≡ Insert 6 (Values (lit Null ∷ col 0 0 ∷ col 0 1 ∷ col 0 2 ∷ col 0 3 ∷ col 0 4 ∷ []) 6)
unfolding understood everything
insert_sub_cell_is = refl

insert_sub_cell_plain : IsPlain (understood dss_schema insert_sub_cell_text)
unfolding understood everything
insert_sub_cell_plain = (refl, refl)

abbrev pub sub_cell_source : SubCellRow → Row
sub_cell_source r = Null ∷ sub_cell_values r

abbrev pub stored_sub_cell : Trees → SubCellRow → Row
stored_sub_cell db r = Int (next_rowid (db 11)) ∷ sub_cell_values r

new_sub_cell : (db : Trees) (r : SubCellRow) → (edit_of db (subscription_cell 11) [] Chosen 0 (sub_cell_source r ∷ [])).news ≡ stored_sub_cell db r ∷ []
new_sub_cell db r = rw (cast_int r.subscription, cast_null, cast_int r.place, cast_int r.lo, cast_int r.hi)

sub_cell_works : (db : Trees) (r : SubCellRow) → works dss_schema Enforced 0 11 (taken_by db (edit_of db (subscription_cell 11) [] Chosen 0 (sub_cell_source r ∷ []))) (edit_of db (subscription_cell 11) [] Chosen 0 (sub_cell_source r ∷ [])).news ≡ []
sub_cell_works db r = refl

pub joins_sub_cell : (old new : State) (r : SubCellRow) (count : ℕ) → old.now.schema ≡ dss_schema → Executes insert_sub_cell_text (sub_cell_values r) old new (Ok count) → Joined old.now new.now (subscription_cell 11) (stored_sub_cell old.now.trees r)
joins_sub_cell old new r count has h = joined insert_sub_cell_text (sub_cell_values r) (subscription_cell 11) 6 _ 6 (sub_cell_source r) refl refl insert_sub_cell_is insert_sub_cell_plain refl old new count (stored_sub_cell old.now.trees r) has (new_sub_cell old.now.trees r) (sub_cell_works old.now.trees r) h

pub inserts_sub_cell : (old new : State) (r : SubCellRow) (result : Result ℕ Error) → Executes insert_sub_cell_text (sub_cell_values r) old new result → OnOk result (Relays Always (with_sub_cells (r ∷ [])) old.now new.now)
inserts_sub_cell old new r (Err e) h = tt
inserts_sub_cell old new r (Ok count) h = λ l _ has.
    let db = old.now.trees in
    let it = joins_sub_cell old new r count has.schema h in
    let more = one_more sub_cell_values five_columns l.sub_cells r (stored_sub_cell db r) (next_rowid (db 11)) (db 11) refl refl it.fresh has.sub_cells in
    subst (λ d. LaysOut d (with_sub_cells (r ∷ []) l)) (sym it.is) (sub_cells_relaid old.now it.next l has it.stand _ (subst (AreRows sub_cell_values five_columns _) (sym it.rows) more))

-- ---- availabilities

insert_availability_is : command_of (understood dss_schema insert_availability_text) ≡ Insert 4 (Values (lit Null ∷ col 0 0 ∷ col 0 1 ∷ col 0 2 ∷ []) 4)
unfolding understood everything
insert_availability_is = refl

insert_availability_plain : IsPlain (understood dss_schema insert_availability_text)
unfolding understood everything
insert_availability_plain = (refl, refl)

abbrev pub availability_source : List ℕ × VersionedAvailability → Row
availability_source r = Null ∷ availability_values r

abbrev pub stored_availability : Trees → List ℕ × VersionedAvailability → Row
stored_availability db r = Int (next_rowid (db 7)) ∷ availability_values r

new_availability : (db : Trees) (r : List ℕ × VersionedAvailability) → (edit_of db (availability 7) [] Chosen 0 (availability_source r ∷ [])).news ≡ stored_availability db r ∷ []
new_availability db r = rw (cast_int (availability_number r.1.0), cast_null)

availability_works : (db : Trees) (r : List ℕ × VersionedAvailability) → works dss_schema Enforced 0 7 (taken_by db (edit_of db (availability 7) [] Chosen 0 (availability_source r ∷ []))) (edit_of db (availability 7) [] Chosen 0 (availability_source r ∷ [])).news ≡ []
availability_works db r = refl

pub joins_availability : (old new : State) (r : List ℕ × VersionedAvailability) (count : ℕ) → old.now.schema ≡ dss_schema → Executes insert_availability_text (availability_values r) old new (Ok count) → Joined old.now new.now (availability 7) (stored_availability old.now.trees r)
joins_availability old new r count has h = joined insert_availability_text (availability_values r) (availability 7) 4 _ 4 (availability_source r) refl refl insert_availability_is insert_availability_plain refl old new count (stored_availability old.now.trees r) has (new_availability old.now.trees r) (availability_works old.now.trees r) h

pub inserts_availability : (old new : State) (r : List ℕ × VersionedAvailability) (result : Result ℕ Error) → Executes insert_availability_text (availability_values r) old new result → OnOk result (Relays Always (with_availability_row r.0 r.1) old.now new.now)
inserts_availability old new r (Err e) h = tt
inserts_availability old new r (Ok count) h = λ l _ has.
    let db = old.now.trees in
    let it = joins_availability old new r count has.schema h in
    let more = one_more availability_values three_columns l.availabilities r (stored_availability db r) (next_rowid (db 7)) (db 7) refl refl it.fresh has.availabilities in
    subst (λ d. LaysOut d (with_availability_row r.0 r.1 l)) (sym it.is) (availabilities_relaid old.now it.next l has it.stand _ (subst (AreRows availability_values three_columns _) (sym it.rows) more))

-- ---- rows of `entity`, whose rowid is their number

insert_row_is : command_of (understood dss_schema insert_row_text) ≡ Insert 1 (Values (col 0 0 ∷ lit Null ∷ col 0 1 ∷ col 0 2 ∷ col 0 3 ∷ col 0 4 ∷ col 0 5 ∷ col 0 6 ∷ col 0 7 ∷ col 0 8 ∷ []) 10)
unfolding understood everything
insert_row_is = refl

insert_row_plain : IsPlain (understood dss_schema insert_row_text)
unfolding understood everything
insert_row_plain = (refl, refl)

abbrev row_source : EntityRow → Row
row_source r = Int r.num ∷ Null ∷ Int r.kind ∷ Text r.id ∷ Text r.manager ∷ Int r.state ∷ Int r.version ∷ Int r.serial ∷ Text r.ovn ∷ Text r.url ∷ []

abbrev stored_row : Trees → EntityRow → Row
stored_row db r = row_source r

new_row : (db : Trees) (r : EntityRow) → (edit_of db (entity 1) [] Chosen 0 (row_source r ∷ [])).news ≡ stored_row db r ∷ []
new_row db r = rw (cast_int r.num, cast_null, cast_int r.kind, cast_int r.state, cast_int r.version, cast_int r.serial)

row_works : (db : Trees) (r : EntityRow) → works dss_schema Enforced 0 1 (taken_by db (edit_of db (entity 1) [] Chosen 0 (row_source r ∷ []))) (edit_of db (entity 1) [] Chosen 0 (row_source r ∷ [])).news ≡ []
row_works db r = refl

pub inserts_row : (old new : State) (r : EntityRow) (result : Result ℕ Error) → Executes insert_row_text (entity_values r) old new result → OnOk result (Relays Always (with_entity_row r) old.now new.now)
inserts_row old new r (Err e) h = tt
inserts_row old new r (Ok count) h = λ l _ has.
    let db = old.now.trees in
    let it = joined insert_row_text (entity_values r) (entity 1) 1 _ 10 (row_source r) refl refl insert_row_is insert_row_plain refl old new count (stored_row db r) has.schema (new_row db r) (row_works db r) h in
    let more = one_more entity_values entity_columns l.entities r (stored_row db r) (r.num) (db 1) refl refl it.fresh has.entities in
    subst (λ d. LaysOut d (with_entity_row r l)) (sym it.is) (entities_relaid old.now it.next l has it.stand _ (subst (AreRows entity_values entity_columns _) (sym it.rows) more))

-- ---- rows of `subscription`, whose rowid is their number

insert_sub_row_is : command_of (understood dss_schema insert_sub_row_text) ≡ Insert 5 (Values (col 0 0 ∷ lit Null ∷ col 0 1 ∷ col 0 2 ∷ col 0 3 ∷ col 0 4 ∷ col 0 5 ∷ col 0 6 ∷ col 0 7 ∷ col 0 8 ∷ col 0 9 ∷ col 0 10 ∷ col 0 11 ∷ col 0 12 ∷ []) 14)
unfolding understood everything
insert_sub_row_is = refl

insert_sub_row_plain : IsPlain (understood dss_schema insert_sub_row_text)
unfolding understood everything
insert_sub_row_plain = (refl, refl)

abbrev pub sub_row_source : SubRow → Row
sub_row_source r = Int r.num ∷ Null ∷ Text r.id ∷ Text r.manager ∷ Int r.serial ∷ Text r.version ∷ Int r.notes ∷ Text r.url ∷ Int r.for_intents ∷ Int r.for_constraints ∷ Int r.alt_lower ∷ Int r.alt_upper ∷ Int r.time_start ∷ Int r.time_end ∷ []

abbrev pub stored_sub_row : Trees → SubRow → Row
stored_sub_row db r = sub_row_source r

new_sub_row : (db : Trees) (r : SubRow) → (edit_of db (subscription 9) [] Chosen 0 (sub_row_source r ∷ [])).news ≡ stored_sub_row db r ∷ []
new_sub_row db r = rw (cast_int r.num, cast_null, cast_int r.serial, cast_int r.notes, cast_int r.for_intents, cast_int r.for_constraints, cast_int r.alt_lower, cast_int r.alt_upper, cast_int r.time_start, cast_int r.time_end)

sub_row_works : (db : Trees) (r : SubRow) → works dss_schema Enforced 0 9 (taken_by db (edit_of db (subscription 9) [] Chosen 0 (sub_row_source r ∷ []))) (edit_of db (subscription 9) [] Chosen 0 (sub_row_source r ∷ [])).news ≡ []
sub_row_works db r = refl

pub joins_sub_row : (old new : State) (r : SubRow) (count : ℕ) → old.now.schema ≡ dss_schema → Executes insert_sub_row_text (sub_values r) old new (Ok count) → Joined old.now new.now (subscription 9) (stored_sub_row old.now.trees r)
joins_sub_row old new r count has h = joined insert_sub_row_text (sub_values r) (subscription 9) 5 _ 14 (sub_row_source r) refl refl insert_sub_row_is insert_sub_row_plain refl old new count (stored_sub_row old.now.trees r) has (new_sub_row old.now.trees r) (sub_row_works old.now.trees r) h

pub inserts_sub_row : (old new : State) (r : SubRow) (result : Result ℕ Error) → Executes insert_sub_row_text (sub_values r) old new result → OnOk result (Relays Always (with_sub_row r) old.now new.now)
inserts_sub_row old new r (Err e) h = tt
inserts_sub_row old new r (Ok count) h = λ l _ has.
    let db = old.now.trees in
    let it = joins_sub_row old new r count has.schema h in
    let more = one_more sub_values sub_columns l.subs r (stored_sub_row db r) (r.num) (db 9) refl refl it.fresh has.subs in
    subst (λ d. LaysOut d (with_sub_row r l)) (sym it.is) (subs_relaid old.now it.next l has it.stand _ (subst (AreRows sub_values sub_columns _) (sym it.rows) more))

-- ---- rows of `naming`, whose rowid is the number of the entity

insert_naming_is : command_of (understood dss_schema insert_naming_text) ≡ Insert 7 (Values (col 0 0 ∷ lit Null ∷ col 0 1 ∷ []) 3)
unfolding understood everything
insert_naming_is = refl

insert_naming_plain : IsPlain (understood dss_schema insert_naming_text)
unfolding understood everything
insert_naming_plain = (refl, refl)

abbrev pub naming_source : Naming → Row
naming_source r = Int r.0 ∷ Null ∷ Int r.1 ∷ []

abbrev pub stored_naming : Trees → Naming → Row
stored_naming db r = naming_source r

new_naming : (db : Trees) (r : Naming) → (edit_of db (naming 13) [] Chosen 0 (naming_source r ∷ [])).news ≡ stored_naming db r ∷ []
new_naming db r = rw (cast_int r.0, cast_null, cast_int r.1)

naming_works : (db : Trees) (r : Naming) → works dss_schema Enforced 0 13 (taken_by db (edit_of db (naming 13) [] Chosen 0 (naming_source r ∷ []))) (edit_of db (naming 13) [] Chosen 0 (naming_source r ∷ [])).news ≡ []
naming_works db r = refl

pub joins_naming : (old new : State) (r : Naming) (count : ℕ) → old.now.schema ≡ dss_schema → Executes insert_naming_text (values_of_naming r) old new (Ok count) → Joined old.now new.now (naming 13) (stored_naming old.now.trees r)
joins_naming old new r count has h = joined insert_naming_text (values_of_naming r) (naming 13) 7 _ 3 (naming_source r) refl refl insert_naming_is insert_naming_plain refl old new count (stored_naming old.now.trees r) has (new_naming old.now.trees r) (naming_works old.now.trees r) h

pub inserts_naming : (old new : State) (r : Naming) (result : Result ℕ Error) → Executes insert_naming_text (values_of_naming r) old new result → OnOk result (Relays Always (with_naming r.0 (Some r.1)) old.now new.now)
inserts_naming old new r (Err e) h = tt
inserts_naming old new r (Ok count) h = λ l _ has.
    let db = old.now.trees in
    let it = joins_naming old new r count has.schema h in
    let more = one_more values_of_naming two_columns l.namings r (stored_naming db r) (r.0) (db 13) refl refl it.fresh has.namings in
    subst (λ d. LaysOut d (with_naming r.0 (Some r.1) l)) (sym it.is) (namings_relaid old.now it.next l has it.stand _ (subst (AreRows values_of_naming two_columns _) (sym it.rows) more))
