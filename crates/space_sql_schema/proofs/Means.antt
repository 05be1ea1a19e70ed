-- Proofs of what the statements mean.
use Rattle.std.proofs.Common.{◌≡◌, Ok, refl, [], ◌∷◌, pos, false}
use Rattle.sqlite.specs.declared.types.Value.TheVariants.{Null, Int}
use Rattle.sqlite.specs.Compile.{table_defined_by}
use Rattle.sqlite_resolve.specs.Compile.{index_defined_by}
use Rattle.sqlite_tied.specs.Compute.{everything}
use Rattle.sqlite.specs.Listing.{understood}
use Rattle.sqlite_schema.specs.declared.schema.Keys.{Keys}
use Rattle.sqlite.specs.Does.{is_acted_on}
use Rattle.sqlite_catalog.specs.Change.{created, indexed, without_index, without_table}
use Rattle.sqlite.proofs.Callers.{IsPlain, command_of, statement_of}
use Rattle.sqlite.specs.Command.TheVariants.{Insert, Update, CreateTable, CreateIndex, DropIndex, DropTable}
use Rattle.sqlite.specs.Source.TheVariants.{Values}
use Rattle.std.proofs.Common.{List}
use Rattle.sqlite.specs.Term.{Term, lit, col}
use Rattle.space_sql_schema.specs.Tables.{meta, entity, volume, cell, availability, cell_range, subscription, subscription_cell, subscription_cell_range, naming, naming_subscription, first_schema, unindexed_schema, second_schema, dss_schema, no_schema, schema_1, schema_2, schema_3, schema_4, schema_5, schema_6, schema_7, schema_8, schema_9, old_first_schema, old_unindexed_schema, old_second_schema, old_schema_4, old_schema_6, old_schema_7}
use Rattle.space_sql_schema.proofs.Selecting.{query_of, is_one}
use Rattle.space_sql_schema.proofs.Texts.{meta_text, entity_text, volume_text, cell_text, availability_text, range_text, drop_range_text, drop_naming_index_text, drop_naming_text, drop_subscription_cell_text, drop_subscription_text, drop_availability_text, old_row_text, first_row_text, subscription_text, subscription_cell_text, subscription_range_text, naming_text, naming_index_text, set_format_text}

pub meta_is : table_defined_by meta_text ≡ Ok (meta 0)
unfolding everything
meta_is = refl

pub entity_is : table_defined_by entity_text ≡ Ok (entity 0)
unfolding everything
entity_is = refl

pub volume_is : table_defined_by volume_text ≡ Ok (volume 0)
unfolding everything
volume_is = refl

pub cell_is : table_defined_by cell_text ≡ Ok (cell 0)
unfolding everything
cell_is = refl

pub availability_is : table_defined_by availability_text ≡ Ok (availability 0)
unfolding everything
availability_is = refl

pub index_is : index_defined_by (cell 5) range_text ≡ Ok (cell_range 0 5)
unfolding everything
index_is = refl

pub meta_made : (command_of (understood no_schema meta_text) ≡ CreateTable) × IsPlain (understood no_schema meta_text) × (statement_of meta_text (understood no_schema meta_text) ≡ meta_text) × (created no_schema (meta 0) ≡ schema_1)
unfolding understood everything
meta_made = (refl, (refl, refl), refl, refl)

pub entity_made : (command_of (understood schema_1 entity_text) ≡ CreateTable) × IsPlain (understood schema_1 entity_text) × (statement_of entity_text (understood schema_1 entity_text) ≡ entity_text) × (created schema_1 (entity 0) ≡ schema_2)
unfolding understood everything
entity_made = (refl, (refl, refl), refl, refl)

pub volume_made : (command_of (understood schema_2 volume_text) ≡ CreateTable) × IsPlain (understood schema_2 volume_text) × (statement_of volume_text (understood schema_2 volume_text) ≡ volume_text) × (created schema_2 (volume 0) ≡ schema_3)
unfolding understood everything
volume_made = (refl, (refl, refl), refl, refl)

pub cell_made : (command_of (understood schema_3 cell_text) ≡ CreateTable) × IsPlain (understood schema_3 cell_text) × (statement_of cell_text (understood schema_3 cell_text) ≡ cell_text) × (created schema_3 (cell 0) ≡ schema_4)
unfolding understood everything
cell_made = (refl, (refl, refl), refl, refl)

pub availability_made : (command_of (understood schema_4 availability_text) ≡ CreateTable) × IsPlain (understood schema_4 availability_text) × (statement_of availability_text (understood schema_4 availability_text) ≡ availability_text) × (created schema_4 (availability 0) ≡ schema_5)
unfolding understood everything
availability_made = (refl, (refl, refl), refl, refl)

pub first_range_made : (command_of (understood schema_5 range_text) ≡ CreateIndex 3) × IsPlain (understood schema_5 range_text) × (statement_of range_text (understood schema_5 range_text) ≡ range_text) × (indexed schema_5 (cell 5) (cell_range 0 5) ≡ first_schema)
unfolding understood everything
first_range_made = (refl, (refl, refl), refl, refl)

pub range_dropped : (command_of (understood first_schema drop_range_text) ≡ DropIndex 4) × IsPlain (understood first_schema drop_range_text) × (statement_of drop_range_text (understood first_schema drop_range_text) ≡ drop_range_text) × (without_index first_schema 9 ≡ schema_5)
unfolding understood everything
range_dropped = (refl, (refl, refl), refl, refl)

pub old_row_is : command_of (understood first_schema old_row_text) ≡ Insert 0 (Values (lit (Int (pos 1)) ∷ lit Null ∷ lit (Int (pos 1)) ∷ lit (Int (pos 0)) ∷ []) 4)
unfolding understood everything
old_row_is = refl

pub old_row_plain : IsPlain (understood first_schema old_row_text)
unfolding understood everything
old_row_plain = (refl, refl)

pub first_row_is : command_of (understood dss_schema first_row_text) ≡ Insert 0 (Values (lit (Int (pos 1)) ∷ lit Null ∷ lit (Int (pos 2)) ∷ lit (Int (pos 0)) ∷ []) 4)
unfolding understood everything
first_row_is = refl

pub first_row_plain : IsPlain (understood dss_schema first_row_text)
unfolding understood everything
first_row_plain = (refl, refl)

-- ---- the tables of format 2

pub subscription_is : table_defined_by subscription_text ≡ Ok (subscription 0)
unfolding everything
subscription_is = refl

pub subscription_cell_is : table_defined_by subscription_cell_text ≡ Ok (subscription_cell 0)
unfolding everything
subscription_cell_is = refl

pub naming_is : table_defined_by naming_text ≡ Ok (naming 0)
unfolding everything
naming_is = refl

pub subscription_index_is : index_defined_by (subscription_cell 11) subscription_range_text ≡ Ok (subscription_cell_range 0 11)
unfolding everything
subscription_index_is = refl

pub subscription_made : (command_of (understood schema_5 subscription_text) ≡ CreateTable) × IsPlain (understood schema_5 subscription_text) × (statement_of subscription_text (understood schema_5 subscription_text) ≡ subscription_text) × (created schema_5 (subscription 0) ≡ schema_6)
unfolding understood everything
subscription_made = (refl, (refl, refl), refl, refl)

pub subscription_cell_made : (command_of (understood schema_6 subscription_cell_text) ≡ CreateTable) × IsPlain (understood schema_6 subscription_cell_text) × (statement_of subscription_cell_text (understood schema_6 subscription_cell_text) ≡ subscription_cell_text) × (created schema_6 (subscription_cell 0) ≡ schema_7)
unfolding understood everything
subscription_cell_made = (refl, (refl, refl), refl, refl)

pub naming_made : (command_of (understood schema_7 naming_text) ≡ CreateTable) × IsPlain (understood schema_7 naming_text) × (statement_of naming_text (understood schema_7 naming_text) ≡ naming_text) × (created schema_7 (naming 0) ≡ schema_8)
unfolding understood everything
naming_made = (refl, (refl, refl), refl, refl)

pub range_made : (command_of (understood schema_8 range_text) ≡ CreateIndex 3) × IsPlain (understood schema_8 range_text) × (statement_of range_text (understood schema_8 range_text) ≡ range_text) × (indexed schema_8 (cell 5) (cell_range 0 5) ≡ schema_9)
unfolding understood everything
range_made = (refl, (refl, refl), refl, refl)

pub subscription_range_made : (command_of (understood schema_9 subscription_range_text) ≡ CreateIndex 6) × IsPlain (understood schema_9 subscription_range_text) × (statement_of subscription_range_text (understood schema_9 subscription_range_text) ≡ subscription_range_text) × (indexed schema_9 (subscription_cell 11) (subscription_cell_range 0 11) ≡ unindexed_schema)
unfolding understood everything
subscription_range_made = (refl, (refl, refl), refl, refl)

pub naming_index_is : index_defined_by (naming 13) naming_index_text ≡ Ok (naming_subscription 0 13)
unfolding everything
naming_index_is = refl

pub naming_index_made : (command_of (understood unindexed_schema naming_index_text) ≡ CreateIndex 7) × IsPlain (understood unindexed_schema naming_index_text) × (statement_of naming_index_text (understood unindexed_schema naming_index_text) ≡ naming_index_text) × (indexed unindexed_schema (naming 13) (naming_subscription 0 13) ≡ second_schema)
unfolding understood everything
naming_index_made = (refl, (refl, refl), refl, refl)

abbrev pub format_row : List Term
format_row = col 1 0 ∷ col 1 0 ∷ lit Null ∷ lit (Int (pos 2)) ∷ col 1 3 ∷ []

pub set_format_is : command_of (understood second_schema set_format_text) ≡ Update 0 (record { lets = []; body = query_of 0 is_one format_row })
unfolding understood everything
set_format_is = refl

pub set_format_plain : IsPlain (understood second_schema set_format_text)
unfolding understood everything
set_format_plain = (refl, refl)

-- ---- the tables of the old order

pub naming_index_dropped : (command_of (understood old_second_schema drop_naming_index_text) ≡ DropIndex 8) × IsPlain (understood old_second_schema drop_naming_index_text) × (statement_of drop_naming_index_text (understood old_second_schema drop_naming_index_text) ≡ drop_naming_index_text) × (without_index old_second_schema 16 ≡ old_unindexed_schema)
unfolding understood everything
naming_index_dropped = (refl, (refl, refl), refl, refl)

pub naming_dropped : (command_of (understood old_unindexed_schema drop_naming_text) ≡ DropTable 7) × IsPlain (understood old_unindexed_schema drop_naming_text) × (statement_of drop_naming_text (understood old_unindexed_schema drop_naming_text) ≡ drop_naming_text) × (without_table old_unindexed_schema 15 ≡ old_schema_7)
unfolding understood everything
naming_dropped = (refl, (refl, refl), refl, refl)

pub naming_unacted : (keys : Keys) → is_acted_on old_unindexed_schema keys (naming 15) ≡ false
unfolding everything
naming_unacted keys = refl

pub subscription_cell_dropped : (command_of (understood old_schema_7 drop_subscription_cell_text) ≡ DropTable 6) × IsPlain (understood old_schema_7 drop_subscription_cell_text) × (statement_of drop_subscription_cell_text (understood old_schema_7 drop_subscription_cell_text) ≡ drop_subscription_cell_text) × (without_table old_schema_7 12 ≡ old_schema_6)
unfolding understood everything
subscription_cell_dropped = (refl, (refl, refl), refl, refl)

pub subscription_cell_unacted : (keys : Keys) → is_acted_on old_schema_7 keys (subscription_cell 12) ≡ false
unfolding everything
subscription_cell_unacted keys = refl

pub subscription_dropped : (command_of (understood old_schema_6 drop_subscription_text) ≡ DropTable 5) × IsPlain (understood old_schema_6 drop_subscription_text) × (statement_of drop_subscription_text (understood old_schema_6 drop_subscription_text) ≡ drop_subscription_text) × (without_table old_schema_6 10 ≡ old_first_schema)
unfolding understood everything
subscription_dropped = (refl, (refl, refl), refl, refl)

pub subscription_unacted : (keys : Keys) → is_acted_on old_schema_6 keys (subscription 10) ≡ false
unfolding everything
subscription_unacted keys = refl

pub availability_dropped : (command_of (understood old_first_schema drop_availability_text) ≡ DropTable 4) × IsPlain (understood old_first_schema drop_availability_text) × (statement_of drop_availability_text (understood old_first_schema drop_availability_text) ≡ drop_availability_text) × (without_table old_first_schema 8 ≡ old_schema_4)
unfolding understood everything
availability_dropped = (refl, (refl, refl), refl, refl)

pub availability_unacted : (keys : Keys) → is_acted_on old_first_schema keys (availability 8) ≡ false
unfolding everything
availability_unacted keys = refl

pub old_range_dropped : (command_of (understood old_schema_4 drop_range_text) ≡ DropIndex 3) × IsPlain (understood old_schema_4 drop_range_text) × (statement_of drop_range_text (understood old_schema_4 drop_range_text) ≡ drop_range_text) × (without_index old_schema_4 7 ≡ schema_4)
unfolding understood everything
old_range_dropped = (refl, (refl, refl), refl, refl)
