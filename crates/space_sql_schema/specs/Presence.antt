-- Definitions of which tables of the formats a schema has.
use Rattle.std.specs.Prelude.{ℕ, Bool, not, ◌&&◌, ◌==◌, if◌then◌else◌, List, codes, length}
use Rattle.std.specs.List.{list_all, list_any}
use Rattle.sqlite_schema.specs.Names.{same_name}
use Rattle.sqlite_schema.specs.declared.schema.Index.{Index}
use Rattle.sqlite_schema.specs.declared.schema.Schema.{Schema}
use Rattle.sqlite_schema.specs.declared.schema.Table.{Table}
use Rattle.space_sql_schema.specs.Tables.{first_schema, second_schema, later_tables, schema_of, schema_4}
use Rattle.space_sql_schema.specs.declared.format.Format.{Format}
use Rattle.space_sql_schema.specs.declared.format.Format.TheVariants.{One, TwoUnindexed, Two, OldOne, OldTwoUnindexed, OldTwo}
use Rattle.space_sql_schema.specs.declared.presence.Presence.{Presence}
use Rattle.space_sql_schema.specs.declared.presence.Presence.TheVariants.{Missing, Partial, Whole}

-- Returns true if the table has this name. Case is ignored.
abbrev pub is_named : List ℕ → Table → Bool
is_named name table = same_name table.name name

abbrev pub has_column : List ℕ → Table → Bool
has_column name table = list_any (λ c. same_name c.name name) table.columns

-- Returns true if the table has the name of the expected one, and all its columns.
abbrev pub stands_for : Table → Table → Bool
stands_for ours table =
    is_named ours.name table && list_all (λ c. has_column c.name table) ours.columns

-- Returns true if each expected table exists.
abbrev pub has_all : List Table → List Table → Bool
has_all ours tables = list_all (λ own. list_any (stands_for own) tables) ours

-- Returns true if a table has the name of an expected one.
abbrev pub has_some : List Table → List Table → Bool
has_some ours tables = list_any (λ table. list_any (λ own. is_named own.name table) ours) tables

-- Returns true if an index has the name of the index on `naming`.
abbrev pub has_naming_index : List Index → Bool
has_naming_index indexes =
    list_any (λ (i : Index). same_name i.name (codes "naming_subscription")) indexes

-- The presence of the tables. Format 2 includes the tables of format 1. Tables are of format 1 only
-- if none of the later tables exists.
abbrev pub presence_among : List Table → List Index → Presence
presence_among tables indexes =
    if has_all first_schema.tables tables
    then (if has_all later_tables tables
    then (if has_naming_index indexes then Whole Two else Whole TwoUnindexed)
    else if has_some later_tables tables then Partial else Whole One)
    else if has_some second_schema.tables tables then Partial else Missing

-- ---- the order of the tables

-- Returns true if the table has the name and the tree of the expected one.
abbrev pub is_in_place : Table → Table → Bool
is_in_place own table = is_named own.name table && (table.tree == own.tree)

-- Returns true if each table is one of format 2, and has its tree in the new order.
abbrev pub are_in_place : List Table → Bool
are_in_place tables =
    list_all (λ table. list_any (λ own. is_in_place own table) second_schema.tables) tables

-- Returns true if the table has the name of the expected one, and as many columns.
abbrev pub is_like : Table → Table → Bool
is_like own table = is_named own.name table && (length table.columns == length own.columns)

-- Returns true if each table is one of format 2, and has no further column.
abbrev pub are_ours : List Table → Bool
are_ours tables =
    list_all (λ table. list_any (λ own. is_like own table) second_schema.tables) tables

-- Returns true if there is nothing beside the tables and indexes of the format, by their number.
abbrev pub is_alone : Format → Schema → Bool
is_alone format schema =
    are_ours schema.tables
    && ((length schema.indexes == length (schema_of format).indexes) && (length schema.views == 0))

-- Returns true if the tables up to `cell` are there, with their trees.
abbrev pub is_front_in_place : List Table → Bool
is_front_in_place tables = list_all (λ own. list_any (is_in_place own) tables) schema_4.tables

-- Returns true if tables after `cell` are out of their place, and get it if they are created anew.
-- Beside other tables or after others, they would not.
abbrev pub is_out_of_place : Format → Schema → Bool
is_out_of_place format schema =
    is_alone format schema
    && (is_front_in_place schema.tables && not (are_in_place schema.tables))

-- The format in the old order.
abbrev pub in_old_order : Format → Format
in_old_order One = OldOne
in_old_order TwoUnindexed = OldTwoUnindexed
in_old_order Two = OldTwo
in_old_order OldOne = OldOne
in_old_order OldTwoUnindexed = OldTwoUnindexed
in_old_order OldTwo = OldTwo

-- The presence of these tables, with their order.
abbrev pub in_order : Schema → Presence → Presence
in_order schema Missing = Missing
in_order schema Partial = Partial
in_order schema (Whole format) =
    Whole (if is_out_of_place format schema then in_old_order format else format)

abbrev pub presence_in : Schema → Presence
presence_in schema = in_order schema (presence_among schema.tables schema.indexes)
