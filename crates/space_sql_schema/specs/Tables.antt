-- Definitions of the tables of formats 1 and 2.
use Rattle.std.specs.Prelude.{true, false, [], ◌∷◌, Some, None, codes, map, List, Option, ℕ, pos}
use Rattle.sqlite.specs.Collation.TheVariants.{Binary}
use Rattle.sqlite.specs.declared.types.Value.TheVariants.{Null, Int}
use Rattle.sqlite.specs.Table.{Table}
use Rattle.sqlite.specs.Schema.{Schema}
use Rattle.sqlite.specs.Term.{Term, lit, col, op2}
use Rattle.sqlite.specs.Kind.{Kind}
use Rattle.sqlite.specs.Kind.TheVariants.{Integer, Text}
use Rattle.sqlite_schema.specs.declared.schema.Column.{Column}
use Rattle.sqlite_schema.specs.declared.schema.Index.{Index}
use Rattle.sqlite_schema.specs.declared.schema.Reference.{Reference}
use Rattle.sqlite_schema.specs.declared.schema.Action.{Action}
use Rattle.sqlite_schema.specs.declared.schema.Action.TheVariants.{Cascade, NoAction, Restrict}
use Rattle.sqlite_sql.specs.declared.ops.BinaryOp.TheVariants.{Compare, And, Or}
use Rattle.sqlite_sql.specs.declared.ops.CompareOp.TheVariants.{Eq, Ge, Le}
use Rattle.sqlite_value.specs.Keys.{plain}
use Rattle.sqlite_catalog.specs.Listing.{automatic}
use Rattle.space_sql_schema.specs.declared.format.Format.{Format}
use Rattle.space_sql_schema.specs.declared.format.Format.TheVariants.{One, TwoUnindexed, Two, OldOne, OldTwoUnindexed, OldTwo}
use Rattle.space_sql_schema.specs.Trees.{meta_tree, entity_tree, volume_tree, cell_tree, availability_tree, subscription_tree, subscription_cell_tree, naming_tree, old_availability_tree, old_subscription_tree, old_subscription_cell_tree, old_naming_tree}

-- ---- columns and checks; the columns of a row count from 1

-- A column that holds only values of its kind.
abbrev pub filled : List ℕ → Kind → Column
filled name kind = record {
  name = name;
  kind = kind;
  is_strict = true;
  not_null = true;
  default = Null;
  collation = Binary;
}

abbrev pub number : List ℕ → Column
number name = filled name Integer

abbrev pub text : List ℕ → Column
text name = filled name Text

abbrev pub is_number : ℕ → ℕ → Term
is_number k n = op2 (Compare Eq Binary) (col 1 k) (lit (Int (pos n)))

abbrev pub is_from : ℕ → ℕ → Term
is_from k least = op2 (Compare Ge Binary) (col 1 k) (lit (Int (pos least)))

abbrev pub is_up_to : ℕ → ℕ → Term
is_up_to k most = op2 (Compare Le Binary) (col 1 k) (lit (Int (pos most)))

abbrev pub is_between : ℕ → ℕ → ℕ → Term
is_between k least most = op2 And (is_from k least) (is_up_to k most)

-- The check that one column is at most the other.
abbrev pub are_in_order : ℕ → ℕ → Term
are_in_order k l = op2 (Compare Le Binary) (col 1 k) (col 1 l)

-- A reference from these columns to a row of another table, with the action when that row is
-- deleted.
abbrev pub refers_to : List ℕ → List ℕ → List (List ℕ) → Action → Reference
refers_to columns parent parent_columns action =
    record {
      columns = columns;
      parent = parent;
      parent_columns = parent_columns;
      on_delete = action;
      on_update = NoAction;
      is_deferred = false;
    }

-- A reference that deletes the row together with the referenced row.
abbrev pub goes_with : List ℕ → List ℕ → List (List ℕ) → Reference
goes_with columns parent parent_columns = refers_to columns parent parent_columns Cascade

-- A reference that prevents the deletion of the referenced row.
abbrev pub holds_on_to : List ℕ → List ℕ → List (List ℕ) → Reference
holds_on_to columns parent parent_columns = refers_to columns parent parent_columns Restrict

-- A table with this tree: its columns, the column that numbers its rows, its key, its unique
-- constraints, its checks and its references.
abbrev pub table_of : List ℕ → ℕ → List Column → Option ℕ → List ℕ → List (List ℕ) → List Term
    → List Reference → Table
table_of name tree columns key primary uniques checks references = record {
  name = name;
  tree = tree;
  columns = columns;
  key = key;
  primary = primary;
  uniques = uniques;
  orders = map (λ _. plain) uniques;
  checks = checks;
  references = references;
  computed = [];
  stamps = record { places = []; terms = []; formats = [] };
  is_counted = false;
}

-- ---- the tables

-- The table `meta`. Its key `one` is 1.
abbrev pub meta : ℕ → Table
meta tree =
    table_of (codes "meta") tree
    (number (codes "one") ∷ number (codes "format") ∷ number (codes "serial") ∷ [])
    (Some 0) (0 ∷ []) [] (is_number 0 1 ∷ is_from 3 0 ∷ []) []

-- The table `entity`. Its key is `num`, and a kind with an id is unique.
abbrev pub entity : ℕ → Table
entity tree =
    table_of (codes "entity") tree
    (number (codes "num") ∷ number (codes "kind") ∷ text (codes "id") ∷ text (codes "manager")
    ∷ number (codes "state") ∷ number (codes "version") ∷ number (codes "serial")
    ∷ text (codes "ovn") ∷ text (codes "url") ∷ [])
    (Some 0) (0 ∷ []) ((2 ∷ 3 ∷ []) ∷ [])
    (op2 Or (is_number 2 0) (is_number 2 1)
    ∷ is_between 5 0 4 ∷ is_between 6 1 2147483647 ∷ is_from 7 0 ∷ []) []

-- The table `volume`. Its key is an entity and a place. Its rows are deleted with the row of the
-- entity.
abbrev pub volume : ℕ → Table
volume tree =
    table_of (codes "volume") tree
    (number (codes "entity") ∷ number (codes "place") ∷ number (codes "alt_lower")
    ∷ number (codes "alt_upper") ∷ number (codes "time_start") ∷ number (codes "time_end") ∷ [])
    None (1 ∷ 2 ∷ []) ((1 ∷ 2 ∷ []) ∷ []) (are_in_order 3 4 ∷ are_in_order 5 6 ∷ [])
    (goes_with (1 ∷ []) (codes "entity") (codes "num" ∷ []) ∷ [])

-- The table `cell`. Its key is an entity, a volume and a place. Its rows are deleted with the row
-- of the volume.
abbrev pub cell : ℕ → Table
cell tree =
    table_of (codes "cell") tree
    (number (codes "entity") ∷ number (codes "volume") ∷ number (codes "place")
    ∷ text (codes "token") ∷ number (codes "lo") ∷ number (codes "hi") ∷ [])
    None (1 ∷ 2 ∷ 3 ∷ []) ((1 ∷ 2 ∷ 3 ∷ []) ∷ []) (are_in_order 5 6 ∷ [])
    (goes_with (1 ∷ 2 ∷ []) (codes "volume") (codes "entity" ∷ codes "place" ∷ []) ∷ [])

-- The table `availability`. Its key is a USS.
abbrev pub availability : ℕ → Table
availability tree =
    table_of (codes "availability") tree
    (text (codes "uss") ∷ number (codes "state") ∷ text (codes "version") ∷ [])
    None (1 ∷ []) ((1 ∷ []) ∷ []) (is_between 2 0 2 ∷ []) []

-- The index on `lo` and `hi` of the table `cell`.
abbrev pub cell_range : ℕ → ℕ → Index
cell_range tree table = record {
  name = codes "cell_range";
  tree = tree;
  table = table;
  columns = 5 ∷ 6 ∷ [];
  order = plain;
  is_unique = false;
}

-- The table `subscription`. Its key is `num`, and an id is unique. A row is for intents, for
-- constraints, or for both.
abbrev pub subscription : ℕ → Table
subscription tree =
    table_of (codes "subscription") tree
    (number (codes "num") ∷ text (codes "id") ∷ text (codes "manager") ∷ number (codes "serial")
    ∷ text (codes "version") ∷ number (codes "notes") ∷ text (codes "url")
    ∷ number (codes "for_intents") ∷ number (codes "for_constraints")
    ∷ number (codes "alt_lower") ∷ number (codes "alt_upper") ∷ number (codes "time_start")
    ∷ number (codes "time_end") ∷ [])
    (Some 0) (0 ∷ []) ((2 ∷ []) ∷ [])
    (is_from 4 0 ∷ is_from 6 0 ∷ op2 Or (is_number 8 0) (is_number 8 1)
    ∷ op2 Or (is_number 9 0) (is_number 9 1) ∷ op2 Or (is_number 8 1) (is_number 9 1)
    ∷ are_in_order 10 11 ∷ are_in_order 12 13 ∷ []) []

-- The table `subscription_cell`. Its key is a subscription and a place. Its rows are deleted with
-- the row of the subscription.
abbrev pub subscription_cell : ℕ → Table
subscription_cell tree =
    table_of (codes "subscription_cell") tree
    (number (codes "subscription") ∷ number (codes "place") ∷ text (codes "token")
    ∷ number (codes "lo") ∷ number (codes "hi") ∷ [])
    None (1 ∷ 2 ∷ []) ((1 ∷ 2 ∷ []) ∷ []) (are_in_order 4 5 ∷ [])
    (goes_with (1 ∷ []) (codes "subscription") (codes "num" ∷ []) ∷ [])

-- The table `naming`. Its key is an entity. Its row is deleted with the row of the entity, and
-- prevents the deletion of the row of the subscription.
abbrev pub naming : ℕ → Table
naming tree =
    table_of (codes "naming") tree
    (number (codes "entity") ∷ number (codes "subscription") ∷ [])
    (Some 0) (0 ∷ []) [] []
    (goes_with (0 ∷ []) (codes "entity") (codes "num" ∷ [])
    ∷ holds_on_to (2 ∷ []) (codes "subscription") (codes "num" ∷ []) ∷ [])

-- The index on `lo` and `hi` of the table `subscription_cell`.
abbrev pub subscription_cell_range : ℕ → ℕ → Index
subscription_cell_range tree table = record {
  name = codes "subscription_cell_range";
  tree = tree;
  table = table;
  columns = 4 ∷ 5 ∷ [];
  order = plain;
  is_unique = false;
}

-- The index on `subscription` of the table `naming`. By it, the deletion of a row of `subscription`
-- finds the rows that refer to it.
abbrev pub naming_subscription : ℕ → ℕ → Index
naming_subscription tree table = record {
  name = codes "naming_subscription";
  tree = tree;
  table = table;
  columns = 2 ∷ [];
  order = plain;
  is_unique = false;
}

-- The index that enforces the first unique constraint of a table.
abbrev pub key_index : Table → List ℕ → ℕ → Index
key_index table columns tree = automatic table 0 columns tree

-- ---- the schema

abbrev pub no_schema : Schema
no_schema = record { tables = []; indexes = []; views = [] }

-- The schema with exactly the tables of format 1, and their index on cells after them. Each table
-- and each index has its tree, in the order of their creation: those of the tables have names,
-- those of the indexes are 2, 4, 6, 8 and 9.
abbrev pub first_schema : Schema
first_schema = record {
  tables = meta meta_tree ∷ entity entity_tree ∷ volume volume_tree ∷ cell cell_tree
      ∷ availability availability_tree ∷ [];
  indexes =
      key_index (entity entity_tree) (2 ∷ 3 ∷ []) 2
      ∷ key_index (volume volume_tree) (1 ∷ 2 ∷ []) 4
      ∷ key_index (cell cell_tree) (1 ∷ 2 ∷ 3 ∷ []) 6
      ∷ key_index (availability availability_tree) (1 ∷ []) 8
      ∷ cell_range 9 cell_tree ∷ [];
  views = [];
}

-- The tables that format 2 added.
abbrev pub later_tables : List Table
later_tables = subscription subscription_tree ∷ subscription_cell subscription_cell_tree
    ∷ naming naming_tree ∷ []

-- The schema with exactly the tables of format 2: those of format 1, followed by three more. The
-- indexes on cells come after all tables. It lacks the index on `naming`, as earlier versions
-- created it.
abbrev pub unindexed_schema : Schema
unindexed_schema = record {
  tables = meta meta_tree ∷ entity entity_tree ∷ volume volume_tree ∷ cell cell_tree
      ∷ availability availability_tree ∷ subscription subscription_tree
      ∷ subscription_cell subscription_cell_tree ∷ naming naming_tree ∷ [];
  indexes =
      key_index (entity entity_tree) (2 ∷ 3 ∷ []) 2
      ∷ key_index (volume volume_tree) (1 ∷ 2 ∷ []) 4
      ∷ key_index (cell cell_tree) (1 ∷ 2 ∷ 3 ∷ []) 6
      ∷ key_index (availability availability_tree) (1 ∷ []) 8
      ∷ key_index (subscription subscription_tree) (2 ∷ []) 10
      ∷ key_index (subscription_cell subscription_cell_tree) (1 ∷ 2 ∷ []) 12
      ∷ cell_range 14 cell_tree
      ∷ subscription_cell_range 15 subscription_cell_tree ∷ [];
  views = [];
}

-- The schema with exactly the tables of format 2, and all indexes after them, that on `naming`
-- last. SQLite's `VACUUM` keeps this order.
abbrev pub second_schema : Schema
second_schema = record {
  tables = meta meta_tree ∷ entity entity_tree ∷ volume volume_tree ∷ cell cell_tree
      ∷ availability availability_tree ∷ subscription subscription_tree
      ∷ subscription_cell subscription_cell_tree ∷ naming naming_tree ∷ [];
  indexes =
      key_index (entity entity_tree) (2 ∷ 3 ∷ []) 2
      ∷ key_index (volume volume_tree) (1 ∷ 2 ∷ []) 4
      ∷ key_index (cell cell_tree) (1 ∷ 2 ∷ 3 ∷ []) 6
      ∷ key_index (availability availability_tree) (1 ∷ []) 8
      ∷ key_index (subscription subscription_tree) (2 ∷ []) 10
      ∷ key_index (subscription_cell subscription_cell_tree) (1 ∷ 2 ∷ []) 12
      ∷ cell_range 14 cell_tree
      ∷ subscription_cell_range 15 subscription_cell_tree
      ∷ naming_subscription 16 naming_tree ∷ [];
  views = [];
}

-- ---- the old order

-- The tables of format 1 as earlier versions created them. The index on cells precedes
-- `availability`.
abbrev pub old_first_schema : Schema
old_first_schema = record {
  tables = meta meta_tree ∷ entity entity_tree ∷ volume volume_tree ∷ cell cell_tree
      ∷ availability old_availability_tree ∷ [];
  indexes =
      key_index (entity entity_tree) (2 ∷ 3 ∷ []) 2
      ∷ key_index (volume volume_tree) (1 ∷ 2 ∷ []) 4
      ∷ key_index (cell cell_tree) (1 ∷ 2 ∷ 3 ∷ []) 6
      ∷ cell_range 7 cell_tree
      ∷ key_index (availability old_availability_tree) (1 ∷ []) 9 ∷ [];
  views = [];
}

-- The tables of format 2 as earlier versions added them to those of format 1.
abbrev pub old_unindexed_schema : Schema
old_unindexed_schema = record {
  tables = meta meta_tree ∷ entity entity_tree ∷ volume volume_tree ∷ cell cell_tree
      ∷ availability old_availability_tree ∷ subscription old_subscription_tree
      ∷ subscription_cell old_subscription_cell_tree ∷ naming old_naming_tree ∷ [];
  indexes =
      key_index (entity entity_tree) (2 ∷ 3 ∷ []) 2
      ∷ key_index (volume volume_tree) (1 ∷ 2 ∷ []) 4
      ∷ key_index (cell cell_tree) (1 ∷ 2 ∷ 3 ∷ []) 6
      ∷ cell_range 7 cell_tree
      ∷ key_index (availability old_availability_tree) (1 ∷ []) 9
      ∷ key_index (subscription old_subscription_tree) (2 ∷ []) 11
      ∷ key_index (subscription_cell old_subscription_cell_tree) (1 ∷ 2 ∷ []) 13
      ∷ subscription_cell_range 14 old_subscription_cell_tree ∷ [];
  views = [];
}

-- The same tables with the index on `naming` after them.
abbrev pub old_second_schema : Schema
old_second_schema = record {
  tables = meta meta_tree ∷ entity entity_tree ∷ volume volume_tree ∷ cell cell_tree
      ∷ availability old_availability_tree ∷ subscription old_subscription_tree
      ∷ subscription_cell old_subscription_cell_tree ∷ naming old_naming_tree ∷ [];
  indexes =
      key_index (entity entity_tree) (2 ∷ 3 ∷ []) 2
      ∷ key_index (volume volume_tree) (1 ∷ 2 ∷ []) 4
      ∷ key_index (cell cell_tree) (1 ∷ 2 ∷ 3 ∷ []) 6
      ∷ cell_range 7 cell_tree
      ∷ key_index (availability old_availability_tree) (1 ∷ []) 9
      ∷ key_index (subscription old_subscription_tree) (2 ∷ []) 11
      ∷ key_index (subscription_cell old_subscription_cell_tree) (1 ∷ 2 ∷ []) 13
      ∷ subscription_cell_range 14 old_subscription_cell_tree
      ∷ naming_subscription 16 old_naming_tree ∷ [];
  views = [];
}

-- ---- the formats

abbrev pub schema_of : Format → Schema
schema_of One = first_schema
schema_of TwoUnindexed = unindexed_schema
schema_of Two = second_schema
schema_of OldOne = old_first_schema
schema_of OldTwoUnindexed = old_unindexed_schema
schema_of OldTwo = old_second_schema

-- The number of a format in `meta`.
abbrev pub format_number : Format → ℕ
format_number One = 1
format_number TwoUnindexed = 2
format_number Two = 2
format_number OldOne = 1
format_number OldTwoUnindexed = 2
format_number OldTwo = 2

-- The schema of the current format.
abbrev pub dss_schema : Schema
dss_schema = schema_of Two

-- ---- the intermediate schemas, one table or index a step

abbrev pub schema_1 : Schema
schema_1 = record { tables = meta meta_tree ∷ []; indexes = []; views = [] }

abbrev pub schema_2 : Schema
schema_2 = record {
  tables = meta meta_tree ∷ entity entity_tree ∷ [];
  indexes = key_index (entity entity_tree) (2 ∷ 3 ∷ []) 2 ∷ [];
  views = [];
}

abbrev pub schema_3 : Schema
schema_3 = record {
  tables = meta meta_tree ∷ entity entity_tree ∷ volume volume_tree ∷ [];
  indexes = key_index (entity entity_tree) (2 ∷ 3 ∷ []) 2
      ∷ key_index (volume volume_tree) (1 ∷ 2 ∷ []) 4 ∷ [];
  views = [];
}

abbrev pub schema_4 : Schema
schema_4 = record {
  tables = meta meta_tree ∷ entity entity_tree ∷ volume volume_tree ∷ cell cell_tree ∷ [];
  indexes = key_index (entity entity_tree) (2 ∷ 3 ∷ []) 2
      ∷ key_index (volume volume_tree) (1 ∷ 2 ∷ []) 4
      ∷ key_index (cell cell_tree) (1 ∷ 2 ∷ 3 ∷ []) 6 ∷ [];
  views = [];
}

-- The tables of format 1 without their index on cells. The index either follows them
-- (`first_schema`), or the later tables do (`schema_6`).
abbrev pub schema_5 : Schema
schema_5 = record {
  tables = meta meta_tree ∷ entity entity_tree ∷ volume volume_tree ∷ cell cell_tree
      ∷ availability availability_tree ∷ [];
  indexes =
      key_index (entity entity_tree) (2 ∷ 3 ∷ []) 2
      ∷ key_index (volume volume_tree) (1 ∷ 2 ∷ []) 4
      ∷ key_index (cell cell_tree) (1 ∷ 2 ∷ 3 ∷ []) 6
      ∷ key_index (availability availability_tree) (1 ∷ []) 8 ∷ [];
  views = [];
}

abbrev pub schema_6 : Schema
schema_6 = record {
  tables = meta meta_tree ∷ entity entity_tree ∷ volume volume_tree ∷ cell cell_tree
      ∷ availability availability_tree ∷ subscription subscription_tree ∷ [];
  indexes =
      key_index (entity entity_tree) (2 ∷ 3 ∷ []) 2
      ∷ key_index (volume volume_tree) (1 ∷ 2 ∷ []) 4
      ∷ key_index (cell cell_tree) (1 ∷ 2 ∷ 3 ∷ []) 6
      ∷ key_index (availability availability_tree) (1 ∷ []) 8
      ∷ key_index (subscription subscription_tree) (2 ∷ []) 10 ∷ [];
  views = [];
}

abbrev pub schema_7 : Schema
schema_7 = record {
  tables = meta meta_tree ∷ entity entity_tree ∷ volume volume_tree ∷ cell cell_tree
      ∷ availability availability_tree ∷ subscription subscription_tree
      ∷ subscription_cell subscription_cell_tree ∷ [];
  indexes =
      key_index (entity entity_tree) (2 ∷ 3 ∷ []) 2
      ∷ key_index (volume volume_tree) (1 ∷ 2 ∷ []) 4
      ∷ key_index (cell cell_tree) (1 ∷ 2 ∷ 3 ∷ []) 6
      ∷ key_index (availability availability_tree) (1 ∷ []) 8
      ∷ key_index (subscription subscription_tree) (2 ∷ []) 10
      ∷ key_index (subscription_cell subscription_cell_tree) (1 ∷ 2 ∷ []) 12 ∷ [];
  views = [];
}

-- All tables of format 2, with the indexes of their keys only.
abbrev pub schema_8 : Schema
schema_8 = record {
  tables = meta meta_tree ∷ entity entity_tree ∷ volume volume_tree ∷ cell cell_tree
      ∷ availability availability_tree ∷ subscription subscription_tree
      ∷ subscription_cell subscription_cell_tree ∷ naming naming_tree ∷ [];
  indexes =
      key_index (entity entity_tree) (2 ∷ 3 ∷ []) 2
      ∷ key_index (volume volume_tree) (1 ∷ 2 ∷ []) 4
      ∷ key_index (cell cell_tree) (1 ∷ 2 ∷ 3 ∷ []) 6
      ∷ key_index (availability availability_tree) (1 ∷ []) 8
      ∷ key_index (subscription subscription_tree) (2 ∷ []) 10
      ∷ key_index (subscription_cell subscription_cell_tree) (1 ∷ 2 ∷ []) 12 ∷ [];
  views = [];
}

abbrev pub schema_9 : Schema
schema_9 = record {
  tables = meta meta_tree ∷ entity entity_tree ∷ volume volume_tree ∷ cell cell_tree
      ∷ availability availability_tree ∷ subscription subscription_tree
      ∷ subscription_cell subscription_cell_tree ∷ naming naming_tree ∷ [];
  indexes =
      key_index (entity entity_tree) (2 ∷ 3 ∷ []) 2
      ∷ key_index (volume volume_tree) (1 ∷ 2 ∷ []) 4
      ∷ key_index (cell cell_tree) (1 ∷ 2 ∷ 3 ∷ []) 6
      ∷ key_index (availability availability_tree) (1 ∷ []) 8
      ∷ key_index (subscription subscription_tree) (2 ∷ []) 10
      ∷ key_index (subscription_cell subscription_cell_tree) (1 ∷ 2 ∷ []) 12
      ∷ cell_range 14 cell_tree ∷ [];
  views = [];
}

-- ---- the intermediate schemas of the old order, one table a step

abbrev pub old_schema_4 : Schema
old_schema_4 = record {
  tables = meta meta_tree ∷ entity entity_tree ∷ volume volume_tree ∷ cell cell_tree ∷ [];
  indexes =
      key_index (entity entity_tree) (2 ∷ 3 ∷ []) 2
      ∷ key_index (volume volume_tree) (1 ∷ 2 ∷ []) 4
      ∷ key_index (cell cell_tree) (1 ∷ 2 ∷ 3 ∷ []) 6
      ∷ cell_range 7 cell_tree ∷ [];
  views = [];
}

abbrev pub old_schema_6 : Schema
old_schema_6 = record {
  tables = meta meta_tree ∷ entity entity_tree ∷ volume volume_tree ∷ cell cell_tree
      ∷ availability old_availability_tree ∷ subscription old_subscription_tree ∷ [];
  indexes =
      key_index (entity entity_tree) (2 ∷ 3 ∷ []) 2
      ∷ key_index (volume volume_tree) (1 ∷ 2 ∷ []) 4
      ∷ key_index (cell cell_tree) (1 ∷ 2 ∷ 3 ∷ []) 6
      ∷ cell_range 7 cell_tree
      ∷ key_index (availability old_availability_tree) (1 ∷ []) 9
      ∷ key_index (subscription old_subscription_tree) (2 ∷ []) 11 ∷ [];
  views = [];
}

abbrev pub old_schema_7 : Schema
old_schema_7 = record {
  tables = meta meta_tree ∷ entity entity_tree ∷ volume volume_tree ∷ cell cell_tree
      ∷ availability old_availability_tree ∷ subscription old_subscription_tree
      ∷ subscription_cell old_subscription_cell_tree ∷ [];
  indexes =
      key_index (entity entity_tree) (2 ∷ 3 ∷ []) 2
      ∷ key_index (volume volume_tree) (1 ∷ 2 ∷ []) 4
      ∷ key_index (cell cell_tree) (1 ∷ 2 ∷ 3 ∷ []) 6
      ∷ cell_range 7 cell_tree
      ∷ key_index (availability old_availability_tree) (1 ∷ []) 9
      ∷ key_index (subscription old_subscription_tree) (2 ∷ []) 11
      ∷ key_index (subscription_cell old_subscription_cell_tree) (1 ∷ 2 ∷ []) 13
      ∷ subscription_cell_range 14 old_subscription_cell_tree ∷ [];
  views = [];
}
