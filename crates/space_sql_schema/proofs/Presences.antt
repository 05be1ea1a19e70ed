-- Proofs about the presence of tables in the schemas of the formats.
use Rattle.std.proofs.Common.{◌≡◌, ◌∙◌, List, ap, ap₂, refl}
use Rattle.sqlite_tied.specs.Compute.{everything}
use Rattle.space_sql_schema.specs.Tables.{no_schema, first_schema, unindexed_schema, second_schema, old_first_schema, old_unindexed_schema, old_second_schema}
use Rattle.sqlite_schema.specs.declared.schema.Index.{Index}
use Rattle.sqlite_schema.specs.declared.schema.Schema.{Schema}
use Rattle.sqlite_schema.specs.declared.schema.Table.{Table}
use Rattle.space_sql_schema.specs.Presence.{in_order, presence_among, presence_in}
use Rattle.space_sql_schema.specs.declared.presence.Presence.{Presence}
use Rattle.space_sql_schema.specs.declared.format.Format.TheVariants.{One, TwoUnindexed, Two, OldOne, OldTwoUnindexed, OldTwo}
use Rattle.space_sql_schema.specs.declared.presence.Presence.TheVariants.{Missing, Whole}

pub none_stands : presence_in no_schema ≡ Missing
none_stands = refl

pub first_stands : presence_in first_schema ≡ Whole One
unfolding everything
first_stands = refl

pub unindexed_stands : presence_in unindexed_schema ≡ Whole TwoUnindexed
unfolding everything
unindexed_stands = refl

pub second_stands : presence_in second_schema ≡ Whole Two
unfolding everything
second_stands = refl

pub old_first_stands : presence_in old_first_schema ≡ Whole OldOne
unfolding everything
old_first_stands = refl

pub old_unindexed_stands : presence_in old_unindexed_schema ≡ Whole OldTwoUnindexed
unfolding everything
old_unindexed_stands = refl

pub old_second_stands : presence_in old_second_schema ≡ Whole OldTwo
unfolding everything
old_second_stands = refl

-- The presence among the tables and indexes of a schema is that of the schema.
pub seen_exact : (s : Schema) {p q : Presence} {tables : List Table} {indexes : List Index} → q ≡ in_order s p → p ≡ presence_among tables indexes → tables ≡ s.tables → indexes ≡ s.indexes → q ≡ presence_in s
seen_exact s placed p tables indexes = placed ∙ ap (in_order s) (p ∙ ap₂ presence_among tables indexes)

-- It is that of an equal one.
pub seen_in : (own : Schema) {p q : Presence} {s : Schema} {tables : List Table} {indexes : List Index} → q ≡ in_order s p → p ≡ presence_among tables indexes → tables ≡ s.tables → indexes ≡ s.indexes → s ≡ own → q ≡ presence_in own
seen_in own {s = s} placed p tables indexes has = seen_exact s placed p tables indexes ∙ ap presence_in has
