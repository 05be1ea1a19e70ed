use Rattle.std.proofs.Common.{◌∙◌}
use Rattle.space_sql_schema.specs.Tables.{no_schema, first_schema, unindexed_schema, second_schema, old_first_schema, old_unindexed_schema, old_second_schema}
use Rattle.space_sql_schema.proofs.Presences.{seen_exact, seen_in, none_stands, first_stands, unindexed_stands, second_stands, old_first_stands, old_unindexed_stands, old_second_stands}
use Rattle.space_sql_schema.proofs.presence.presence_of.Goals as goal

pub returns-clause-exact : goal.returns-clause-exact
returns-clause-exact c = seen_exact c.args.schema.now c.in_order.ensures c.presence_among.ensures c.as_slice-tables.ensures c.as_slice-indexes.ensures

pub returns-clause-missing : goal.returns-clause-missing
returns-clause-missing c = λ has. seen_in no_schema c.in_order.ensures c.presence_among.ensures c.as_slice-tables.ensures c.as_slice-indexes.ensures has ∙ none_stands

pub returns-clause-first : goal.returns-clause-first
returns-clause-first c = λ has. seen_in first_schema c.in_order.ensures c.presence_among.ensures c.as_slice-tables.ensures c.as_slice-indexes.ensures has ∙ first_stands

pub returns-clause-unindexed : goal.returns-clause-unindexed
returns-clause-unindexed c = λ has. seen_in unindexed_schema c.in_order.ensures c.presence_among.ensures c.as_slice-tables.ensures c.as_slice-indexes.ensures has ∙ unindexed_stands

pub returns-clause-second : goal.returns-clause-second
returns-clause-second c = λ has. seen_in second_schema c.in_order.ensures c.presence_among.ensures c.as_slice-tables.ensures c.as_slice-indexes.ensures has ∙ second_stands

pub returns-clause-old_first : goal.returns-clause-old_first
returns-clause-old_first c = λ has. seen_in old_first_schema c.in_order.ensures c.presence_among.ensures c.as_slice-tables.ensures c.as_slice-indexes.ensures has ∙ old_first_stands

pub returns-clause-old_unindexed : goal.returns-clause-old_unindexed
returns-clause-old_unindexed c = λ has. seen_in old_unindexed_schema c.in_order.ensures c.presence_among.ensures c.as_slice-tables.ensures c.as_slice-indexes.ensures has ∙ old_unindexed_stands

pub returns-clause-old_second : goal.returns-clause-old_second
returns-clause-old_second c = λ has. seen_in old_second_schema c.in_order.ensures c.presence_among.ensures c.as_slice-tables.ensures c.as_slice-indexes.ensures has ∙ old_second_stands
