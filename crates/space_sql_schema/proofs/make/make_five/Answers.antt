use Rattle.std.proofs.Common.{[]}
use Rattle.sqlite.specs.Held.{state}
use Rattle.space_sql_schema.specs.Tables.{no_schema, schema_4, schema_5}
use Rattle.space_sql_schema.specs.Making.{AddsToFour, IsBare}
use Rattle.space_sql_schema.proofs.Steps.{steps_then}
use Rattle.space_sql_schema.proofs.make.make_five.Goals as goal

pub returns-clause-leads : goal.returns-clause-leads
returns-clause-leads g c =
    steps_then (λ before after. IsBare no_schema before → IsBare schema_4 after) (AddsToFour schema_4 schema_5) (λ before after. IsBare no_schema before → IsBare schema_5 after) (state g.S.Store c.args.tx.now.conn.now) (state g.S.Store c.make_four.new.tx.conn.now) (state g.S.Store c.make_availability.new.tx.conn.now) _ _ _ (λ first then bare. then (λ _. []) (first bare)) c.in_ok-make_four.ensures.leads c.in_ok-make_availability.ensures.adds
