use Rattle.std.proofs.Common.{[]}
use Rattle.sqlite.specs.Held.{state}
use Rattle.space_sql_schema.specs.Tables.{no_schema, schema_5, dss_schema}
use Rattle.space_sql_schema.specs.Making.{AddsRest, IsBare}
use Rattle.space_sql_schema.proofs.Steps.{steps_then}
use Rattle.space_sql_schema.proofs.make.make_both.Goals as goal

pub returns-clause-leads : goal.returns-clause-leads
returns-clause-leads g c =
    steps_then (λ before after. IsBare no_schema before → IsBare schema_5 after) (AddsRest schema_5) (λ before after. IsBare no_schema before → IsBare dss_schema after) (state g.S.Store c.args.tx.now.conn.now) (state g.S.Store c.make_five.new.tx.conn.now) (state g.S.Store c.make_later.new.tx.conn.now) _ _ _ (λ first then bare. (then (λ _. []) (first bare)).0) c.in_ok-make_five.ensures.leads c.in_ok-make_later.ensures.adds
