use Rattle.std.proofs.Common.{Ok}
use Rattle.sqlite.specs.Held.{state}
use Rattle.space_sql_schema.specs.Making.{AddsIndex}
use Rattle.space_sql_schema.specs.Tables.{unindexed_schema}
use Rattle.space_sql_schema.proofs.Upgraded.{adds_index}
use Rattle.space_sql_open.specs.Upgrading.{Indexes}
use Rattle.space_sql_open.proofs.Insides.{inside_steps}
use Rattle.space_sql_open.proofs.upgrading.index.Goals as goal

pub returns-in-Ok-clause-indexes : goal.returns-in-Ok-clause-indexes
returns-in-Ok-clause-indexes g c =
    let old = state g.S.Store c.args.tx.now.conn.now in
    let new = state g.S.Store c.add_index.new.tx.conn.now in
    inside_steps unindexed_schema AddsIndex Indexes old new _ (Ok tt) (λ has adds. adds_index old.now new.now adds has) c.in-Ok.ensures.adds
