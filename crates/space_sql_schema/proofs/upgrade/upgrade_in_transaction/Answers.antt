use Rattle.sqlite.specs.Held.{state}
use Rattle.space_sql_schema.specs.Tables.{first_schema, second_schema}
use Rattle.space_sql_schema.specs.Making.{AddsTables, SetsFormat, Upgrades}
use Rattle.space_sql_schema.proofs.Steps.{steps_then}
use Rattle.space_sql_schema.proofs.upgrade.upgrade_in_transaction.Goals as goal

pub returns-clause-upgrades : goal.returns-clause-upgrades
returns-clause-upgrades g c =
    steps_then (AddsTables first_schema second_schema) SetsFormat Upgrades (state g.S.Store c.args.tx.now.conn.now) (state g.S.Store c.add_later.new.tx.conn.now) (state g.S.Store c.set_format.new.tx.conn.now) _ _ _ (λ first then trees has. then trees (first trees has)) c.in_ok-add_later.ensures.adds c.in_ok-set_format.ensures.sets
