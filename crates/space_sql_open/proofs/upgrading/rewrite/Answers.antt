use Rattle.std.proofs.Common.{Ok}
use Rattle.sqlite.specs.Held.{state}
use Rattle.space_sql_schema.specs.Making.{Upgrades}
use Rattle.space_sql_schema.specs.Tables.{first_schema}
use Rattle.space_sql_open.specs.Upgrading.{Rewrites}
use Rattle.space_sql_open.proofs.Insides.{inside_steps}
use Rattle.space_sql_open.proofs.Moves.{rewritten}
use Rattle.space_sql_open.proofs.upgrading.rewrite.Goals as goal

pub returns-in-Ok-clause-rewrites : goal.returns-in-Ok-clause-rewrites
returns-in-Ok-clause-rewrites g c =
    let old = state g.S.Store c.args.tx.now.conn.now in
    let new = state g.S.Store c.upgrade_in_transaction.new.tx.conn.now in
    inside_steps first_schema Upgrades Rewrites old new _ (Ok tt) (λ has upgrades. rewritten old.now new.now upgrades has) c.in-Ok.ensures.upgrades
