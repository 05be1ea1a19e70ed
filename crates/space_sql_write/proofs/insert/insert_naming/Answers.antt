use Rattle.std.proofs.Common.{to_z-of_z, Some}
use Rattle.sqlite.specs.Held.{state}
use Rattle.space_sql_write.specs.Layout.{Always, Naming, Relays, with_naming}
use Rattle.space_sql_write.proofs.Texts.{insert_naming_text}
use Rattle.space_sql_write.proofs.Running.{runs_on}
use Rattle.space_sql_write.proofs.Inserting.{inserts_naming}
use Rattle.space_sql_write.proofs.insert.insert_naming.Goals as goal

pub returns-clause-inserts : goal.returns-clause-inserts
returns-clause-inserts g c =
    let old = state g.S.Store c.args.tx.now.conn.now in
    let new = state g.S.Store c.execute.new.self.conn.now in
    let row : Naming = (c.args.entity, c.args.subscription) in
    runs_on old new insert_naming_text _ c.execute.result (Relays Always (with_naming row.0 (Some row.1)))
    (rw (c.params-to_sql.ensures, c.params-to_sql-2.ensures, to_z-of_z c.ranges.entity, to_z-of_z c.ranges.subscription) at c.execute.ensures.runs) c.execute.ensures.survives (inserts_naming old new row c.execute.result)
