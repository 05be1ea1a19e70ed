use Rattle.std.proofs.Common.{to_z-of_z}
use Rattle.sqlite.specs.Held.{state}
use Rattle.space_sql_write.specs.Layout.{Always, Relays, without_sub_cells}
use Rattle.space_sql_write.proofs.Texts.{clear_sub_cells_text}
use Rattle.space_sql_write.proofs.Running.{runs_on}
use Rattle.space_sql_write.proofs.Removing.{clears_sub_cells}
use Rattle.space_sql_write.proofs.sub_remove.clear_sub_cells.Goals as goal

pub returns-clause-clears : goal.returns-clause-clears
returns-clause-clears g c =
    let old = state g.S.Store c.args.tx.now.conn.now in
    let new = state g.S.Store c.execute.new.self.conn.now in
    let num = c.args.num in
    runs_on old new clear_sub_cells_text _ c.execute.result (Relays Always (without_sub_cells num))
    (rw (c.params-to_sql.ensures, to_z-of_z c.ranges.num) at c.execute.ensures.runs) c.execute.ensures.survives (clears_sub_cells old new num c.execute.result)
