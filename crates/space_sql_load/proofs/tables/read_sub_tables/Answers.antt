use Rattle.std.proofs.lemmas.Result.{err_from_is_err_and}
use Rattle.sqlite.specs.Held.{state}
use Rattle.space_sql_load.specs.Showing.{ShowsSubTables}
use Rattle.space_sql_select.proofs.Readings.{reads_then, reads_failed, reads_as}
use Rattle.space_sql_load.proofs.tables.read_sub_tables.Goals as goal

pub returns-in_err-read_sub_cells-clause-reads : goal.returns-in_err-read_sub_cells-clause-reads
returns-in_err-read_sub_cells-clause-reads g c =
    let p = err_from_is_err_and c.from_residual-in_err-read_sub_cells.result c.from_residual-in_err-read_sub_cells.ensures.1 in
    reads_failed _ ShowsSubTables (state g.S.Store c.args.tx.now.conn.now) (state g.S.Store c.read_sub_cells.new.tx.conn.now) _ _ _ p.1
    (reads_then _ _ (state g.S.Store c.args.tx.now.conn.now) (state g.S.Store c.read_subscriptions.new.tx.conn.now) (state g.S.Store c.read_sub_cells.new.tx.conn.now) _ _ c.in_ok-read_subscriptions.ensures.reads c.in_err-read_sub_cells.ensures.reads)

pub returns-clause-reads : goal.returns-clause-reads
returns-clause-reads g c = reads_as _ ShowsSubTables (state g.S.Store c.args.tx.now.conn.now) (state g.S.Store c.read_sub_cells.new.tx.conn.now) _ _ (λ db h. record { subscriptions = h.0; cells = h.1 })
    (reads_then _ _ (state g.S.Store c.args.tx.now.conn.now) (state g.S.Store c.read_subscriptions.new.tx.conn.now) (state g.S.Store c.read_sub_cells.new.tx.conn.now) _ _ c.in_ok-read_subscriptions.ensures.reads c.in_ok-read_sub_cells.ensures.reads)
