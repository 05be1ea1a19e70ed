use Rattle.std.proofs.lemmas.Result.{err_from_is_err_and}
use Rattle.sqlite.specs.Held.{state}
use Rattle.space_sql_load.specs.Showing.{ShowsRowids}
use Rattle.space_sql_select.proofs.Readings.{reads_then, reads_failed, reads_as}
use Rattle.space_sql_load.proofs.tables.read_rowids.Goals as goal

pub returns-in_err-read_cell_ids-clause-reads : goal.returns-in_err-read_cell_ids-clause-reads
returns-in_err-read_cell_ids-clause-reads g c =
    let p = err_from_is_err_and c.from_residual-in_err-read_cell_ids.result c.from_residual-in_err-read_cell_ids.ensures.1 in
    reads_failed _ ShowsRowids (state g.S.Store c.args.tx.now.conn.now) (state g.S.Store c.read_cell_ids.new.tx.conn.now) _ _ _ p.1
    (reads_then _ _ (state g.S.Store c.args.tx.now.conn.now) (state g.S.Store c.read_volume_ids.new.tx.conn.now) (state g.S.Store c.read_cell_ids.new.tx.conn.now) _ _ c.in_ok-read_volume_ids.ensures.reads c.in_err-read_cell_ids.ensures.reads)

pub returns-in_err-read_setting_ids-clause-reads : goal.returns-in_err-read_setting_ids-clause-reads
returns-in_err-read_setting_ids-clause-reads g c =
    let p = err_from_is_err_and c.from_residual-in_err-read_setting_ids.result c.from_residual-in_err-read_setting_ids.ensures.1 in
    reads_failed _ ShowsRowids (state g.S.Store c.args.tx.now.conn.now) (state g.S.Store c.read_setting_ids.new.tx.conn.now) _ _ _ p.1
    (reads_then _ _ (state g.S.Store c.args.tx.now.conn.now) (state g.S.Store c.read_cell_ids.new.tx.conn.now) (state g.S.Store c.read_setting_ids.new.tx.conn.now) _ _ (reads_then _ _ (state g.S.Store c.args.tx.now.conn.now) (state g.S.Store c.read_volume_ids.new.tx.conn.now) (state g.S.Store c.read_cell_ids.new.tx.conn.now) _ _ c.in_ok-read_volume_ids.ensures.reads c.in_ok-read_cell_ids.ensures.reads) c.in_err-read_setting_ids.ensures.reads)

pub returns-in_err-read_sub_cell_ids-clause-reads : goal.returns-in_err-read_sub_cell_ids-clause-reads
returns-in_err-read_sub_cell_ids-clause-reads g c =
    let p = err_from_is_err_and c.from_residual-in_err-read_sub_cell_ids.result c.from_residual-in_err-read_sub_cell_ids.ensures.1 in
    reads_failed _ ShowsRowids (state g.S.Store c.args.tx.now.conn.now) (state g.S.Store c.read_sub_cell_ids.new.tx.conn.now) _ _ _ p.1
    (reads_then _ _ (state g.S.Store c.args.tx.now.conn.now) (state g.S.Store c.read_setting_ids.new.tx.conn.now) (state g.S.Store c.read_sub_cell_ids.new.tx.conn.now) _ _ (reads_then _ _ (state g.S.Store c.args.tx.now.conn.now) (state g.S.Store c.read_cell_ids.new.tx.conn.now) (state g.S.Store c.read_setting_ids.new.tx.conn.now) _ _ (reads_then _ _ (state g.S.Store c.args.tx.now.conn.now) (state g.S.Store c.read_volume_ids.new.tx.conn.now) (state g.S.Store c.read_cell_ids.new.tx.conn.now) _ _ c.in_ok-read_volume_ids.ensures.reads c.in_ok-read_cell_ids.ensures.reads) c.in_ok-read_setting_ids.ensures.reads) c.in_err-read_sub_cell_ids.ensures.reads)

pub returns-clause-reads : goal.returns-clause-reads
returns-clause-reads g c = reads_as _ ShowsRowids (state g.S.Store c.args.tx.now.conn.now) (state g.S.Store c.read_sub_cell_ids.new.tx.conn.now) _ _ (λ db h. record { volumes = h.0.0.0; cells = h.0.0.1; settings = h.0.1; sub_cells = h.1 })
    (reads_then _ _ (state g.S.Store c.args.tx.now.conn.now) (state g.S.Store c.read_setting_ids.new.tx.conn.now) (state g.S.Store c.read_sub_cell_ids.new.tx.conn.now) _ _ (reads_then _ _ (state g.S.Store c.args.tx.now.conn.now) (state g.S.Store c.read_cell_ids.new.tx.conn.now) (state g.S.Store c.read_setting_ids.new.tx.conn.now) _ _ (reads_then _ _ (state g.S.Store c.args.tx.now.conn.now) (state g.S.Store c.read_volume_ids.new.tx.conn.now) (state g.S.Store c.read_cell_ids.new.tx.conn.now) _ _ c.in_ok-read_volume_ids.ensures.reads c.in_ok-read_cell_ids.ensures.reads) c.in_ok-read_setting_ids.ensures.reads) c.in_ok-read_sub_cell_ids.ensures.reads)
