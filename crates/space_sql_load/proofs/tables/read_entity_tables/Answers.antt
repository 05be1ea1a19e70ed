use Rattle.std.proofs.lemmas.Result.{err_from_is_err_and}
use Rattle.sqlite.specs.Held.{state}
use Rattle.space_sql_load.specs.Showing.{ShowsEntityTables}
use Rattle.space_sql_select.proofs.Readings.{reads_then, reads_failed, reads_as}
use Rattle.space_sql_load.proofs.tables.read_entity_tables.Goals as goal

pub returns-in_err-read_volumes-clause-reads : goal.returns-in_err-read_volumes-clause-reads
returns-in_err-read_volumes-clause-reads g c =
    let p = err_from_is_err_and c.from_residual-in_err-read_volumes.result c.from_residual-in_err-read_volumes.ensures.1 in
    reads_failed _ ShowsEntityTables (state g.S.Store c.args.tx.now.conn.now) (state g.S.Store c.read_volumes.new.tx.conn.now) _ _ _ p.1
    (reads_then _ _ (state g.S.Store c.args.tx.now.conn.now) (state g.S.Store c.read_entities.new.tx.conn.now) (state g.S.Store c.read_volumes.new.tx.conn.now) _ _ c.in_ok-read_entities.ensures.reads c.in_err-read_volumes.ensures.reads)

pub returns-in_err-read_cells-clause-reads : goal.returns-in_err-read_cells-clause-reads
returns-in_err-read_cells-clause-reads g c =
    let p = err_from_is_err_and c.from_residual-in_err-read_cells.result c.from_residual-in_err-read_cells.ensures.1 in
    reads_failed _ ShowsEntityTables (state g.S.Store c.args.tx.now.conn.now) (state g.S.Store c.read_cells.new.tx.conn.now) _ _ _ p.1
    (reads_then _ _ (state g.S.Store c.args.tx.now.conn.now) (state g.S.Store c.read_volumes.new.tx.conn.now) (state g.S.Store c.read_cells.new.tx.conn.now) _ _ (reads_then _ _ (state g.S.Store c.args.tx.now.conn.now) (state g.S.Store c.read_entities.new.tx.conn.now) (state g.S.Store c.read_volumes.new.tx.conn.now) _ _ c.in_ok-read_entities.ensures.reads c.in_ok-read_volumes.ensures.reads) c.in_err-read_cells.ensures.reads)

pub returns-in_err-read_namings-clause-reads : goal.returns-in_err-read_namings-clause-reads
returns-in_err-read_namings-clause-reads g c =
    let p = err_from_is_err_and c.from_residual-in_err-read_namings.result c.from_residual-in_err-read_namings.ensures.1 in
    reads_failed _ ShowsEntityTables (state g.S.Store c.args.tx.now.conn.now) (state g.S.Store c.read_namings.new.tx.conn.now) _ _ _ p.1
    (reads_then _ _ (state g.S.Store c.args.tx.now.conn.now) (state g.S.Store c.read_cells.new.tx.conn.now) (state g.S.Store c.read_namings.new.tx.conn.now) _ _ (reads_then _ _ (state g.S.Store c.args.tx.now.conn.now) (state g.S.Store c.read_volumes.new.tx.conn.now) (state g.S.Store c.read_cells.new.tx.conn.now) _ _ (reads_then _ _ (state g.S.Store c.args.tx.now.conn.now) (state g.S.Store c.read_entities.new.tx.conn.now) (state g.S.Store c.read_volumes.new.tx.conn.now) _ _ c.in_ok-read_entities.ensures.reads c.in_ok-read_volumes.ensures.reads) c.in_ok-read_cells.ensures.reads) c.in_err-read_namings.ensures.reads)

pub returns-clause-reads : goal.returns-clause-reads
returns-clause-reads g c = reads_as _ ShowsEntityTables (state g.S.Store c.args.tx.now.conn.now) (state g.S.Store c.read_namings.new.tx.conn.now) _ _ (λ db h. record { entities = h.0.0.0; volumes = h.0.0.1; cells = h.0.1; namings = h.1 })
    (reads_then _ _ (state g.S.Store c.args.tx.now.conn.now) (state g.S.Store c.read_cells.new.tx.conn.now) (state g.S.Store c.read_namings.new.tx.conn.now) _ _ (reads_then _ _ (state g.S.Store c.args.tx.now.conn.now) (state g.S.Store c.read_volumes.new.tx.conn.now) (state g.S.Store c.read_cells.new.tx.conn.now) _ _ (reads_then _ _ (state g.S.Store c.args.tx.now.conn.now) (state g.S.Store c.read_entities.new.tx.conn.now) (state g.S.Store c.read_volumes.new.tx.conn.now) _ _ c.in_ok-read_entities.ensures.reads c.in_ok-read_volumes.ensures.reads) c.in_ok-read_cells.ensures.reads) c.in_ok-read_namings.ensures.reads)
