use Rattle.std.proofs.lemmas.Result.{err_from_is_err_and}
use Rattle.sqlite.specs.Held.{state}
use Rattle.space_sql_load.specs.Showing.{ShowsTables}
use Rattle.space_sql_select.proofs.Readings.{reads_then, reads_failed, reads_as}
use Rattle.space_sql_load.proofs.tables.read_all.Goals as goal

pub returns-in_err-read_sub_tables-clause-reads : goal.returns-in_err-read_sub_tables-clause-reads
returns-in_err-read_sub_tables-clause-reads g c =
    let p = err_from_is_err_and c.from_residual-in_err-read_sub_tables.result c.from_residual-in_err-read_sub_tables.ensures.1 in
    reads_failed _ ShowsTables (state g.S.Store c.args.tx.now.conn.now) (state g.S.Store c.read_sub_tables.new.tx.conn.now) _ _ _ p.1
    (reads_then _ _ (state g.S.Store c.args.tx.now.conn.now) (state g.S.Store c.read_metas.new.tx.conn.now) (state g.S.Store c.read_sub_tables.new.tx.conn.now) _ _ c.in_ok-read_metas.ensures.reads c.in_err-read_sub_tables.ensures.reads)

pub returns-in_err-read_entity_tables-clause-reads : goal.returns-in_err-read_entity_tables-clause-reads
returns-in_err-read_entity_tables-clause-reads g c =
    let p = err_from_is_err_and c.from_residual-in_err-read_entity_tables.result c.from_residual-in_err-read_entity_tables.ensures.1 in
    reads_failed _ ShowsTables (state g.S.Store c.args.tx.now.conn.now) (state g.S.Store c.read_entity_tables.new.tx.conn.now) _ _ _ p.1
    (reads_then _ _ (state g.S.Store c.args.tx.now.conn.now) (state g.S.Store c.read_sub_tables.new.tx.conn.now) (state g.S.Store c.read_entity_tables.new.tx.conn.now) _ _ (reads_then _ _ (state g.S.Store c.args.tx.now.conn.now) (state g.S.Store c.read_metas.new.tx.conn.now) (state g.S.Store c.read_sub_tables.new.tx.conn.now) _ _ c.in_ok-read_metas.ensures.reads c.in_ok-read_sub_tables.ensures.reads) c.in_err-read_entity_tables.ensures.reads)

pub returns-in_err-read_settings-clause-reads : goal.returns-in_err-read_settings-clause-reads
returns-in_err-read_settings-clause-reads g c =
    let p = err_from_is_err_and c.from_residual-in_err-read_settings.result c.from_residual-in_err-read_settings.ensures.1 in
    reads_failed _ ShowsTables (state g.S.Store c.args.tx.now.conn.now) (state g.S.Store c.read_settings.new.tx.conn.now) _ _ _ p.1
    (reads_then _ _ (state g.S.Store c.args.tx.now.conn.now) (state g.S.Store c.read_entity_tables.new.tx.conn.now) (state g.S.Store c.read_settings.new.tx.conn.now) _ _ (reads_then _ _ (state g.S.Store c.args.tx.now.conn.now) (state g.S.Store c.read_sub_tables.new.tx.conn.now) (state g.S.Store c.read_entity_tables.new.tx.conn.now) _ _ (reads_then _ _ (state g.S.Store c.args.tx.now.conn.now) (state g.S.Store c.read_metas.new.tx.conn.now) (state g.S.Store c.read_sub_tables.new.tx.conn.now) _ _ c.in_ok-read_metas.ensures.reads c.in_ok-read_sub_tables.ensures.reads) c.in_ok-read_entity_tables.ensures.reads) c.in_err-read_settings.ensures.reads)

pub returns-in_err-read_rowids-clause-reads : goal.returns-in_err-read_rowids-clause-reads
returns-in_err-read_rowids-clause-reads g c =
    let p = err_from_is_err_and c.from_residual-in_err-read_rowids.result c.from_residual-in_err-read_rowids.ensures.1 in
    reads_failed _ ShowsTables (state g.S.Store c.args.tx.now.conn.now) (state g.S.Store c.read_rowids.new.tx.conn.now) _ _ _ p.1
    (reads_then _ _ (state g.S.Store c.args.tx.now.conn.now) (state g.S.Store c.read_settings.new.tx.conn.now) (state g.S.Store c.read_rowids.new.tx.conn.now) _ _ (reads_then _ _ (state g.S.Store c.args.tx.now.conn.now) (state g.S.Store c.read_entity_tables.new.tx.conn.now) (state g.S.Store c.read_settings.new.tx.conn.now) _ _ (reads_then _ _ (state g.S.Store c.args.tx.now.conn.now) (state g.S.Store c.read_sub_tables.new.tx.conn.now) (state g.S.Store c.read_entity_tables.new.tx.conn.now) _ _ (reads_then _ _ (state g.S.Store c.args.tx.now.conn.now) (state g.S.Store c.read_metas.new.tx.conn.now) (state g.S.Store c.read_sub_tables.new.tx.conn.now) _ _ c.in_ok-read_metas.ensures.reads c.in_ok-read_sub_tables.ensures.reads) c.in_ok-read_entity_tables.ensures.reads) c.in_ok-read_settings.ensures.reads) c.in_err-read_rowids.ensures.reads)

pub returns-clause-reads : goal.returns-clause-reads
returns-clause-reads g c = reads_as _ ShowsTables (state g.S.Store c.args.tx.now.conn.now) (state g.S.Store c.read_rowids.new.tx.conn.now) _ _ (λ db h. record { metas = h.0.0.0.0; subscriptions = h.0.0.0.1; entities = h.0.0.1; settings = h.0.1; rowids = h.1 })
    (reads_then _ _ (state g.S.Store c.args.tx.now.conn.now) (state g.S.Store c.read_settings.new.tx.conn.now) (state g.S.Store c.read_rowids.new.tx.conn.now) _ _ (reads_then _ _ (state g.S.Store c.args.tx.now.conn.now) (state g.S.Store c.read_entity_tables.new.tx.conn.now) (state g.S.Store c.read_settings.new.tx.conn.now) _ _ (reads_then _ _ (state g.S.Store c.args.tx.now.conn.now) (state g.S.Store c.read_sub_tables.new.tx.conn.now) (state g.S.Store c.read_entity_tables.new.tx.conn.now) _ _ (reads_then _ _ (state g.S.Store c.args.tx.now.conn.now) (state g.S.Store c.read_metas.new.tx.conn.now) (state g.S.Store c.read_sub_tables.new.tx.conn.now) _ _ c.in_ok-read_metas.ensures.reads c.in_ok-read_sub_tables.ensures.reads) c.in_ok-read_entity_tables.ensures.reads) c.in_ok-read_settings.ensures.reads) c.in_ok-read_rowids.ensures.reads)
