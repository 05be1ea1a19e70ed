use Rattle.sqlite.specs.Held.{state}
use Rattle.space_sql_schema.specs.Spelling.{three_columns}
use Rattle.space_sql_schema.specs.Tables.{old_first_schema, old_unindexed_schema}
use Rattle.space_sql_load.proofs.Texts.{settings_read}
use Rattle.space_sql_open.specs.OldRows.{ReadsAll}
use Rattle.space_sql_open.proofs.OldMeans.{first_settings_in, settings_in}
use Rattle.space_sql_open.proofs.OldReads.{reads_all}
use Rattle.space_sql_open.proofs.old_rows.read_settings.Goals as goal
use Rattle.std.proofs.Common.{refl}

pub returns-clause-reads : goal.returns-clause-reads
returns-clause-reads g c =
    let old = state g.S.Store c.args.tx.now.conn.now in
    let new = state g.S.Store c.query_all.new.self.conn.now in
    reads_all old_unindexed_schema settings_read 8 _ _ settings_in old new refl (ReadsAll three_columns 8) (λ rows all same. (all, same)) (λ e. tt) c.query_all.result c.query_all.ensures.ok c.query_all.ensures.err c.query_all.ensures.survives

pub returns-clause-first : goal.returns-clause-first
returns-clause-first g c =
    let old = state g.S.Store c.args.tx.now.conn.now in
    let new = state g.S.Store c.query_all.new.self.conn.now in
    reads_all old_first_schema settings_read 8 _ _ first_settings_in old new refl (ReadsAll three_columns 8) (λ rows all same. (all, same)) (λ e. tt) c.query_all.result c.query_all.ensures.ok c.query_all.ensures.err c.query_all.ensures.survives
