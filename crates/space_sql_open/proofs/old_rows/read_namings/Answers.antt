use Rattle.sqlite.specs.Held.{state}
use Rattle.space_sql_schema.specs.Spelling.{two_columns}
use Rattle.space_sql_schema.specs.Tables.{old_unindexed_schema}
use Rattle.space_sql_load.proofs.Texts.{namings_read}
use Rattle.space_sql_open.specs.OldRows.{ReadsAll}
use Rattle.space_sql_open.proofs.OldMeans.{namings_in}
use Rattle.space_sql_open.proofs.OldReads.{reads_all}
use Rattle.space_sql_open.proofs.old_rows.read_namings.Goals as goal
use Rattle.std.proofs.Common.{refl}

pub returns-clause-reads : goal.returns-clause-reads
returns-clause-reads g c =
    let old = state g.S.Store c.args.tx.now.conn.now in
    let new = state g.S.Store c.query_all.new.self.conn.now in
    reads_all old_unindexed_schema namings_read 15 _ _ namings_in old new refl (ReadsAll two_columns 15) (λ rows all same. (all, same)) (λ e. tt) c.query_all.result c.query_all.ensures.ok c.query_all.ensures.err c.query_all.ensures.survives
