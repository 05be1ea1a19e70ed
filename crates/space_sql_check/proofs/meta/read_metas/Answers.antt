use Rattle.sqlite.specs.Held.{state}
use Rattle.space_sql_select.specs.Meta.{ShowsMeta}
use Rattle.space_sql_select.proofs.Means.{metas_list}
use Rattle.space_sql_select.proofs.Readings.{reads_on}
use Rattle.space_sql_select.proofs.Shown.{metas_shown}
use Rattle.space_sql_select.proofs.Texts.{metas_read}
use Rattle.space_sql_check.proofs.meta.read_metas.Goals as goal

pub returns-clause-reads : goal.returns-clause-reads
returns-clause-reads g c =
    let old = state g.S.Store c.args.tx.now.conn.now in
    let new = state g.S.Store c.query_all.new.self.conn.now in
    reads_on metas_read metas_list.plain _ old new ShowsMeta c.query_all.result c.query_all.ensures.ok c.query_all.ensures.err c.query_all.ensures.survives (metas_shown old new)
