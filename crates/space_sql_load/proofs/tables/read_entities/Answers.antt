use Rattle.sqlite.specs.Held.{state}
use Rattle.space_sql_load.specs.Showing.{ShowsEntities}
use Rattle.space_sql_load.proofs.Texts.{entities_read}
use Rattle.space_sql_load.proofs.Means.{entities_list}
use Rattle.space_sql_load.proofs.Shown.{entities_shown}
use Rattle.space_sql_select.proofs.Readings.{reads_on}
use Rattle.space_sql_load.proofs.tables.read_entities.Goals as goal

pub returns-clause-reads : goal.returns-clause-reads
returns-clause-reads g c =
    let old = state g.S.Store c.args.tx.now.conn.now in
    let new = state g.S.Store c.query_all.new.self.conn.now in
    reads_on entities_read entities_list.plain _ old new ShowsEntities c.query_all.result c.query_all.ensures.ok c.query_all.ensures.err c.query_all.ensures.survives (entities_shown old new)
