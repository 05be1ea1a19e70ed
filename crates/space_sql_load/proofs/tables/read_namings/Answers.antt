use Rattle.sqlite.specs.Held.{state}
use Rattle.space_sql_load.specs.Showing.{ShowsNamings}
use Rattle.space_sql_load.proofs.Texts.{namings_read}
use Rattle.space_sql_load.proofs.Means.{namings_list}
use Rattle.space_sql_load.proofs.Shown.{namings_shown}
use Rattle.space_sql_select.proofs.Readings.{reads_on}
use Rattle.space_sql_load.proofs.tables.read_namings.Goals as goal

pub returns-clause-reads : goal.returns-clause-reads
returns-clause-reads g c =
    let old = state g.S.Store c.args.tx.now.conn.now in
    let new = state g.S.Store c.query_all.new.self.conn.now in
    reads_on namings_read namings_list.plain _ old new ShowsNamings c.query_all.result c.query_all.ensures.ok c.query_all.ensures.err c.query_all.ensures.survives (namings_shown old new)
