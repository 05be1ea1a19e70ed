use Rattle.sqlite.specs.Held.{state}
use Rattle.space_sql_load.specs.Showing.{ShowsVolumeIds}
use Rattle.space_sql_load.proofs.Texts.{volume_ids_read}
use Rattle.space_sql_load.proofs.Means.{volume_ids_list}
use Rattle.space_sql_load.proofs.Shown.{volume_ids_shown}
use Rattle.space_sql_select.proofs.Readings.{reads_on}
use Rattle.space_sql_load.proofs.tables.read_volume_ids.Goals as goal

pub returns-clause-reads : goal.returns-clause-reads
returns-clause-reads g c =
    let old = state g.S.Store c.args.tx.now.conn.now in
    let new = state g.S.Store c.query_all.new.self.conn.now in
    reads_on volume_ids_read volume_ids_list.plain _ old new ShowsVolumeIds c.query_all.result c.query_all.ensures.ok c.query_all.ensures.err c.query_all.ensures.survives (volume_ids_shown old new)
