use Rattle.sqlite.specs.Held.{state}
use Rattle.space_sql_load.specs.Showing.{ShowsSubCellIds}
use Rattle.space_sql_load.proofs.Texts.{sub_cell_ids_read}
use Rattle.space_sql_load.proofs.Means.{sub_cell_ids_list}
use Rattle.space_sql_load.proofs.Shown.{sub_cell_ids_shown}
use Rattle.space_sql_select.proofs.Readings.{reads_on}
use Rattle.space_sql_load.proofs.tables.read_sub_cell_ids.Goals as goal

pub returns-clause-reads : goal.returns-clause-reads
returns-clause-reads g c =
    let old = state g.S.Store c.args.tx.now.conn.now in
    let new = state g.S.Store c.query_all.new.self.conn.now in
    reads_on sub_cell_ids_read sub_cell_ids_list.plain _ old new ShowsSubCellIds c.query_all.result c.query_all.ensures.ok c.query_all.ensures.err c.query_all.ensures.survives (sub_cell_ids_shown old new)
