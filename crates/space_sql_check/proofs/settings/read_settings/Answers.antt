use Rattle.sqlite.specs.Held.{state}
use Rattle.space_sql_load.specs.Showing.{ShowsSettings}
use Rattle.space_sql_load.proofs.Means.{settings_list}
use Rattle.space_sql_load.proofs.Shown.{settings_shown}
use Rattle.space_sql_load.proofs.Texts.{settings_read}
use Rattle.space_sql_select.proofs.Readings.{reads_on}
use Rattle.space_sql_check.proofs.settings.read_settings.Goals as goal

pub returns-clause-reads : goal.returns-clause-reads
returns-clause-reads g c =
    let old = state g.S.Store c.args.tx.now.conn.now in
    let new = state g.S.Store c.query_all.new.self.conn.now in
    reads_on settings_read settings_list.plain _ old new ShowsSettings c.query_all.result c.query_all.ensures.ok c.query_all.ensures.err c.query_all.ensures.survives (settings_shown old new)
