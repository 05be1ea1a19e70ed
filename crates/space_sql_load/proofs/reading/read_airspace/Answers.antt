use Rattle.sqlite.specs.Held.{state}
use Rattle.space_sql_select.proofs.Readings.{alive_judged}
use Rattle.space_sql_load.specs.Checking.{JudgesDatabase}
use Rattle.space_sql_load.specs.Showing.{ShowsTables}
use Rattle.space_sql_load.proofs.Checked.{judges_database}
use Rattle.space_sql_load.proofs.reading.read_airspace.Goals as goal

pub returns-clause-reads : goal.returns-clause-reads
returns-clause-reads g c =
    alive_judged ShowsTables JudgesDatabase (state g.S.Store c.args.conn.now) (state g.S.Store c.read_alive.new.conn) c.in_ok-tables.tables c.check_tables.result
    (λ db has shown. judges_database db c.in_ok-tables.tables c.check_tables.result c.check_tables.ensures has shown) c.in_ok-tables.ensures.reads
