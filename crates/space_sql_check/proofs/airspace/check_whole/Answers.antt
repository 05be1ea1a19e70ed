use Rattle.sqlite.specs.Held.{state}
use Rattle.space_sql_load.specs.Checking.{JudgesDatabase}
use Rattle.space_sql_load.specs.Showing.{ShowsTables}
use Rattle.space_sql_load.proofs.Checked.{judges_database}
use Rattle.space_sql_check.proofs.Sequences.{alone_so}
use Rattle.space_sql_check.proofs.airspace.check_whole.Goals as goal

pub returns-clause-reads : goal.returns-clause-reads
returns-clause-reads g c =
    let tables = c.in_ok-tables.tables in
    alone_so ShowsTables JudgesDatabase (state g.S.Store c.args.conn.now) (state g.S.Store c.read_tables.new.conn) tables c.check_tables.result
    (λ db has shown. judges_database db tables c.check_tables.result c.check_tables.ensures has shown) c.in_ok-tables.ensures.reads
