use Rattle.sqlite.specs.Held.{state}
use Rattle.space_sql_load.proofs.Checked.{reads_database}
use Rattle.space_sql_load.proofs.reading.read_airspace_in_transaction.Goals as goal

pub returns-clause-reads : goal.returns-clause-reads
returns-clause-reads g c = reads_database (state g.S.Store c.args.tx.now.conn.now) (state g.S.Store c.read_all.new.tx.conn.now) c.in_ok-tables.tables c.check_tables.result c.check_tables.ensures c.in_ok-tables.ensures.reads
