use Rattle.sqlite.specs.Held.{state}
use Rattle.space_sql_load.specs.Showing.{ShowsTables}
use Rattle.space_sql_select.proofs.Readings.{reads_alive}
use Rattle.space_sql_load.proofs.reading.read_alive.Goals as goal

pub returns-clause-reads : goal.returns-clause-reads
returns-clause-reads g c =
    reads_alive ShowsTables (state g.S.Store c.args.conn.now) (state g.S.Store c.read_tables.new.conn) (state g.S.Store c.is_store_alive.new.conn) c.in_ok-tables.tables
    (c.connection_facts.ensures.settled c.requires) c.in_ok-tables.ensures.reads c.in_ok-is_store_alive.ensures.same c.is_store_alive.ensures.survives
