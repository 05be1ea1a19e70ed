use Rattle.sqlite.specs.Held.{state}
use Rattle.sqlite.specs.Values.{bound}
use Rattle.space_sql_select.specs.Selecting.{Answers}
use Rattle.space_sql_select.proofs.Readings.{reads_alive}
use Rattle.space_sql_select.proofs.select.select.Goals as goal

pub returns-clause-reads : goal.returns-clause-reads
returns-clause-reads g c =
    reads_alive (λ db rows. Answers c.args.sql.now (bound c.args.params.now) db rows.items) (state g.S.Store c.args.conn.now) (state g.S.Store c.query_alone.new.conn) (state g.S.Store c.is_store_alive.new.conn) c.in_ok-rows.rows
    (c.connection_facts.ensures.settled c.requires.outside) c.in_ok-rows.ensures.reads c.in_ok-is_store_alive.ensures.same c.is_store_alive.ensures.survives
