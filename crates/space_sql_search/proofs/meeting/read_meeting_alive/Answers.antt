use Rattle.sqlite.specs.Held.{state}
use Rattle.space_sql_search.specs.Met.{FindsMet}
use Rattle.space_sql_select.proofs.Readings.{reads_alive}
use Rattle.space_sql_search.proofs.meeting.read_meeting_alive.Goals as goal

pub returns-clause-reads : goal.returns-clause-reads
returns-clause-reads g c =
    reads_alive (λ db met. FindsMet c.args.kind c.args.areas.now c.args.except db met.items) (state g.S.Store c.args.conn.now) (state g.S.Store c.read_meeting_alone.new.conn) (state g.S.Store c.is_store_alive.new.conn) c.in_ok-met.met
    (c.connection_facts.ensures.settled c.requires.outside) c.in_ok-met.ensures.reads c.in_ok-is_store_alive.ensures.same c.is_store_alive.ensures.survives
