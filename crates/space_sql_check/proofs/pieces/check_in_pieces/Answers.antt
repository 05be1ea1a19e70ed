use Rattle.sqlite.specs.Held.{state}
use Rattle.space_sql_select.proofs.Readings.{reads_alive}
use Rattle.space_sql_check.specs.Checking.{JudgesSound}
use Rattle.space_sql_check.proofs.Sequences.{alive_sound}
use Rattle.space_sql_check.proofs.pieces.check_in_pieces.Goals as goal

pub returns-clause-reads : goal.returns-clause-reads
returns-clause-reads g c =
    let old = state g.S.Store c.args.conn.now in
    let mid = state g.S.Store c.check_alone.new.conn in
    let new = state g.S.Store c.is_store_alive.new.conn in
    alive_sound old new c.in_ok-verdict.verdict c.connection_facts-2.ensures.live
    (reads_alive JudgesSound old mid new c.in_ok-verdict.verdict (c.connection_facts.ensures.settled c.requires) c.in_ok-verdict.ensures.reads c.in_ok-is_store_alive.ensures.same c.is_store_alive.ensures.survives)
