use Rattle.std.specs.Prelude.{IfSome}
use Rattle.sqlite.specs.Held.{state}
use Rattle.space_sql_load.specs.Checking.{JudgesDatabase}
use Rattle.space_sql_select.proofs.Readings.{reads_alive}
use Rattle.space_sql_check.proofs.Sequences.{alone_memory}
use Rattle.space_sql_check.proofs.airspace.check_at_once.Goals as goal

pub returns-clause-reads : goal.returns-clause-reads
returns-clause-reads g c =
    let old = state g.S.Store c.args.conn.now in
    let mid = state g.S.Store c.check_whole-read.new.conn in
    let new = state g.S.Store c.is_store_alive.new.conn in
    let check = c.in_ok-check.check in
    reads_alive (λ db o. IfSome o (JudgesDatabase db)) old mid new check (c.connection_facts.ensures.settled c.requires) (alone_memory old mid c.check_whole-read.result check c.in_ok-check.ensures c.check_whole-read.ensures.reads) c.in_ok-is_store_alive.ensures.same c.is_store_alive.ensures.survives
