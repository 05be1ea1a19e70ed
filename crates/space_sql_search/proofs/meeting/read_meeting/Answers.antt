use Rattle.std.proofs.Common.{◌≡◌}
use Rattle.sqlite.specs.Held.{state}
use Rattle.space_core.specs.Met.{met_in}
use Rattle.space_sql_select.proofs.Readings.{reads_spelt}
use Rattle.space_sql_search.specs.Met.{FindsMet}
use Rattle.space_sql_search.proofs.meeting.read_meeting.Goals as goal

pub returns-clause-reads : goal.returns-clause-reads
returns-clause-reads g c =
    let areas = c.args.areas.now in
    reads_spelt (λ db met. FindsMet c.args.kind areas c.args.except db met.items) (λ a met. met.items ≡ met_in a c.args.kind areas c.args.except) (state g.S.Store c.args.conn.now) (state g.S.Store c.read_meeting_alive.new.conn) c.read_meeting_alive.result
    (λ db met p a s. p a s) c.read_meeting_alive.ensures.reads
