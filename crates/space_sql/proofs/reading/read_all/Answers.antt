use Rattle.std.proofs.Common.{◌≡◌}
use Rattle.sqlite.specs.Held.{state}
use Rattle.entity_core.specs.Search.{all_in}
use Rattle.space_sql.proofs.Readings.{found_in}
use Rattle.space_sql.proofs.reading.read_all.Goals as goal

pub returns-in-Ok-clause-reads : goal.returns-in-Ok-clause-reads
returns-in-Ok-clause-reads g c = found_in (state g.S.Store c.args.conn.now) (state g.S.Store c.read_loaded.new.conn) c.in-Ok.listed c.all_among.result (λ a found. found.items ≡ all_in a.entities c.args.kind) c.in-Ok.ensures.reads c.all_among.ensures
