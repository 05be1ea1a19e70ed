use Rattle.sqlite.specs.Held.{state}
use Rattle.std.proofs.Common.{◌≡◌}
use Rattle.entity_core.specs.Search.{dependents_in}
use Rattle.space_sql_lookup.specs.Dependents.{FindsDependents}
use Rattle.space_sql_select.proofs.Readings.{reads_alive, reads_spelt}
use Rattle.space_sql_lookup.proofs.dependents.read_dependents.Goals as goal

pub returns-clause-reads : goal.returns-clause-reads
returns-clause-reads g c =
    reads_spelt (λ db ids. FindsDependents c.args.id db ids.items) (λ a found. found.items ≡ dependents_in a.entities c.args.id) (state g.S.Store c.args.conn.now) (state g.S.Store c.is_store_alive.new.conn) _ (λ db x p a s. p a s) (
    reads_alive (λ db ids. FindsDependents c.args.id db ids.items) (state g.S.Store c.args.conn.now) (state g.S.Store c.find_dependents_alone.new.conn) (state g.S.Store c.is_store_alive.new.conn) c.in_ok-ids.ids
    (c.connection_facts.ensures.settled c.requires) c.in_ok-ids.ensures.reads c.in_ok-is_store_alive.ensures.same c.is_store_alive.ensures.survives)
