use Rattle.sqlite.specs.Held.{state}
use Rattle.std.proofs.Common.{◌≡◌}
use Rattle.std.specs.FinMap.{get}
use Rattle.space_sql_lookup.specs.Subscription.{FindsSub}
use Rattle.space_sql_select.proofs.Readings.{reads_alive, reads_spelt}
use Rattle.space_sql_lookup.proofs.subscription.read_subscription.Goals as goal

pub returns-clause-reads : goal.returns-clause-reads
returns-clause-reads g c =
    reads_spelt (FindsSub c.args.id) (λ a found. found ≡ get a.subscriptions c.args.id) (state g.S.Store c.args.conn.now) (state g.S.Store c.is_store_alive.new.conn) _ (λ db x p a s. p a s) (
    reads_alive (FindsSub c.args.id) (state g.S.Store c.args.conn.now) (state g.S.Store c.find_sub_alone.new.conn) (state g.S.Store c.is_store_alive.new.conn) c.in_ok-found.found
    (c.connection_facts.ensures.settled c.requires) c.in_ok-found.ensures.reads c.in_ok-is_store_alive.ensures.same c.is_store_alive.ensures.survives)
