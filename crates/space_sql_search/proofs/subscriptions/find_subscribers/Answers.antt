use Rattle.std.proofs.Common.{◌≡◌, ◌∙◌}
use Rattle.sqlite.specs.Held.{state}
use Rattle.entity_core.specs.Search.{subscribers_in}
use Rattle.entity_maps.specs.Subscriptions.{subscription_map}
use Rattle.space_sql_search.specs.Candidates.{HoldsNearSubs}
use Rattle.space_sql_search.proofs.Answered.{tables_as}
use Rattle.space_sql_search.proofs.Exact.{one_wanting}
use Rattle.space_sql_search.proofs.subscriptions.find_subscribers.Goals as goal

pub returns-clause-reads : goal.returns-clause-reads
returns-clause-reads g c =
    let areas = c.args.areas.now in
    let near = c.in_ok-near.near in
    tables_as (λ a found. HoldsNearSubs areas a.subscriptions found) (λ a found. found.items ≡ subscribers_in a.subscriptions c.args.kind areas) (state g.S.Store c.args.conn.now) (state g.S.Store c.read_near.new.conn) near _
    (λ a h. c.in_ok-wanting.ensures ∙ one_wanting c.args.kind areas (subscription_map near) a.subscriptions h) c.in_ok-near.ensures.reads
