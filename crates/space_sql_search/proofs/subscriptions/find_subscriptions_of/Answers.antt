use Rattle.std.proofs.Common.{◌≡◌, ◌∙◌, List, subst}
use Rattle.sqlite.specs.Held.{state}
use Rattle.grid_core.specs.Extent.{Region}
use Rattle.entity_core.specs.Search.{subscriptions_in}
use Rattle.entity_maps.specs.Subscriptions.{subscription_map}
use Rattle.space_sql_search.specs.Candidates.{HoldsNearSubs}
use Rattle.space_sql_search.proofs.Answered.{tables_as}
use Rattle.space_sql_search.proofs.Exact.{one_own}
use Rattle.space_sql_search.proofs.subscriptions.find_subscriptions_of.Goals as goal

pub returns-clause-reads : goal.returns-clause-reads
returns-clause-reads g c =
    let uss = c.args.uss.now in
    let area = c.args.area.now in
    let near = c.in_ok-near.near in
    tables_as (λ a found. HoldsNearSubs c.from_ref.result.now a.subscriptions found) (λ a found. found.items ≡ subscriptions_in a.subscriptions uss area) (state g.S.Store c.args.conn.now) (state g.S.Store c.read_near.new.conn) near _
    (λ a h. c.in_ok-own.ensures ∙ one_own uss area (subscription_map near) a.subscriptions (subst (λ (l : List Region). HoldsNearSubs l a.subscriptions near) c.from_ref.ensures.value h)) c.in_ok-near.ensures.reads
