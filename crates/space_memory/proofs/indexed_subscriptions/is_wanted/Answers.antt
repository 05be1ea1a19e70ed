use Rattle.std.proofs.Common.{ap, sym, ◌∙◌}
use Rattle.std.specs.FinMap.{get}
use Rattle.std.specs.Option.{option_copied}
use Rattle.grid_core.specs.Volumes.{meets_some}
use Rattle.grid_core.proofs.Meets.{both}
use Rattle.entity_core.specs.Search.{is_for_near}
use Rattle.entity_core.specs.Subscription.{wants}
use Rattle.entity_maps.specs.Subscriptions.{subscription_map}
use Rattle.space_memory.proofs.SearchMaps.{sub_judged}
use Rattle.space_memory.proofs.indexed_subscriptions.is_wanted.Goals as goal

pub returns-then-wants : goal.returns-then-wants
returns-then-wants c =
    let s = c.in-Some.sub.now in
    sub_judged (get (subscription_map c.args.subscriptions.now)) c.args.areas.now (is_for_near c.args.kind c.args.areas.now) c.args.part c.args.bits s c.meets_one_of.result (sym c.get.ensures ∙ ap option_copied c.in-Some.is)
    (λ yes. both (wants s.interest c.args.kind) (meets_some s.volume c.args.areas.now) (sym c.wants.ensures ∙ c.if-wants.true) (c.meets_one_of.ensures.sound yes)) c.meets_one_of.ensures.whole
