use Rattle.std.proofs.Common.{ap, sym, ◌∙◌}
use Rattle.std.specs.FinMap.{get}
use Rattle.std.specs.Option.{option_copied}
use Rattle.grid_core.specs.Volumes.{meets_some}
use Rattle.grid_core.proofs.Meets.{both}
use Rattle.entity_core.specs.IdTexts.{same_text}
use Rattle.entity_maps.specs.Subscriptions.{subscription_map}
use Rattle.space_memory.specs.Found.{is_own_of}
use Rattle.space_memory.proofs.SearchMaps.{sub_judged}
use Rattle.space_memory.proofs.indexed_subscriptions.is_own.Goals as goal

pub returns-then-is_of : goal.returns-then-is_of
returns-then-is_of c =
    let s = c.in-Some.sub.now in
    sub_judged (get (subscription_map c.args.subscriptions.now)) c.args.areas.now (is_own_of c.args.uss.now c.args.areas.now) c.args.part c.args.bits s c.meets_one_of.result (sym c.get.ensures ∙ ap option_copied c.in-Some.is)
    (λ yes. both (same_text s.manager c.args.uss.now) (meets_some s.volume c.args.areas.now) (sym c.is_of.ensures ∙ c.if-is_of.true) (c.meets_one_of.ensures.sound yes)) c.meets_one_of.ensures.whole
