use Rattle.std.proofs.Common.{◌≡◌, take, map, Ok}
use Rattle.service_step.specs.Looks.{LooksUp}
use Rattle.service_step.specs.Step.{seen_sub}
use Rattle.service_step.proofs.sub_effects.sub_views_of.Given as goal

abbrev pub invariant-loop-sub : goal.invariant-loop-sub
invariant-loop-sub g l =
    LooksUp g.S.Space l.fn.space l.space (Ok l.items.items)
    (λ a views. views ≡ map (seen_sub a) (take l.sub-index l.subs))
