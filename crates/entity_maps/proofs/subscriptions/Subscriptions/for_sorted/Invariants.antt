use Rattle.std.proofs.Common.{◌≡◌, ◌++◌}
use Rattle.entity_maps.proofs.SubscriptionTrees.{for_near}
use Rattle.entity_maps.proofs.subscriptions.Subscriptions.for_sorted.Given as goal

abbrev pub invariant-loop-sub : goal.invariant-loop-sub
invariant-loop-sub l = l.wanted.items ++ for_near l.kind l.areas l.sub-iterator ≡ for_near l.kind l.areas l.initial.sub-iterator
