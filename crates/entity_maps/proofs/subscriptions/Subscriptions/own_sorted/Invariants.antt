use Rattle.std.proofs.Common.{◌≡◌, ◌++◌}
use Rattle.entity_maps.proofs.SubscriptionTrees.{own_near}
use Rattle.entity_maps.proofs.subscriptions.Subscriptions.own_sorted.Given as goal

abbrev pub invariant-loop-sub : goal.invariant-loop-sub
invariant-loop-sub l = l.own.items ++ own_near l.uss l.area l.sub-iterator ≡ own_near l.uss l.area l.initial.sub-iterator
