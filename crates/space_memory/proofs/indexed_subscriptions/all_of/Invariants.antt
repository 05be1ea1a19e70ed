use Rattle.std.proofs.Common.{◌≡◌, ◌++◌}
use Rattle.std.specs.Prelude.{filter_map}
use Rattle.std.specs.FinMap.{get}
use Rattle.entity_maps.specs.Subscriptions.{subscription_map}
use Rattle.space_memory.proofs.indexed_subscriptions.all_of.Given as goal

abbrev pub invariant-loop-id : goal.invariant-loop-id
invariant-loop-id l = l.found.items ++ filter_map (get (subscription_map l.subscriptions)) l.id-iterator ≡ filter_map (get (subscription_map l.subscriptions)) l.initial.id-iterator
