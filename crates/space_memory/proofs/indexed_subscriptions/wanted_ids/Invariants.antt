use Rattle.std.specs.FinMap.{get}
use Rattle.entity_maps.specs.Subscriptions.{subscription_map}
use Rattle.entity_core.specs.Search.{is_for_near}
use Rattle.space_memory.specs.Found.{OnlyPassing}
use Rattle.space_memory.specs.IndexedSubscriptions.{volumes_of}
use Rattle.space_memory.proofs.CellSets.{Seen}
use Rattle.space_memory.proofs.FoundIds.{Taken}
use Rattle.space_memory.proofs.indexed_subscriptions.wanted_ids.Given as goal

abbrev pub invariant-loop-part : goal.invariant-loop-part
invariant-loop-part l = record {
  only : OnlyPassing (get (subscription_map l.subscriptions)) (is_for_near l.kind l.areas) l.ids;
  seen : Seen (Taken (get (subscription_map l.subscriptions)) volumes_of (is_for_near l.kind l.areas) l.areas l.ids) l.initial.part-iterator l.part-iterator;
}
