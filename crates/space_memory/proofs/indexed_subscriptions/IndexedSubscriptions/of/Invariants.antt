use Rattle.space_memory.specs.IndexedSubscriptions.{AllMarked}
use Rattle.space_memory.proofs.CellSets.{Seen}
use Rattle.space_memory.proofs.indexed_subscriptions.IndexedSubscriptions.of.Given as goal

abbrev pub invariant-loop-sub : goal.invariant-loop-sub
invariant-loop-sub l = Seen (AllMarked l.marks) l.initial.sub-iterator l.sub-iterator
