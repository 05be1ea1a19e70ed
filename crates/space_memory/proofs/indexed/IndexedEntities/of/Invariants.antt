use Rattle.space_memory.specs.CellIndex.{AllMarked}
use Rattle.space_memory.specs.Names.{IsEntered}
use Rattle.space_memory.proofs.CellSets.{Seen}
use Rattle.space_memory.proofs.indexed.IndexedEntities.of.Given as goal

abbrev pub invariant-loop-entity : goal.invariant-loop-entity
invariant-loop-entity l = record {
  marked : Seen (AllMarked l.marks) l.initial.entity-iterator l.entity-iterator;
  entered : Seen (IsEntered l.names) l.initial.entity-iterator l.entity-iterator;
}
