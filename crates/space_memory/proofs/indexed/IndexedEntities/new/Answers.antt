use Rattle.space_memory.specs.CellIndex.{AllMarked}
use Rattle.space_memory.specs.Names.{IsEntered}
use Rattle.space_memory.proofs.IndexedMaps.{none_each}
use Rattle.space_memory.proofs.indexed.IndexedEntities.new.Goals as goal

pub invariant_of-result : goal.invariant_of-result
invariant_of-result c =
    (none_each (AllMarked c.new-2.result) c.new.result c.new.ensures, none_each (IsEntered c.new-3.result) c.new.result c.new.ensures)
