use Rattle.entity_maps.specs.Entities.{entity_map}
use Rattle.space_memory.specs.CellIndex.{AllMarked}
use Rattle.space_memory.specs.Names.{IsEntered}
use Rattle.space_memory.proofs.IndexedMaps.{removed_each}
use Rattle.space_memory.proofs.indexed.remove_entity.Goals as goal

pub returns-in-Some-clause-cells : goal.returns-in-Some-clause-cells
returns-in-Some-clause-cells c = c.forget_entity.ensures.cells (removed_each (AllMarked c.args.marks.now) (entity_map c.args.entities.now) (entity_map c.take.new.self) (c.args.kind, c.args.id) c.take.ensures.left c.requires.cells)

pub returns-in-Some-clause-names : goal.returns-in-Some-clause-names
returns-in-Some-clause-names c = c.forget_entity.ensures.names (removed_each (IsEntered c.args.names.now) (entity_map c.args.entities.now) (entity_map c.take.new.self) (c.args.kind, c.args.id) c.take.ensures.left c.requires.names)

pub returns-in_default-clause-cells : goal.returns-in_default-clause-cells
returns-in_default-clause-cells c = removed_each (AllMarked c.args.marks.now) (entity_map c.args.entities.now) (entity_map c.take.new.self) (c.args.kind, c.args.id) c.take.ensures.left c.requires.cells

pub returns-in_default-clause-names : goal.returns-in_default-clause-names
returns-in_default-clause-names c = removed_each (IsEntered c.args.names.now) (entity_map c.args.entities.now) (entity_map c.take.new.self) (c.args.kind, c.args.id) c.take.ensures.left c.requires.names
