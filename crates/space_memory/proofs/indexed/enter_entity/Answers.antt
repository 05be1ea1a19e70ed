use Rattle.entity_maps.specs.Entities.{entity_map}
use Rattle.space_memory.proofs.IndexedMaps.{grown_index}
use Rattle.space_memory.proofs.NamePairs.{index_more}
use Rattle.space_memory.proofs.indexed.enter_entity.Goals as goal

pub returns-in-Ok-clause-names : goal.returns-in-Ok-clause-names
returns-in-Ok-clause-names c = index_more (entity_map c.args.entities.now) c.args.names.now c.add_entity.new.names c.add_entity.ensures.more_names

pub returns-in-Err-clause-cells : goal.returns-in-Err-clause-cells
returns-in-Err-clause-cells c = λ h. c.forget_entity.ensures.cells (grown_index (entity_map c.args.entities.now) c.args.marks.now c.add_entity.new.marks c.add_entity.ensures.more_cells h)

pub returns-in-Err-clause-names : goal.returns-in-Err-clause-names
returns-in-Err-clause-names c = λ h. c.forget_entity.ensures.names (index_more (entity_map c.args.entities.now) c.args.names.now c.add_entity.new.names c.add_entity.ensures.more_names h)
