use Rattle.std.proofs.Common.{drop}
use Rattle.entity_maps.specs.Entities.{entity_map}
use Rattle.space_sql_load.specs.Gathering.{parts_of}
use Rattle.space_sql_load.proofs.Gatherings.{GathersOn}
use Rattle.space_sql_load.proofs.entities.gather_entities.Given as goal

abbrev pub invariant-loop-row : goal.invariant-loop-row
invariant-loop-row l =
    GathersOn l.serial l.numbers l.rows (parts_of l.volumes l.cells l.namings) l.last (drop l.row-index l.rows) (parts_of l.volumes_left l.cells_left l.namings_left) (entity_map l.out)
