use Rattle.std.proofs.Common.{take}
use Rattle.std.specs.List.{flat_map}
use Rattle.dss_report.specs.CellLines.{AddsPlaces, places_of_volume}
use Rattle.dss_report.proofs.cell_lines.put_entity.Given as goal

abbrev pub invariant-loop-volume : goal.invariant-loop-volume
invariant-loop-volume l = AddsPlaces (flat_map (places_of_volume l.entity) (take l.volume-index l.entity.volumes)) l.fn.text.items l.text.items
