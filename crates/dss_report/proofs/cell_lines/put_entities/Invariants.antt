use Rattle.std.proofs.Common.{take}
use Rattle.dss_report.specs.CellLines.{AddsPlaces, places_of}
use Rattle.dss_report.proofs.cell_lines.put_entities.Given as goal

abbrev pub invariant-loop-entity : goal.invariant-loop-entity
invariant-loop-entity l = AddsPlaces (places_of (take l.entity-index l.entities)) l.fn.text.items l.text.items
