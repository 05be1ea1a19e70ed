use Rattle.std.proofs.Common.{take}
use Rattle.std.specs.Prelude.{map}
use Rattle.dss_report.specs.CellLines.{AddsPlaces, place_in}
use Rattle.dss_report.proofs.cell_lines.put_volume.Given as goal

abbrev pub invariant-loop-cell : goal.invariant-loop-cell
invariant-loop-cell l = AddsPlaces (map (place_in l.entity l.volume) (take l.cell-index l.volume.cells)) l.fn.text.items l.text.items
