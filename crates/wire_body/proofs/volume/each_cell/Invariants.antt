use Rattle.std.proofs.Common.{◌≡◌, drop}
use Rattle.serde_json.specs.View.{items_view}
use Rattle.wire_body.specs.Volume.{cell_in}
use Rattle.wire_body.specs.Member.{each}
use Rattle.wire_body.proofs.Fronts.{with_front}
use Rattle.wire_body.proofs.volume.each_cell.Given as goal

abbrev pub invariant-loop-value : goal.invariant-loop-value
invariant-loop-value l = each cell_in (items_view l.items) ≡ with_front l.cells.items (each cell_in (items_view (drop l.value-index l.items)))
