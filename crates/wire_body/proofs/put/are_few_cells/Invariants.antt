use Rattle.std.proofs.Common.{◌≡◌, ◌+◌, take, length}
use Rattle.std.specs.Prelude.{sum_by}
use Rattle.wire_body.proofs.put.are_few_cells.Given as goal

abbrev pub invariant-loop-volume : goal.invariant-loop-volume
invariant-loop-volume l = l.left + sum_by (λ e. length e.cells) (take l.volume-index l.volumes) ≡ 2048
