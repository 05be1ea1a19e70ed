use Rattle.std.proofs.Common.{take}
use Rattle.std.specs.List.{All}
use Rattle.space_memory.specs.Near.{HasSpansOf, Widens}
use Rattle.space_memory.proofs.near.add_all.Given as goal

abbrev pub invariant-loop-cell : goal.invariant-loop-cell
invariant-loop-cell l = record { kept : Widens l.initial.spans l.spans; there : All (HasSpansOf l.spans l.bits) (take l.cell-index l.cells) }
