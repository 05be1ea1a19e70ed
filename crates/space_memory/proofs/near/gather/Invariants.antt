use Rattle.space_memory.specs.CellIndex.{mark_cmp}
use Rattle.space_memory.specs.Near.{HasBits, Widens, part_of}
use Rattle.space_memory.proofs.CellSets.{Left}
use Rattle.space_memory.proofs.near.gather.Given as goal

abbrev pub invariant-loop-found : goal.invariant-loop-found
invariant-loop-found l = record { kept : Widens l.initial.near l.near; left : Left mark_cmp l.initial.found-iterator l.found-iterator (λ q. HasBits l.near (part_of q) l.bits) }
