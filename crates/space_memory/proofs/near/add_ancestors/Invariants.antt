use Rattle.std.proofs.Common.{◌<◌, ℕ}
use Rattle.grid_core.specs.Cell.{parent_of}
use Rattle.space_memory.specs.Near.{HasBits, Widens, exact_of}
use Rattle.space_memory.proofs.near.add_ancestors.Given as goal

abbrev pub invariant-loop-level : goal.invariant-loop-level
invariant-loop-level l = record { kept : Widens l.initial.spans l.spans; there : (k : ℕ) → k < l.level → HasBits l.spans (exact_of (parent_of l.cell k)) l.bits }
