use Rattle.space_memory.specs.Near.{Gathers}
use Rattle.space_memory.proofs.CellSets.{Seen}
use Rattle.space_memory.proofs.near.gather_all.Given as goal

abbrev pub invariant-loop-span : goal.invariant-loop-span
invariant-loop-span l = record {
  seen : Seen (λ e. Gathers l.marks e.0 e.1 l.near) l.initial.span-iterator l.span-iterator;
  done : Gathers l.marks l.done.0 l.done.1 l.near;
}
