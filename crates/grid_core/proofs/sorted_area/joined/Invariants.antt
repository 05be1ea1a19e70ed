use Rattle.grid_core.proofs.Joins.{Joins}
use Rattle.grid_core.proofs.sorted_area.joined.Given as goal

abbrev pub invariant-loop-next : goal.invariant-loop-next
invariant-loop-next l = Joins l.intervals l.joined.items l.last l.next-index
