use Rattle.std.proofs.Common.{sym, ◌∙◌}
use Rattle.grid_core.proofs.Sorts.{sorts, sorts_joined, sorts_ordered}
use Rattle.grid_core.proofs.sorted_area.SortedArea.new.Goals as goal

pub joined-requires-clause-ordered : goal.joined-requires-clause-ordered
joined-requires-clause-ordered c =
    sorts_ordered c.cells.result.now c.deref.result.now
    (sorts c.cells.result.now c.in_ok-intervals.intervals.items c.sort.new.intervals.items c.deref.result.now c.in_ok-intervals.ensures.items c.in_ok-intervals.ensures.valid c.sort.ensures.same c.deref.ensures.value)

pub invariant_of-result : goal.invariant_of-result
invariant_of-result c =
    sorts_joined c.in_ok-to_vec.field-0.items c.cells.result.now c.deref.result.now c.in_ok-joined.field-0.items
    (c.in_ok-to_vec.ensures.items_if_clones_equal (λ x y e. e) ∙ (c.cells-2.ensures ∙ sym c.cells.ensures))
    (sorts c.cells.result.now c.in_ok-intervals.intervals.items c.sort.new.intervals.items c.deref.result.now c.in_ok-intervals.ensures.items c.in_ok-intervals.ensures.valid c.sort.ensures.same c.deref.ensures.value)
    c.in_ok-joined.ensures.ordered c.in_ok-joined.ensures.apart c.in_ok-joined.ensures.same
