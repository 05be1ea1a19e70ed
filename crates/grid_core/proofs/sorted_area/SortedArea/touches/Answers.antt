use Rattle.std.proofs.Common.{ap, ◌∙◌}
use Rattle.std.specs.List.{list_any}
use Rattle.grid_core.specs.Extent.{Region, touches}
use Rattle.grid_core.specs.SortedArea.{interval_of, overlap}
use Rattle.grid_core.specs.declared.sorted_area.Interval.{Interval}
use Rattle.grid_core.proofs.Searches.{touches_sorted}
use Rattle.grid_core.proofs.sorted_area.SortedArea.touches.Goals as goal

pub returns : goal.returns
returns c =
    c.overlaps_one_of.ensures
    ∙ (ap (λ (i : Interval). list_any (overlap i) c.deref.result.now) c.interval_of.ensures.value
    ∙ (ap (list_any (overlap (interval_of c.args.cell))) c.deref.ensures.value
    ∙ (touches_sorted c.args.cell c.self.inside.cells.items c.self.inside.intervals.items c.interval_of.ensures.valid c.self.invariant
    ∙ ap (λ (r : Region). list_any (λ d. touches c.args.cell d) r.cells) c.self.view_is)))
