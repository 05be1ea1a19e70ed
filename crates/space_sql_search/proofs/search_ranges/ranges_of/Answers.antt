use Rattle.std.proofs.Common.{arith, subst, take, List}
use Rattle.std.specs.List.{AllByRecursion}
use Rattle.std.proofs.lemmas.List.{take_all}
use Rattle.sqlite_rules.proofs.ListLemmas.{all_more}
use Rattle.grid_core.specs.Cell.{Cell}
use Rattle.grid_core.specs.Extent.{Region}
use Rattle.space_sql_search.specs.declared.search_ranges.SearchRanges.{SearchRanges}
use Rattle.space_sql_search.specs.SearchRanges.{AsksFor, AsksForAll}
use Rattle.space_sql_search.proofs.Asking.{areas_stay}
use Rattle.space_sql_search.proofs.search_ranges.ranges_of.Goals as goal

pub loop-area-preserved : goal.loop-area-preserved
loop-area-preserved c =
    let new = c.add_cells.new.searched in
    all_more (λ (r : Region). AllByRecursion (AsksFor new) r.cells) c.args.areas.now c.loop-area.area-index c.area-item.result (omega arith) c.area-item.is
    (areas_stay c.loop-area.searched new c.in_ok-add_cells.ensures.keeps (take c.loop-area.area-index c.args.areas.now) c.loop-area.invariant)
    (subst (λ (l : List Cell). AllByRecursion (AsksFor new) l) c.cells.ensures c.in_ok-add_cells.ensures.each)

pub returns-clause-each : goal.returns-clause-each
returns-clause-each c =
    let old = c.loop-area.searched in
    let new : SearchRanges = record { ranges = c.order_intervals.new.intervals; ancestors = c.order_intervals-2.new.intervals } in
    areas_stay old new (c.order_intervals.ensures.keeps, c.order_intervals-2.ensures.keeps) c.args.areas.now
    (subst (λ (l : List Region). AsksForAll old l) (take_all c.loop-area.area-index c.args.areas.now (omega arith)) c.loop-area.invariant)
