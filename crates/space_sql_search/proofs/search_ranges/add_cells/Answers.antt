use Rattle.std.proofs.Common.{arith, subst, take, List}
use Rattle.std.specs.List.{AllByRecursion}
use Rattle.std.proofs.lemmas.List.{take_all}
use Rattle.sqlite_rules.specs.Lists.{Has}
use Rattle.sqlite_rules.proofs.ListLemmas.{all_more, has_front, has_last}
use Rattle.grid_core.specs.Cell.{Cell}
use Rattle.space_sql_search.specs.declared.search_ranges.SearchRanges.{SearchRanges}
use Rattle.space_sql_search.specs.SearchRanges.{AsksFor, KeepsRanges}
use Rattle.space_sql_search.proofs.Asking.{cells_stay}
use Rattle.space_sql_search.proofs.search_ranges.add_cells.Goals as goal

pub loop-cell-preserved : goal.loop-cell-preserved
loop-cell-preserved c =
    let old = c.loop-cell.searched in
    let ranges = c.push.new.self in
    let new : SearchRanges = record { ranges = ranges; ancestors = c.add_ancestors.new.out } in
    let is = c.in_ok-push.ensures.items in
    let keeps : KeepsRanges old new = (λ i h. has_front ranges.items old.ranges.items _ i is h, c.in_ok-add_ancestors.ensures.keeps) in
    record {
      keeps = (λ i h. keeps.0 i (c.loop-cell.invariant.keeps.0 i h), λ i h. keeps.1 i (c.loop-cell.invariant.keeps.1 i h));
      each = all_more (AsksFor new) c.args.cells.now c.loop-cell.cell-index c.cell-item.result (omega arith) c.cell-item.is
          (cells_stay old new keeps (take c.loop-cell.cell-index c.args.cells.now) c.loop-cell.invariant.each)
          (record { is_cell = c.raw-number.ensures.valid; range = subst (Has ranges.items) c.interval_of.ensures (has_last ranges.items old.ranges.items c.interval_of.result is); ancestors = c.in_ok-add_ancestors.ensures.each });
    }

pub returns-clause-each : goal.returns-clause-each
returns-clause-each c = subst (λ (l : List Cell). AllByRecursion (AsksFor c.loop-cell.searched) l) (take_all c.loop-cell.cell-index c.args.cells.now (omega arith)) c.loop-cell.invariant.each
