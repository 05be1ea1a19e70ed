use Rattle.std.proofs.Common.{◌≡◌, take, Ok}
use Rattle.std.specs.List.{AllByRecursion}
use Rattle.sqlite.specs.Held.{state}
use Rattle.space_sql_select.specs.Reading.{Reads}
use Rattle.space_sql_search.specs.SearchRanges.{IsSubset}
use Rattle.space_sql_search.specs.Numbers.{HasNumbers}
use Rattle.space_sql_search.proofs.numbers.find_each.Given as goal

abbrev pub invariant-loop-interval : goal.invariant-loop-interval
invariant-loop-interval g l = record {
  same_reference : l.tx.conn.ghost_name ≡ l.fn.tx.conn.ghost_name;
  keeps : IsSubset l.fn.found.items l.found.items;
  so_far : Reads {X = Unit {0}} (λ db _. AllByRecursion (HasNumbers l.table l.range db l.found.items) (take l.interval-index l.intervals)) (state g.S.Store l.fn.tx.conn.now) (state g.S.Store l.tx.conn.now) (Ok tt);
}
