use Rattle.std.proofs.Common.{List, subst}
use Rattle.std.specs.List.{AllByRecursion}
use Rattle.sqlite.specs.Held.{state}
use Rattle.space_sql_select.proofs.Readings.{reads_then, reads_as}
use Rattle.space_sql_search.specs.declared.cell_table.RangeMatch.TheVariants.{Within, Exactly}
use Rattle.space_sql_search.specs.declared.interval.Interval.{Interval}
use Rattle.space_sql_search.specs.Numbers.{HasNumbers, FindsNumbers}
use Rattle.space_sql_search.proofs.Counted.{numbers_stay}
use Rattle.space_sql_search.proofs.numbers.find_numbers.Goals as goal

pub returns-clause-finds : goal.returns-clause-finds
returns-clause-finds g c =
    let table = c.args.table in
    let ranges = c.args.searched.now.ranges.items in
    let ancestors = c.args.searched.now.ancestors.items in
    let first = c.find_each.new.found.items in
    let both = c.find_each-2.new.found.items in
    let all = c.order_numbers.new.numbers.items in
    let keeps = c.order_numbers.ensures.keeps in
    let a = state g.S.Store c.args.tx.now.conn.now in
    let b = state g.S.Store c.find_each.new.tx.conn.now in
    let d = state g.S.Store c.find_each-2.new.tx.conn.now in
    reads_as _ (λ db found. FindsNumbers table c.args.searched.now db found.items) a d tt c.order_numbers.new.numbers
    (λ db h. record {
      in_ranges = numbers_stay table Within db first all ranges (λ n here. keeps n (c.in_ok-find_each-2.ensures.keeps n here)) (subst (λ (l : List Interval). AllByRecursion (HasNumbers table Within db first) l) c.as_slice.ensures.value h.0);
      above = numbers_stay table Exactly db both all ancestors keeps (subst (λ (l : List Interval). AllByRecursion (HasNumbers table Exactly db both) l) c.as_slice-2.ensures.value h.1);
    })
    (reads_then (λ db _. AllByRecursion (HasNumbers table Within db first) c.as_slice.result.now) (λ db _. AllByRecursion (HasNumbers table Exactly db both) c.as_slice-2.result.now) a b d tt _ c.in_ok-find_each.ensures.finds c.in_ok-find_each-2.ensures.finds)
