use Rattle.std.proofs.Common.{◌∙◌, ◌+◌, List, arith, subst, take}
use Rattle.std.specs.List.{AllByRecursion}
use Rattle.std.proofs.lemmas.List.{take_all, take_more}
use Rattle.sqlite.specs.Held.{state}
use Rattle.space_sql_select.proofs.Readings.{reads_then, reads_as}
use Rattle.space_sql_search.specs.declared.interval.Interval.{Interval}
use Rattle.space_sql_search.specs.Numbers.{HasNumbers}
use Rattle.space_sql_search.proofs.Lists.{each_more}
use Rattle.space_sql_search.proofs.Counted.{numbers_stay}
use Rattle.space_sql_search.proofs.numbers.find_each.Goals as goal

pub loop-interval-preserved : goal.loop-interval-preserved
loop-interval-preserved g c =
    let intervals = c.args.intervals.now in
    let n = c.loop-interval.interval-index in
    let before = c.loop-interval.found.items in
    let after = c.find.new.found.items in
    let keeps = c.in_ok-find.ensures.keeps in
    let a = state g.S.Store c.args.tx.now.conn.now in
    let b = state g.S.Store c.loop-interval.tx.conn.now in
    let d = state g.S.Store c.find.new.tx.conn.now in
    record {
      same_reference = c.find.ensures.same_reference ∙ c.loop-interval.invariant.same_reference;
      keeps = λ i h. keeps i (c.loop-interval.invariant.keeps i h);
      so_far = reads_as _ (λ db _. AllByRecursion (HasNumbers c.args.table c.args.range db after) (take (n + 1) intervals)) a d _ tt
          (λ db h. each_more (HasNumbers c.args.table c.args.range db after) (take n intervals) (take (n + 1) intervals) _ (take_more intervals n _ (omega arith)) (numbers_stay c.args.table c.args.range db before after (take n intervals) keeps h.0) h.1)
          (reads_then _ _ a b d tt _ c.loop-interval.invariant.so_far c.in_ok-find.ensures.finds);
    }

pub returns-clause-finds : goal.returns-clause-finds
returns-clause-finds g c =
    let intervals = c.args.intervals.now in
    let found = c.loop-interval.found.items in
    reads_as _ (λ db _. AllByRecursion (HasNumbers c.args.table c.args.range db found) intervals) (state g.S.Store c.args.tx.now.conn.now) (state g.S.Store c.loop-interval.tx.conn.now) tt tt
    (λ db h. subst (λ (l : List Interval). AllByRecursion (HasNumbers c.args.table c.args.range db found) l) (take_all c.loop-interval.interval-index intervals (omega arith)) h) c.loop-interval.invariant.so_far
