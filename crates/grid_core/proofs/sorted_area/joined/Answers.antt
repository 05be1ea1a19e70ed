use Rattle.std.proofs.Common.{◌≡◌, ◌+◌, ap, arith, get_or, length, subst, sym, List, ◌∙◌}
use Rattle.std.specs.List.{All}
use Rattle.grid_core.specs.SortedArea.{AreApart, HaveSamePlaces, IsOrdered}
use Rattle.grid_core.specs.declared.sorted_area.Interval.{Interval}
use Rattle.grid_core.proofs.Joins.{Joins, apart_pushed, at_rest, greater_of, is_far, joins_all, joins_as, joins_first, joins_merged, joins_pushed, ordered_pushed}
use Rattle.grid_core.proofs.sorted_area.joined.Goals as goal
use Rattle.grid_core.proofs.sorted_area.joined.Goals.{then-is_next, else-is_next+in_ok-push}

pub loop-next-init : goal.loop-next-init
loop-next-init c =
    subst (λ (done : List Interval). Joins c.args.intervals.now done c.in-Some.first.now 0) (sym c.new-joined.ensures.items)
    (joins_first c.args.intervals.now c.in-Some.first.now c.in-Some.rest.now c.in-Some.ensures.cases.0 c.requires.ordered)

pub loop-next-preserved : goal.loop-next-preserved
loop-next-preserved c =
    let is = c.args.intervals.now in
    let done = c.loop-next.joined.items in
    let last = c.loop-next.last in
    let k = c.loop-next.next-index in
    let next = get_or c.in-Some.rest.now k (record { lo = 0; hi = 0 }) in
    let sizes : length c.in-Some.rest.now + 1 ≡ length is = c.in-Some.ensures.cases.1 in
    let at = at_rest is c.in-Some.first.now c.in-Some.rest.now c.in-Some.ensures.cases.0 k (record { lo = 0; hi = 0 }) (omega arith) in
    elim c.if-is_next.branch [
      | then-is_next w ↦
          let most = greater_of last.hi next.hi w.max.result w.max.ensures in
          joins_as is done c.if-is_next.joined.items _ c.if-is_next.last (k + 1) (ap (λ v. v.items) w.joined-is) w.last-is
          (joins_merged is done last next w.max.result k c.loop-next.invariant (omega (arith, sizes)) at c.requires.ordered c.requires.sorted (c.is_next.ensures.0 w.if-is_next.true) most.0 most.1 most.2)
      | else-is_next+in_ok-push w ↦
          joins_as is _ c.if-is_next.joined.items _ c.if-is_next.last (k + 1) (ap (λ v. v.items) w.joined-is ∙ w.in_ok-push.ensures.items) w.last-is
          (joins_pushed is done last next k c.loop-next.invariant (omega (arith, sizes)) at c.requires.ordered (is_far c.is_next.result next.lo last.hi c.is_next.ensures.1 w.if-is_next.false))
    ]

pub returns-clause-same : goal.returns-clause-same
returns-clause-same c =
    let sizes : length c.in-Some.rest.now + 1 ≡ length c.args.intervals.now = c.in-Some.ensures.cases.1 in
    subst (λ (js : List Interval). HaveSamePlaces js c.args.intervals.now) (sym c.in_ok-push-2.ensures.items)
    (joins_all c.args.intervals.now c.loop-next.joined.items c.loop-next.last c.loop-next.next-index c.loop-next.invariant (omega (arith, sizes)))

pub returns-clause-ordered : goal.returns-clause-ordered
returns-clause-ordered c =
    subst (All IsOrdered) (sym c.in_ok-push-2.ensures.items)
    (ordered_pushed c.args.intervals.now c.loop-next.joined.items c.loop-next.last c.loop-next.next-index c.loop-next.invariant)

pub returns-clause-apart : goal.returns-clause-apart
returns-clause-apart c =
    subst AreApart (sym c.in_ok-push-2.ensures.items)
    (apart_pushed c.args.intervals.now c.loop-next.joined.items c.loop-next.last c.loop-next.next-index c.loop-next.invariant)
