use Rattle.std.proofs.Common.{arith}
use Rattle.pool_etcd.proofs.Countings.{first_gap, one_counted}
use Rattle.pool_etcd.proofs.counts.Counts.add_each.Goals as goal

pub returns-then-not-is_next-clause-gap : goal.returns-then-not-is_next-clause-gap
returns-then-not-is_next-clause-gap c = λ _ all.
    first_gap c.args.self.now c.loop-change.self c.args.changes.now c.loop-change.change-index c.change-item.result _ c.count.result c.loop-change-test.true c.change-item.is
    c.loop-change.invariant.added c.changed_key.ensures c.count.ensures
    (λ next. let yes = c.is_next.ensures.1 next in let no = c.if-not-is_next.true in let h : ⊥ = cc in h) all

pub loop-change-preserved : goal.loop-change-preserved
loop-change-preserved c =
    let next = c.is_next.ensures.0 c.if-not-is_next.false in
    let more = one_counted c.args.self.now c.loop-change.self c.add.new.self c.args.changes.now c.loop-change.change-index c.change-item.result _ c.count.result c.loop-change-test.true c.change-item.is
    c.loop-change.invariant.added c.changed_key.ensures c.count.ensures c.loop-change.invariant.next next (grind (arith, c.add.ensures.added, c.if-is_err.false, c.is_err.ensures)) in
    record { added = more.0; next = more.1 }
