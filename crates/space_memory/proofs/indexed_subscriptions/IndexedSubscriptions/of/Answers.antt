use Rattle.std.proofs.Common.{List, subst, ◌∙◌}
use Rattle.std.specs.List.{All}
use Rattle.std.specs.Map.Iter.{deref}
use Rattle.std.proofs.lemmas.Map.Iter.{rest_all}
use Rattle.entity_core.specs.declared.subscription.Sub.{Sub}
use Rattle.space_memory.specs.IndexedSubscriptions.{AllMarked}
use Rattle.space_memory.proofs.CellSets.{seen_all, seen_more}
use Rattle.space_memory.proofs.SubscriptionIndexes.{all_indexed, grown}
use Rattle.space_memory.proofs.indexed_subscriptions.IndexedSubscriptions.of.Goals as goal

pub loop-sub-preserved : goal.loop-sub-preserved
loop-sub-preserved c =
    let old = c.loop-sub.marks in
    let new = c.mark_sub.new.marks in
    seen_more (AllMarked old) (AllMarked new) c.into_iter-sub-iterator.result c.loop-sub.sub-iterator c.next.new.self c.in-Some.sub.now
    c.in-Some.ensures.steps (grown old new c.mark_sub.ensures.kept) c.in_ok-mark_sub.ensures.marked c.loop-sub.invariant

pub invariant_of-result : goal.invariant_of-result
invariant_of-result c =
    let P = AllMarked c.loop-sub.marks in
    let all = seen_all P c.into_iter-sub-iterator.result c.loop-sub.sub-iterator (rest_all deref _ _ _ c.in-None.is c.next.ensures.steps) c.loop-sub.invariant in
    all_indexed c.args.subscriptions c.loop-sub.marks (subst (λ (ss : List Sub). All P ss) (c.into_iter-sub-iterator.ensures.into_iter_gives ∙ c.iter-sub-items.ensures.items) all)
