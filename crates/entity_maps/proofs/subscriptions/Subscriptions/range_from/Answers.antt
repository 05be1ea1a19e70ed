use Rattle.std.proofs.Common.{ℕ, ap, ◌∙◌}
use Rattle.std.specs.BTreeMap.Range.{entries_between}
use Rattle.std.specs.Ordering.{nat_cmp}
use Rattle.std.specs.declared.ops.Bound.TheVariants.{Included, Unbounded}
use Rattle.entity_maps.proofs.SubscriptionTrees.{found_from, order_kept}
use Rattle.entity_maps.proofs.subscriptions.Subscriptions.range_from.Goals as goal

pub returns-clause-items : goal.returns-clause-items
returns-clause-items c =
    found_from c.self.inside.tree c.args.self.now c.self.view_is c.self.invariant c.range.ensures.ordered c.args.id c.range.result
    (c.range.ensures.between tt ∙ ap (λ (n : ℕ). entries_between nat_cmp (Included n) Unbounded c.self.inside.tree.entries) c.number.ensures)

pub returns-clause-order : goal.returns-clause-order
returns-clause-order c = order_kept c.self.inside.tree c.args.self.now c.self.view_is c.self.invariant c.range.ensures.ordered
