use Rattle.entity_maps.proofs.SubscriptionTrees.{found_whole, order_kept}
use Rattle.entity_maps.proofs.subscriptions.Subscriptions.entries.Goals as goal

pub returns-clause-items : goal.returns-clause-items
returns-clause-items c = found_whole c.self.inside.tree c.args.self.now c.self.view_is c.self.invariant c.range.ensures.ordered c.range.result (c.range.ensures.between tt)

pub returns-clause-order : goal.returns-clause-order
returns-clause-order c = order_kept c.self.inside.tree c.args.self.now c.self.view_is c.self.invariant c.range.ensures.ordered
