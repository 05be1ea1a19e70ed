use Rattle.entity_maps.proofs.SubscriptionTrees.{order_kept}
use Rattle.entity_maps.proofs.subscriptions.Subscriptions.iter.Goals as goal

pub returns-clause-order : goal.returns-clause-order
returns-clause-order c = order_kept c.self.inside.tree c.args.self.now c.self.view_is c.self.invariant c.values.ensures.ordered
