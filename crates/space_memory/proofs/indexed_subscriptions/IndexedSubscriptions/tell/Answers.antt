use Rattle.entity_maps.specs.Subscriptions.{subscription_map}
use Rattle.space_memory.proofs.SubscriptionIndexes.{told_whole}
use Rattle.space_memory.proofs.indexed_subscriptions.IndexedSubscriptions.tell.Goals as goal

pub invariant_of-self : goal.invariant_of-self
invariant_of-self c = told_whole (subscription_map c.self.inside.subscriptions) (subscription_map c.notify.new.self) c.args.ids.now c.self.inside.marks c.notify.ensures c.self.invariant
