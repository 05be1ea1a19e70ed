use Rattle.entity_maps.specs.Subscriptions.{subscription_map}
use Rattle.space_memory.proofs.SubscriptionIndexes.{removed_whole}
use Rattle.space_memory.proofs.indexed_subscriptions.remove_sub.Goals as goal

pub returns-clause-index : goal.returns-clause-index
returns-clause-index c = removed_whole (subscription_map c.args.subscriptions.now) (subscription_map c.remove.new.self) c.args.id c.forget_sub.new.marks c.remove.ensures (c.forget_sub.ensures.kept c.requires)
