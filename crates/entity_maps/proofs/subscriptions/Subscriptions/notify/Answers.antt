use Rattle.entity_maps.proofs.SubscriptionTrees.{can_rise, told_map}
use Rattle.entity_maps.proofs.subscriptions.Subscriptions.notify.Goals as goal

pub notify_ids-requires-clause-rises : goal.notify_ids-requires-clause-rises
notify_ids-requires-clause-rises c = can_rise c.self.inside.tree c.args.self.now c.self.view_is c.self.invariant c.requires

pub returns : goal.returns
returns c = told_map c.self.inside.tree c.notify_ids.new.tree c.args.self.now c.self.view_is c.self.invariant c.notify_ids.ensures.keyed c.args.ids.now c.notify_ids.ensures.told
