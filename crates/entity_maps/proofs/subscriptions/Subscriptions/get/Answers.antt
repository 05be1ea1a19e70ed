use Rattle.std.proofs.Common.{◌∙◌}
use Rattle.entity_maps.proofs.SubscriptionTrees.{get_in}
use Rattle.entity_maps.proofs.subscriptions.Subscriptions.get.Goals as goal

pub returns : goal.returns
returns c = c.get.ensures.value ∙ get_in c.self.inside.tree c.args.self.now c.args.number c.self.view_is c.self.invariant
