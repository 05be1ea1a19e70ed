use Rattle.std.proofs.Common.{◌∙◌, refl}
use Rattle.server.proofs.Changes.{changes_after}
use Rattle.server.proofs.event_loop.EventLoop.conclude.Goals as goal

pub returns : goal.returns
returns g c = changes_after _ _ _ _ _ _ (c.count_for_class.ensures ∙ c.record_response.ensures) c.act_on.ensures refl
