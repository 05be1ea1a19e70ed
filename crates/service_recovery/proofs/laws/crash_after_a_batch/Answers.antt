use Rattle.service_recovery.proofs.Grouping.{crash_leaves_settled, grouped_over}
use Rattle.service_recovery.proofs.laws.crash_after_a_batch.Goals as goal

pub returns : goal.returns
returns g c = λ old new result is sound whole kept seen content held db may. crash_leaves_settled g.S.Store _ (grouped_over _ _) old new result is sound whole kept seen content held db may
