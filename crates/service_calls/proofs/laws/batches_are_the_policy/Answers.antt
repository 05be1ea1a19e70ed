use Rattle.service_calls.proofs.InBatches.{batches_policy}
use Rattle.service_calls.proofs.laws.batches_are_the_policy.Goals as goal

pub returns : goal.returns
returns g c = batches_policy g.S.Space g.S.GroupCommit (record { quiet = g.met.S.GroupCommit.persists_held; rests = g.met.S.GroupCommit.persists_while_pending; works = g.met.S.GroupCommit.unbroken_while_pending; live = g.met.S.GroupCommit.pending_is_unbroken })
