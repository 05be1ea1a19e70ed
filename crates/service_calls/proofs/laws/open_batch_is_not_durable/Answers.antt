use Rattle.service_calls.proofs.InBatches.{open_batch}
use Rattle.service_calls.proofs.laws.open_batch_is_not_durable.Goals as goal

pub returns : goal.returns
returns g c = open_batch g.S.Space g.S.GroupCommit (record { quiet = g.met.S.GroupCommit.persists_held; rests = g.met.S.GroupCommit.persists_while_pending; works = g.met.S.GroupCommit.unbroken_while_pending; live = g.met.S.GroupCommit.pending_is_unbroken })
