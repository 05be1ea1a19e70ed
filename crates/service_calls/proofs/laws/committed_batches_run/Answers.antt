use Rattle.service_calls.proofs.InBatches.{asked, kept_batches}
use Rattle.service_calls.proofs.laws.committed_batches_run.Goals as goal

pub returns-clause-asked : goal.returns-clause-asked
returns-clause-asked g c = λ old new batch made. asked g.S.Space g.S.GroupCommit old batch.calls new made

pub returns-clause-runs : goal.returns-clause-runs
returns-clause-runs g c = kept_batches g.S.Space g.S.GroupCommit (record { quiet = g.met.S.GroupCommit.persists_held; rests = g.met.S.GroupCommit.persists_while_pending; works = g.met.S.GroupCommit.unbroken_while_pending; live = g.met.S.GroupCommit.pending_is_unbroken })
