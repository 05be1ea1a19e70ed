use Rattle.service_recovery.proofs.Persisting.{durable, only_purged}
use Rattle.service_recovery.proofs.laws.purge_run_is_partly.Goals as goal

pub returns : goal.returns
returns c = λ until a b run only is. only_purged until run.salt a b run.segments run.batches only.0 only.1 (durable run.salt a b run.segments run.batches is)
