use Rattle.std.specs.Prelude.{List}
use Rattle.std.proofs.Common.{subst}
use Rattle.service_calls.specs.Purged.{MayHavePersistedPurged, Segment}
use Rattle.service_recovery.proofs.Persisting.{due_purged, due_unstopped, durable}
use Rattle.service_recovery.proofs.laws.unstopped_is_due.Goals as goal

pub returns-clause-due : goal.returns-clause-due
returns-clause-due c = λ a b run none goes is. due_unstopped run.salt a b run.batches goes (subst (λ (segments : List Segment). MayHavePersistedPurged run.salt a segments run.batches b) none (durable run.salt a b run.segments run.batches is))

pub returns-clause-purged : goal.returns-clause-purged
returns-clause-purged c = λ a b run goes is. due_purged run.salt a b run.segments run.batches goes (durable run.salt a b run.segments run.batches is)
