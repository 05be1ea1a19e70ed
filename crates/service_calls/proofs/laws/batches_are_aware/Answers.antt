use Rattle.service_calls.proofs.BatchLaws.{batches_aware, batches_counted, batches_numbered}
use Rattle.service_calls.proofs.laws.batches_are_aware.Goals as goal

pub returns-clause-aware : goal.returns-clause-aware
returns-clause-aware g c = batches_aware g.S.GroupCommit

pub returns-clause-counted : goal.returns-clause-counted
returns-clause-counted g c = batches_counted g.S.GroupCommit

pub returns-clause-numbered : goal.returns-clause-numbered
returns-clause-numbered g c = batches_numbered g.S.GroupCommit
