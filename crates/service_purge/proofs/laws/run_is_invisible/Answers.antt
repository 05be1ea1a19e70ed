use Rattle.service_purge.proofs.Readers.{readers}
use Rattle.service_purge.proofs.Runs.{run_unseen}
use Rattle.service_purge.proofs.laws.run_is_invisible.Goals as goal

pub returns-clause-readers : goal.returns-clause-readers
returns-clause-readers c = readers

pub returns-clause-same : goal.returns-clause-same
returns-clause-same c = run_unseen
