use Rattle.service_purge.proofs.Commutes.{commutes}
use Rattle.service_purge.proofs.Runs.{run_commutes}
use Rattle.service_purge.proofs.laws.purge_commutes.Goals as goal

pub returns-clause-call : goal.returns-clause-call
returns-clause-call c = commutes

pub returns-clause-run : goal.returns-clause-run
returns-clause-run c = run_commutes
