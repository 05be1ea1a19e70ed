use Rattle.database_backend.proofs.Blinds.{purge_blind, purged_run_blind}
use Rattle.database_backend.proofs.laws.purges_are_blind.Goals as goal

pub returns-clause-purge : goal.returns-clause-purge
returns-clause-purge g = purge_blind

pub returns-clause-run : goal.returns-clause-run
returns-clause-run g = purged_run_blind
