use Rattle.pool_core.proofs.Blind.{acts_blind, purge_blind}
use Rattle.pool_core.proofs.laws.acts_are_blind.Goals as goal

pub returns-clause-purge : goal.returns-clause-purge
returns-clause-purge c = purge_blind

pub returns-clause-acts : goal.returns-clause-acts
returns-clause-acts c = acts_blind
