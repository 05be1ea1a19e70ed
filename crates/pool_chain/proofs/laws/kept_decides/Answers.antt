use Rattle.pool_chain.proofs.Keeping.{keeps_first, keeps_more, keeps_shortened, kept_decides}
use Rattle.pool_chain.proofs.laws.kept_decides.Goals as goal

pub returns-clause-decides : goal.returns-clause-decides
returns-clause-decides c = kept_decides

pub returns-clause-first : goal.returns-clause-first
returns-clause-first c = keeps_first

pub returns-clause-more : goal.returns-clause-more
returns-clause-more c = keeps_more

pub returns-clause-shortened : goal.returns-clause-shortened
returns-clause-shortened c = keeps_shortened
