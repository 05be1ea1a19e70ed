use Rattle.pool_core.proofs.AtomicFrom.{atomic_from_pool, file_answers}
use Rattle.pool_core.proofs.Atomic.{atomic_pool}
use Rattle.pool_core.proofs.Witness.{pool_answers, pool_purges}
use Rattle.pool_core.proofs.laws.pools_exist.Goals as goal

pub returns-clause-atomic : goal.returns-clause-atomic
returns-clause-atomic c = atomic_pool

pub returns-clause-answers : goal.returns-clause-answers
returns-clause-answers c = pool_answers

pub returns-clause-purges : goal.returns-clause-purges
returns-clause-purges c = pool_purges

pub returns-clause-from : goal.returns-clause-from
returns-clause-from c = atomic_from_pool

pub returns-clause-behind : goal.returns-clause-behind
returns-clause-behind c = file_answers
