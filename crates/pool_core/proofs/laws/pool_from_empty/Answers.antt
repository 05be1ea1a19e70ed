use Rattle.pool_core.proofs.Known.{calls_known, lists_known, pool_known}
use Rattle.pool_core.proofs.laws.pool_from_empty.Goals as goal

pub returns-clause-known : goal.returns-clause-known
returns-clause-known c = pool_known

pub returns-clause-lists : goal.returns-clause-lists
returns-clause-lists c = lists_known

pub returns-clause-calls : goal.returns-clause-calls
returns-clause-calls c = calls_known
