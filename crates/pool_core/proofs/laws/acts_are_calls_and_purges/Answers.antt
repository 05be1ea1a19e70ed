use Rattle.pool_core.proofs.Acts.{acts_in_order, calls_are_acts, only_calls_get_replies}
use Rattle.pool_core.proofs.laws.acts_are_calls_and_purges.Goals as goal

pub returns-clause-calls : goal.returns-clause-calls
returns-clause-calls c = calls_are_acts

pub returns-clause-order : goal.returns-clause-order
returns-clause-order c = acts_in_order

pub returns-clause-replies : goal.returns-clause-replies
returns-clause-replies c = only_calls_get_replies
