use Rattle.pool_chain.proofs.Chains.{own_link_is_same, same_link_same_items}
use Rattle.pool_chain.proofs.laws.same_link_same_items.Goals as goal

pub returns-clause-same : goal.returns-clause-same
returns-clause-same c = same_link_same_items

pub returns-clause-own : goal.returns-clause-own
returns-clause-own c = own_link_is_same
