use Rattle.pool_chain.proofs.Chains.{chain_decides}
use Rattle.pool_chain.proofs.laws.chain_decides.Goals as goal

pub returns : goal.returns
returns c = chain_decides
