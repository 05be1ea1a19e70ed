use Rattle.pool_chain.proofs.Spellings.{spelling_is_unique}
use Rattle.pool_chain.proofs.laws.spelling_is_unique.Goals as goal

pub returns : goal.returns
returns c = spelling_is_unique
