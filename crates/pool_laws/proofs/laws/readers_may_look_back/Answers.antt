use Rattle.pool_laws.proofs.Purges.{readers_look_back}
use Rattle.pool_laws.proofs.laws.readers_may_look_back.Goals as goal

pub returns : goal.returns
returns c = readers_look_back
