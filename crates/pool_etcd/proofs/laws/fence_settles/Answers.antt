use Rattle.pool_etcd.proofs.Fences.{fence_settles}
use Rattle.pool_etcd.proofs.laws.fence_settles.Goals as goal

pub returns : goal.returns
returns c = fence_settles
