use Rattle.pool_etcd.proofs.Values.{first_fence_decides}
use Rattle.pool_etcd.proofs.laws.first_fence_decides.Goals as goal

pub returns : goal.returns
returns c = first_fence_decides
