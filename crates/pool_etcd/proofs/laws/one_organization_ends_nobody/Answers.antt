use Rattle.pool_etcd.proofs.Comparing.{one_organization_ends_nobody}
use Rattle.pool_etcd.proofs.laws.one_organization_ends_nobody.Goals as goal

pub returns : goal.returns
returns c = one_organization_ends_nobody
