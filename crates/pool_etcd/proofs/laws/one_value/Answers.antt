use Rattle.pool_etcd.proofs.Values.{one_value}
use Rattle.pool_etcd.proofs.laws.one_value.Goals as goal

pub returns : goal.returns
returns c = one_value
