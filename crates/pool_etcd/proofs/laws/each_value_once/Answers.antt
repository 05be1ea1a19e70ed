use Rattle.pool_etcd.proofs.OneKeys.{each_value_once}
use Rattle.pool_etcd.proofs.laws.each_value_once.Goals as goal

pub returns : goal.returns
returns c = each_value_once
