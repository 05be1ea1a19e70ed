use Rattle.pool_etcd.proofs.OneKeys.{unmade_is_final}
use Rattle.pool_etcd.proofs.laws.unmade_is_final.Goals as goal

pub returns : goal.returns
returns c = unmade_is_final
