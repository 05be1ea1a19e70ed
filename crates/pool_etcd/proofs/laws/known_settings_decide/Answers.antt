use Rattle.pool_etcd.proofs.Values.{known_settings_decide}
use Rattle.pool_etcd.proofs.laws.known_settings_decide.Goals as goal

pub returns : goal.returns
returns c = known_settings_decide
