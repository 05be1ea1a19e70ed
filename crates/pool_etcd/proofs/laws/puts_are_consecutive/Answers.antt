use Rattle.pool_etcd.proofs.Lives.{puts_are_consecutive}
use Rattle.pool_etcd.proofs.laws.puts_are_consecutive.Goals as goal

pub returns : goal.returns
returns c = puts_are_consecutive
