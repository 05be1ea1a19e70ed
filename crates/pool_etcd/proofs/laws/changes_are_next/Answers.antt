use Rattle.pool_etcd.proofs.Values.{changes_are_next}
use Rattle.pool_etcd.proofs.laws.changes_are_next.Goals as goal

pub returns : goal.returns
returns c = changes_are_next
