use Rattle.pool_etcd.proofs.Admissions.{admitted_calls_are_assigned}
use Rattle.pool_etcd.proofs.laws.admitted_calls_are_assigned.Goals as goal

pub returns : goal.returns
returns c = admitted_calls_are_assigned c.callers_are_suppliers.ensures
