use Rattle.pool_etcd.proofs.Admissions.{without_list_all_are_admitted}
use Rattle.pool_etcd.proofs.laws.without_list_all_are_admitted.Goals as goal

pub returns : goal.returns
returns c = without_list_all_are_admitted
