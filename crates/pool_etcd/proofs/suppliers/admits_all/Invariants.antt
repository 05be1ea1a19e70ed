use Rattle.std.proofs.Common.{◌≡◌, take, true}
use Rattle.std.specs.List.{list_all}
use Rattle.pool_etcd.specs.Suppliers.{admits}
use Rattle.pool_etcd.proofs.suppliers.admits_all.Given as goal

abbrev pub invariant-loop-uss : goal.invariant-loop-uss
invariant-loop-uss l = list_all (admits l.list l.key) (take l.uss-index l.suppliers) ≡ true
