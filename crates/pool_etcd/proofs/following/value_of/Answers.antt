use Rattle.std.proofs.Common.{ℕ, List, sym, subst}
use Rattle.std.specs.Prelude.{IfOk}
use Rattle.pool_etcd.specs.declared.log_value.LogValue.{LogValue}
use Rattle.pool_etcd.specs.declared.watch_line.Change.{Change}
use Rattle.pool_etcd.specs.Following.{HasValue}
use Rattle.pool_etcd.specs.Value.{IsValue}
use Rattle.pool_etcd.proofs.following.value_of.Goals as goal

pub returns-in-Put : goal.returns-in-Put
returns-in-Put c =
    let read = c.read_value.result in
    let key = subst (λ (k : List ℕ). IfOk read (λ (v : LogValue). IsValue k c.bytes-in-Put.result.now v)) c.bytes.ensures c.read_value.ensures in
    let value = subst (λ (x : List ℕ). IfOk read (λ (v : LogValue). IsValue c.in-Put.put.key x v)) c.bytes-in-Put.ensures key in
    subst (λ (change : Change). IfOk read (λ (v : LogValue). HasValue change v)) (sym c.in-Put.is) value
