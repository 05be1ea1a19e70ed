use Rattle.std.proofs.Common.{◌≡◌, drop}
use Rattle.serde_json.specs.View.{items_view}
use Rattle.pool_etcd.specs.Response.{key_count}
use Rattle.pool_etcd.specs.Member.{each}
use Rattle.pool_etcd.proofs.Fronts.{with_front}
use Rattle.pool_etcd.proofs.response.each_count.Given as goal

abbrev pub invariant-loop-value : goal.invariant-loop-value
invariant-loop-value l = each key_count (items_view l.items) ≡ with_front l.counts.items (each key_count (items_view (drop l.value-index l.items)))
