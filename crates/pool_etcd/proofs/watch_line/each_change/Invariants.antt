use Rattle.std.proofs.Common.{◌≡◌, drop}
use Rattle.serde_json.specs.View.{items_view}
use Rattle.pool_etcd.specs.WatchLine.{change_of}
use Rattle.pool_etcd.specs.Member.{each}
use Rattle.pool_etcd.proofs.Fronts.{with_front}
use Rattle.pool_etcd.proofs.watch_line.each_change.Given as goal

abbrev pub invariant-loop-value : goal.invariant-loop-value
invariant-loop-value l = each change_of (items_view l.items) ≡ with_front l.changes.items (each change_of (items_view (drop l.value-index l.items)))
