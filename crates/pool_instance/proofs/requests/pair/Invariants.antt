use Rattle.std.proofs.Common.{◌≡◌, ◌+◌, ◌++◌, drop, length}
use Rattle.pool_instance.specs.Lists.{told_of}
use Rattle.pool_instance.proofs.requests.pair.Given as goal

abbrev pub invariant-loop-slot : goal.invariant-loop-slot
invariant-loop-slot l = record {
  long : length l.rest.items + l.slot-index ≡ length l.sent;
  told : l.told.items ++ told_of (drop l.slot-index l.sent) l.rest.items ≡ told_of l.sent l.fn.replies.items;
}
