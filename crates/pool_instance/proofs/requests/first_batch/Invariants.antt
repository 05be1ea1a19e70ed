use Rattle.std.proofs.Common.{◌≡◌, map, take, length, Some}
use Rattle.pool_instance.specs.Lists.{AreWritten}
use Rattle.pool_instance.specs.declared.waiting.Held.{Held}
use Rattle.pool_instance.proofs.requests.first_batch.Given as goal

abbrev pub invariant-loop-held : goal.invariant-loop-held
invariant-loop-held l = record {
  count : length l.sent.items ≡ l.held-index;
  calls : AreWritten l.now (take l.held-index l.unsent) l.batch;
  numbers : l.sent.items ≡ map (λ (h : Held). Some h.id) (take l.held-index l.unsent);
}
