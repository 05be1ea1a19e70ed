use Rattle.std.proofs.Common.{◌≡◌, ◌≤◌, take, length}
use Rattle.std.specs.Vec.{vec_capacity}
use Rattle.service_calls.specs.Run.{AskedInOrder}
use Rattle.service_calls.proofs.service.Service.run.Given as goal

abbrev pub invariant-loop-entry : goal.invariant-loop-entry
invariant-loop-entry g l = record {
  count : length l.replies.items ≡ l.entry-index;
  room : length l.calls ≤ vec_capacity l.replies;
  in_order : AskedInOrder g.S.Space l.fn.self (take l.entry-index l.calls) l.replies.items l.self;
}
