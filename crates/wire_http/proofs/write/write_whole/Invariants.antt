use Rattle.std.proofs.Common.{◌≡◌, ◌≤◌, ◌-◌, length, take}
use Rattle.std.specs.Io.KnownBytes.{Appends}
use Rattle.wire_http.specs.Counted.{inner_of, calls_of, failures_of}
use Rattle.wire_http.proofs.write.write_whole.Given as goal

abbrev pub invariant-loop-at : goal.invariant-loop-at
invariant-loop-at g l = record {
  within : l.at ≤ length l.bytes;
  front : Appends (g.W.Write.contents (inner_of l.fn.writer)) (g.W.Write.contents (inner_of l.writer)) (take l.at l.bytes);
  good : failures_of l.writer ≡ failures_of l.fn.writer;
  rises : calls_of l.fn.writer ≤ calls_of l.writer;
}

abbrev pub decreases-loop-at : goal.decreases-loop-at
decreases-loop-at g l = length l.bytes - l.at
