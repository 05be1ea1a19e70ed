use Rattle.std.proofs.Common.{arith, rules}
use Rattle.wire_http.proofs.KnownBytes.{Appends_at}
use Rattle.wire_http.proofs.write.write_whole.Goals as goal

pub loop-at-preserved : goal.loop-at-preserved
loop-at-preserved g c = record {
  within = omega (arith, c.in-Ok.ensures.bound);
  front = Appends_at _ _ _ c.args.bytes.now c.loop-at.at c.in-Ok.n c.loop-at.invariant.front c.in-Ok.ensures.bytes;
  good = search rules;
  rises = search rules;
}
