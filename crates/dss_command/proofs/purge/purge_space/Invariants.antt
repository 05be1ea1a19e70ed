use Rattle.std.proofs.Common.{◌≡◌}
use Rattle.dss_command.proofs.Chunks.{PurgedSoFar}
use Rattle.dss_command.proofs.purge.purge_space.Given as goal

abbrev pub invariant-loop-chunk : goal.invariant-loop-chunk
invariant-loop-chunk g l = record {
  purged : PurgedSoFar g.S.Space l.until l._chunk l.fn.space l.space l.purged;
  waits : g.S.GroupCommit.is_pending l.space ≡ g.S.GroupCommit.is_pending l.fn.space;
}
