use Rattle.pool_follow.specs.Follower.{DidSome, Stays}
use Rattle.pool_follow.proofs.follow.take_some.Given as goal

abbrev pub invariant-loop : goal.invariant-loop
invariant-loop g l = record {
  stays : Stays g.L.Log g.S.Space l.fn.follower l.follower;
  some : DidSome g.L.Log g.S.Space l.fn.follower l.follower;
}
