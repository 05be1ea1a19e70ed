use Rattle.pool_follow.specs.Follower.{Stays}
use Rattle.pool_follow.proofs.Events.{FollowsOn}
use Rattle.pool_follow.proofs.follow.follow.Given as goal

abbrev pub invariant-loop : goal.invariant-loop
invariant-loop g l = record {
  stays : Stays g.L.Log g.S.Space l.fn.follower l.follower;
  on : FollowsOn g.L.Log g.S.Space g.S.GroupCommit l.fn.follower l.follower;
}
