use Rattle.pool_follow.proofs.Events.{some_took, stays_then}
use Rattle.pool_follow.proofs.follow.take_some.Goals as goal

pub loop-preserved : goal.loop-preserved
loop-preserved g c = record {
  stays = stays_then g.L.Log g.S.Space c.args.follower.now c.loop.follower c.take.new.self c.loop.invariant.stays c.take.ensures.stays;
  some = some_took g.L.Log g.S.Space c.args.follower.now c.loop.follower c.take.new.self c.in_ok-take.field-0 c.loop.invariant.some c.in_ok-take.ensures.takes;
}

pub returns-then-not-branch-clause-takes : goal.returns-then-not-branch-clause-takes
returns-then-not-branch-clause-takes g c =
    some_took g.L.Log g.S.Space c.args.follower.now c.loop.follower c.take.new.self c.in_ok-take.field-0 c.loop.invariant.some c.in_ok-take.ensures.takes
