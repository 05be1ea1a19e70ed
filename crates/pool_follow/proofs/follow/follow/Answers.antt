use Rattle.pool_follow.proofs.Events.{on_asked, on_end, on_once, stays_then}
use Rattle.pool_follow.proofs.follow.follow.Goals as goal

pub loop-init : goal.loop-init
loop-init g c = record {
  stays = c.ask.ensures.stays;
  on = on_asked g.L.Log g.S.Space g.S.GroupCommit c.args.follower.now c.ask.new.self c.in_ok-ask.ensures.asks;
}

pub loop-preserved : goal.loop-preserved
loop-preserved g c = record {
  stays = stays_then g.L.Log g.S.Space c.args.follower.now c.loop.follower c.run_once.new.follower c.loop.invariant.stays c.run_once.ensures.stays;
  on = on_once g.L.Log g.S.Space g.S.GroupCommit c.args.follower.now c.loop.follower c.run_once.new.follower c.in_ok-patience.field-0 c.loop.invariant.on c.in_ok-patience.ensures.runs;
}

pub returns-in_default-clause-follows : goal.returns-in_default-clause-follows
returns-in_default-clause-follows g c =
    on_end g.L.Log g.S.Space g.S.GroupCommit c.args.follower.now c.loop.follower c.run_once.new.follower c.in_ok-patience.field-0 c.in_default.is c.loop.invariant.on c.in_ok-patience.ensures.runs
