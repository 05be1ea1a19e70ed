use Rattle.std.proofs.Common.{None, Some, sym, ◌∙◌}
use Rattle.pool_follow.proofs.Events.{iterated}
use Rattle.pool_follow.proofs.follow.run_once.Goals as goal

pub returns-then-not-is_empty-clause-runs : goal.returns-then-not-is_empty-clause-runs
returns-then-not-is_empty-clause-runs g c =
    iterated g.L.Log g.S.Space g.S.GroupCommit c.args.follower.now c.advance_log-patience.new.self c.learn.new.self c.take_some.new.follower c.commit.new.self (Some record { secs = 0; nanos = 0 })
    c.advance_log-patience.ensures.nothing c.learn.ensures.learns c.in_ok-is_empty.ensures.takes c.in_ok-commit.ensures.commits (λ h. absurd cc)

pub returns-then-is_at_end-clause-runs : goal.returns-then-is_at_end-clause-runs
returns-then-is_at_end-clause-runs g c =
    iterated g.L.Log g.S.Space g.S.GroupCommit c.args.follower.now c.advance_log-patience.new.self c.learn.new.self c.take_some.new.follower c.commit.new.self None
    c.advance_log-patience.ensures.nothing c.learn.ensures.learns c.in_ok-is_empty.ensures.takes c.in_ok-commit.ensures.commits (λ h. sym c.is_at_end.ensures ∙ c.if-is_at_end.true)

pub returns-clause-runs : goal.returns-clause-runs
returns-clause-runs g c =
    iterated g.L.Log g.S.Space g.S.GroupCommit c.args.follower.now c.advance_log-patience.new.self c.learn.new.self c.take_some.new.follower c.commit.new.self (Some c.advance_log-patience.result)
    c.advance_log-patience.ensures.nothing c.learn.ensures.learns c.in_ok-is_empty.ensures.takes c.in_ok-commit.ensures.commits (λ h. absurd cc)
