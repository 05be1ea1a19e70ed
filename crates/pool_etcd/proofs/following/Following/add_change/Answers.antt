use Rattle.pool_etcd.proofs.Followings.{adds_change}
use Rattle.pool_etcd.proofs.following.Following.add_change.Goals as goal

pub returns-in-Ok-take_change-clause-added : goal.returns-in-Ok-take_change-clause-added
returns-in-Ok-take_change-clause-added c =
    adds_change c.args.self.now c.args.change.now c.in-Ok.value c.in-Ok-judge_value.value c.args.line.now c.judge_value.new.self c.take_change.new.self c.add_value.new.line
    c.in-Ok.ensures c.in-Ok-judge_value.ensures.value c.in-Ok-judge_value.ensures.judged c.in_ok-add_value.ensures.added c.add_value.ensures.links c.in-Ok-take_change.ensures.chain
    c.take_change.ensures.verdicts c.take_change.ensures.unlinked
