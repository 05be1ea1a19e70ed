use Rattle.space_mirror.proofs.Purging.{agrees_gone, can_go, goes, none_of}
use Rattle.space_mirror.proofs.purges.purge_both.Goals as goal

pub purge-answer-requires : goal.purge-answer-requires
purge-answer-requires g c =
    let none = none_of c.args.batch.now c.is_empty.result c.is_empty.ensures c.if-not-is_empty.false in
    record { can = can_go g.S.Space c.args.store.now c.args.mirror.now c.args.state.now c.args.batch.now c.args.refusals.now c.args.gone.now none c.requires.agrees c.requires.can }

pub returns-clause-agrees : goal.returns-clause-agrees
returns-clause-agrees g c =
    let none = none_of c.args.batch.now c.is_empty.result c.is_empty.ensures c.if-not-is_empty.false in
    agrees_gone g.S.Space c.args.store.now c.purge-answer.new.self c.args.gone.now c.follow.new.mirror c.args.state.now c.follow.new.state c.args.mirror.now c.args.batch.now c.purge-answer.result c.follow.ensures.state none c.requires.agrees c.purge-answer.ensures.tells c.purge-answer.ensures.changes c.follow.ensures.mirror

pub returns-clause-going : goal.returns-clause-going
returns-clause-going g c =
    let none = none_of c.args.batch.now c.is_empty.result c.is_empty.ensures c.if-not-is_empty.false in
    goes g.S.Space c.args.store.now c.purge-answer.new.self c.args.gone.now c.args.mirror.now c.follow.new.mirror c.args.batch.now c.args.refusals.now c.count_refusal-2.new.refusals c.purge-answer.result c.count_refusal-2.result none c.purge-answer.ensures.tells c.purge-answer.ensures.changes c.count_refusal-2.ensures.same c.count_refusal-2.ensures.counted
