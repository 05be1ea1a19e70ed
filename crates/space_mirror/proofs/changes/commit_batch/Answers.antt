use Rattle.space_mirror.proofs.Committed.{agrees_kept, making_of_listed}
use Rattle.space_mirror.proofs.changes.commit_batch.Goals as goal

pub returns-clause-making : goal.returns-clause-making
returns-clause-making g c =
    making_of_listed g.S.Space c.args.store.now c.apply_batch-answer.new.self c.args.mirror.now c.args.state.now c.args.batch.now c.apply_batch-answer.result c.requires.agrees c.requires.there c.apply_batch-answer.ensures.tells c.apply_batch-answer.ensures.changes

pub returns-clause-agrees : goal.returns-clause-agrees
returns-clause-agrees g c =
    let made = making_of_listed g.S.Space c.args.store.now c.apply_batch-answer.new.self c.args.mirror.now c.args.state.now c.args.batch.now c.apply_batch-answer.result c.requires.agrees c.requires.there c.apply_batch-answer.ensures.tells c.apply_batch-answer.ensures.changes in
    agrees_kept g.S.Space c.args.store.now c.apply_batch-answer.new.self c.args.mirror.now c.keep_or_drop_mirror.new.mirror c.args.state.now c.keep_or_drop_mirror.new.state c.args.batch.now c.apply_batch-answer.result c.requires.agrees c.requires.there made c.keep_or_drop_mirror.ensures
