use Rattle.std.proofs.Common.{subst}
use Rattle.space_mirror.specs.Lists.{Making}
use Rattle.space_mirror.proofs.Committed.{settled_keeps}
use Rattle.space_mirror.proofs.changes.commit.Goals as goal

pub returns-clause-keeps : goal.returns-clause-keeps
returns-clause-keeps g c =
    let made = subst (λ cs. Making g.S.Space c.args.store.now c.commit_or_rebuild-answer.new.store cs c.commit_or_rebuild-answer.result) c.as_slice.ensures.value c.commit_or_rebuild-answer.ensures.making in
    settled_keeps g.S.Space c.args.store.now c.commit_or_rebuild-answer.new.store c.args.mirror.now c.commit_or_rebuild-answer.new.mirror c.args.state.now c.args.batch.now.items c.clear.new.self.items c.args.refusals.now c.count_refusal.new.refusals c.commit_or_rebuild-answer.result c.count_refusal.result c.requires.agrees made c.clear.ensures.items c.count_refusal.ensures.same c.count_refusal.ensures.counted
