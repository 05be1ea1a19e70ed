use Rattle.space_mirror.proofs.Committed.{ahead_anew}
use Rattle.space_mirror.proofs.changes.rebuild_mirror.Goals as goal

pub returns-in-Ok-clause-agrees : goal.returns-in-Ok-clause-agrees
returns-in-Ok-clause-agrees g c =
    ahead_anew g.S.Space c.args.store.now c.to_memory.new.self c.in-Ok.copy _ _ c.requires.one c.in-Ok.ensures.tells c.in-Ok.ensures.reads
