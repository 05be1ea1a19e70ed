use Rattle.space_mirror.proofs.mirrored.MirroredGroupCommit.commit.Goals as goal

pub returns-clause-settles : goal.returns-clause-settles
returns-clause-settles g c = rw (← c.self.view_is) c.commit.ensures.keeps.settles
