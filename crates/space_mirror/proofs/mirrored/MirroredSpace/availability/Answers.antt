use Rattle.space_mirror.proofs.mirrored.MirroredSpace.availability.Goals as goal

pub returns-clause-reads : goal.returns-clause-reads
returns-clause-reads g c = rw (← c.self.view_is) ((c.availability.ensures c.self.inside.state c.self.inside.batch.items c.self.invariant).1).reads
