use Rattle.space_memory.proofs.memory.MemorySpaceSpace.TheImpl.Goals as goal

pub apply-asks : goal.apply-asks
apply-asks c = record { fits = λ a is. c.requires.fits tt a is }
