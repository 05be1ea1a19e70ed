use Rattle.std.proofs.Common.{◌∙◌, sym}
use Rattle.space_memory.proofs.snapshot.MemorySpaceSnapshotSource.snapshot.Goals as goal

pub returns : goal.returns
returns g c = λ a h. h ∙ sym g.snapshot.ensures
