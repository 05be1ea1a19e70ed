use Rattle.std.proofs.Common.{refl}
use Rattle.space_memory.specs.Memory.{content_of}
use Rattle.space_memory.proofs.MemorySpaces.{can_follow}
use Rattle.space_memory.proofs.memory.MemorySpaceSpace.apply.Goals as goal

pub apply_change-requires : goal.apply_change-requires
apply_change-requires c = can_follow c.args.change c.args.notify.now _ (c.requires.fits (content_of c.args.self.now) refl)
