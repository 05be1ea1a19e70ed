use Rattle.std.proofs.Common.{arith}
use Rattle.space_memory.specs.Memory.{content_of}
use Rattle.space_memory.specs.Proper.{content_is_proper}
use Rattle.space_memory.proofs.MemorySpaces.{can_rise, told_after}
use Rattle.space_memory.proofs.memory.MemorySpace.apply_change.Goals as goal

pub overflow_add-self : goal.overflow_add-self
overflow_add-self c = omega (arith, c.requires.room)

pub make-requires : goal.make-requires
make-requires c = can_rise c.args.self.now.subscriptions c.args.self.now.serial (content_is_proper c.args.self.now).told c.requires.room

pub invariant_of-self : goal.invariant_of-self
invariant_of-self c = record {
  told = told_after c.args.change c.args.notify.now (content_of c.args.self.now) c.make.new.entities c.make.new.subscriptions c.make.new.availabilities _
      c.requires (content_is_proper c.args.self.now) (c.in-Ok.ensures.ok c.args.self.now.serial);
}
