use Rattle.std.proofs.Common.{sym, subst}
use Rattle.entity_core.specs.Airspace.{IsAirspace}
use Rattle.entity_purge.proofs.PurgeItems.{gone_purged}
use Rattle.space_memory.specs.Memory.{content_of}
use Rattle.space_memory.specs.Proper.{content_is_proper}
use Rattle.space_memory.proofs.memory.MemorySpace.purge.Goals as goal

pub invariant_of-self : goal.invariant_of-self
invariant_of-self c = record {
  told = (subst IsAirspace (sym (c.purge_all.ensures c.args.self.now.availabilities c.args.self.now.serial)) (gone_purged.kept c.args.gone.now (content_of c.args.self.now) (content_is_proper c.args.self.now))).told;
}
