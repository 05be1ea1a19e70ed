use Rattle.std.proofs.Common.{◌∙◌, subst, sym}
use Rattle.space_core.specs.Space.{IsContent}
use Rattle.space_memory.specs.contracts.memory.MemorySpaceSpace.TheImpl.{ghosts}
use Rattle.dss_command.proofs.pool.new_instance.Goals as goal

pub returns-clause-starts : goal.returns-clause-starts
returns-clause-starts g c start content = record {
  after = c.new.ensures.after c.new-service.ensures.goes start
      (λ _. subst (λ space. IsContent ghosts.holds space start) (sym c.new-service.ensures.space) content);
  salt_is = c.new.ensures.salt ∙ c.new-service.ensures.salt ∙ c.in_ok-salt.ensures.same;
}

pub returns-clause-retention : goal.returns-clause-retention
returns-clause-retention g c = c.new.ensures.retention
