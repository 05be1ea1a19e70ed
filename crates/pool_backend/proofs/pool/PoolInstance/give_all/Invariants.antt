use Rattle.std.proofs.Common.{◌≡◌}
use Rattle.pool_backend.specs.Own.{GivesAmong}
use Rattle.pool_backend.specs.Pool.{instance_of, outcomes_of}
use Rattle.pool_backend.proofs.Given.{IsRestOf}
use Rattle.pool_backend.proofs.pool.PoolInstance.give_all.Given as goal

abbrev pub invariant-loop : goal.invariant-loop
invariant-loop g l = record {
  instance : instance_of l.self ≡ instance_of l.fn.self;
  among : GivesAmong l.fn.told.items (outcomes_of l.fn.self) (outcomes_of l.self);
  rest : IsRestOf l.fn.told.items l.rest.items;
}
