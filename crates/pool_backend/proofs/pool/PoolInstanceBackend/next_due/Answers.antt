use Rattle.std.proofs.Common.{◌∙◌, ℕ, refl, subst}
use Rattle.pool_instance.specs.Parts.{IsDueAt, count_taken, readings_in}
use Rattle.pool_backend.proofs.Does.{for_same}
use Rattle.pool_backend.proofs.pool.PoolInstanceBackend.next_due.Goals as goal

pub loop-init : goal.loop-init
loop-init g c = record { instance = refl; outcomes = refl }

pub loop-preserved : goal.loop-preserved
loop-preserved g c = record { instance = c.loop.invariant.instance; outcomes = c.announce.ensures ∙ c.loop.invariant.outcomes }

pub returns-then-announce : goal.returns-then-announce
returns-then-announce g c = (
  for_same g.L.Log g.S.Space c.args.self.now _ (record { instance = c.loop.invariant.instance; outcomes = c.announce.ensures ∙ c.loop.invariant.outcomes }),
  subst (λ v. (index : ℕ) × IsDueAt (count_taken v) (readings_in v) index c.in-Some.due.1) c.loop.invariant.instance (c.in-Some.due.0, c.in-Some.ensures),
)

pub returns-in_default : goal.returns-in_default
returns-in_default g c = (for_same g.L.Log g.S.Space c.args.self.now _ c.loop.invariant, tt)

pub returns : goal.returns
returns g c = (for_same g.L.Log g.S.Space c.args.self.now _ c.loop.invariant, tt)
