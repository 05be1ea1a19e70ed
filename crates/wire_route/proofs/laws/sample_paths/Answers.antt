use Rattle.std.proofs.Common.{refl}
use Rattle.std.specs.Prelude.{codes}
use Rattle.wire_route.proofs.Paths.{both}
use Rattle.wire_route.proofs.laws.sample_paths.Goals as goal

pub returns-clause-intent_at : goal.returns-clause-intent_at
returns-clause-intent_at c = (codes "a1/o1", refl, both (codes "a1") (codes "o1") refl refl)

pub returns-clause-constraint_at : goal.returns-clause-constraint_at
returns-clause-constraint_at c = (codes "c1/o1", refl, both (codes "c1") (codes "o1") refl refl)

pub returns-clause-as_ovn : goal.returns-clause-as_ovn
returns-clause-as_ovn c = (codes "a1/query", refl, both (codes "a1") (codes "query") refl refl)

pub returns-clause-subscription_at : goal.returns-clause-subscription_at
returns-clause-subscription_at c = (codes "d1/o1", refl, both (codes "d1") (codes "o1") refl refl)

pub returns-clause-as_version : goal.returns-clause-as_version
returns-clause-as_version c = (codes "d1/query", refl, both (codes "d1") (codes "query") refl refl)
