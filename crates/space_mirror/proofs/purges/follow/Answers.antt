use Rattle.std.specs.Prelude.{refl}
use Rattle.space_mirror.proofs.purges.follow.Goals as goal

pub returns-in-Some-clause-mirror : goal.returns-in-Some-clause-mirror
returns-in-Some-clause-mirror c = rw c.in-Ok.is (rw c.in-Some.is (c.purge.new.self, refl, c.purge.ensures.content))
