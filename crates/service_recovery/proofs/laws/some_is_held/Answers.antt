use Rattle.space_sql.specs.Laws.{some_kept}
use Rattle.service_recovery.proofs.laws.some_is_held.Goals as goal

pub returns : goal.returns
returns g c = λ s sound whole. some_kept (g.met.A.Store.survives _ sound.clean) whole
