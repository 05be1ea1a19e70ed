use Rattle.service_step.proofs.Looked.{looks_map}
use Rattle.service_calls.proofs.Evaluated.{missing_is}
use Rattle.service_calls.proofs.decide.missing_for.Goals as goal

pub returns-in-Create : goal.returns-in-Create
returns-in-Create g c =
    looks_map g.S.Space c.args.space.now c.missing_with.new.space c.missing_with.result _ _ c.missing_with.ensures
    (λ a m. missing_is a c.args.admitted.now c.args.sub.now c.in-Create.id c.in-Create.put m c.in-Create.is)
