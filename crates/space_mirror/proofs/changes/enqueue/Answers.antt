use Rattle.std.specs.Prelude.{[], ◌∷◌, ◌++◌}
use Rattle.std.proofs.Common.{ap, ◌∙◌}
use Rattle.space_mirror.proofs.changes.enqueue.Goals as goal

pub returns-in-Ok-replicate-clause-batch : goal.returns-in-Ok-replicate-clause-batch
returns-in-Ok-replicate-clause-batch c =
    let copy = c.in-Ok.waits in
    (copy, c.in-Ok.ensures.change, c.in-Ok.ensures.notify, c.push_reserved.ensures.items ∙ ap (λ cs. cs ++ copy ∷ []) c.in-Ok.ensures.batch)
