use Rattle.std.proofs.Common.{◌≡◌, ◌+◌, ◌++◌, ◌∷◌, [], take, ap, sym, ◌∙◌}
use Rattle.std.proofs.lemmas.List.{take_more}
use Rattle.entity_core.specs.declared.entity.Entity.{Entity}
use Rattle.dss_report.specs.CellLines.{places_of_entity}
use Rattle.dss_report.proofs.Placed.{adds_next}
use Rattle.dss_report.proofs.cell_lines.put_entities.Goals as goal

pub loop-entity-preserved : goal.loop-entity-preserved
loop-entity-preserved c =
    let es = c.args.entities.now in
    let i = c.loop-entity.entity-index in
    let more : take (i + 1) es ≡ take i es ++ c.entity-item.result ∷ [] = take_more es i c.entity-item.result c.loop-entity-test.true ∙ ap (λ (x : Entity). take i es ++ x ∷ []) (sym c.entity-item.is) in
    adds_next places_of_entity (take i es) (take (i + 1) es) c.entity-item.result _ _ _ more c.loop-entity.invariant c.in_ok-put_entity.ensures
