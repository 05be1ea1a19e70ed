use Rattle.std.proofs.Common.{◌≡◌, ◌+◌, ◌++◌, ◌∷◌, [], List, take, ap, subst, sym, ◌∙◌}
use Rattle.std.proofs.lemmas.List.{take_more}
use Rattle.grid_core.specs.Extent.{Extent}
use Rattle.dss_report.specs.CellLines.{places_of_volume}
use Rattle.dss_report.proofs.Placed.{adds_next}
use Rattle.dss_report.proofs.cell_lines.put_entity.Goals as goal

pub loop-volume-preserved : goal.loop-volume-preserved
loop-volume-preserved c =
    let volumes = c.items-volume-items.result.now in
    let i = c.loop-volume.volume-index in
    let x = c.volume-item.result in
    let next : take (i + 1) volumes ≡ take i volumes ++ x ∷ [] = take_more volumes i x c.loop-volume-test.true ∙ ap (λ (y : Extent). take i volumes ++ y ∷ []) (sym c.volume-item.is) in
    let more = subst (λ (xs : List Extent). take (i + 1) xs ≡ take i xs ++ x ∷ []) c.items-volume-items.ensures.same next in
    adds_next (places_of_volume c.args.entity.now) _ _ x _ _ _ more c.loop-volume.invariant c.in_ok-put_volume.ensures
