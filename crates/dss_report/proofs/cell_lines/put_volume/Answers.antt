use Rattle.std.proofs.Common.{◌≡◌, ◌+◌, ◌++◌, ◌∷◌, [], List, take, ap, subst, sym, ◌∙◌}
use Rattle.std.proofs.lemmas.List.{take_more}
use Rattle.grid_core.specs.Cell.{Cell}
use Rattle.dss_report.specs.CellLines.{place_in}
use Rattle.dss_report.proofs.Placed.{adds_one}
use Rattle.dss_report.proofs.cell_lines.put_volume.Goals as goal

pub loop-cell-preserved : goal.loop-cell-preserved
loop-cell-preserved c =
    let cells = c.cells-cell-items.result.now in
    let i = c.loop-cell.cell-index in
    let x = c.cell-item.result in
    let next : take (i + 1) cells ≡ take i cells ++ x ∷ [] = take_more cells i x c.loop-cell-test.true ∙ ap (λ (y : Cell). take i cells ++ y ∷ []) (sym c.cell-item.is) in
    let more = subst (λ (xs : List Cell). take (i + 1) xs ≡ take i xs ++ x ∷ []) c.cells-cell-items.ensures next in
    adds_one (place_in c.args.entity.now c.args.volume.now) _ _ x _ _ _ more c.loop-cell.invariant c.in_ok-put_cell.ensures
