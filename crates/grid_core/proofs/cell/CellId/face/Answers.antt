use Rattle.std.proofs.Common.{sym, ap, ◌∙◌}
use Rattle.grid_core.specs.Cell.{Cell}
use Rattle.grid_core.proofs.CellNumber.{face-cell_of}
use Rattle.grid_core.proofs.cell.CellId.face.Goals as goal

pub returns-clause-face : goal.returns-clause-face
returns-clause-face c = sym (face-cell_of c.self.inside.raw c.self.invariant) ∙ ap (λ (x : Cell). x.face) c.self.view_is
