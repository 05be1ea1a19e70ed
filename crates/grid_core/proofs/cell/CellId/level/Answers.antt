use Rattle.std.proofs.Common.{sym, ap, ◌∙◌, length}
use Rattle.grid_core.specs.Cell.{Cell}
use Rattle.grid_core.proofs.CellNumber.{level-cell_of}
use Rattle.grid_core.proofs.cell.CellId.level.Goals as goal

pub returns-clause-level : goal.returns-clause-level
returns-clause-level c = sym (level-cell_of c.self.inside.raw) ∙ ap (λ (x : Cell). length x.digits) c.self.view_is
