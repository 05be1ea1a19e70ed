use Rattle.std.proofs.Common.{sym, ap, ◌∙◌, subst}
use Rattle.grid_core.specs.Cell.{IsCell, number_of}
use Rattle.grid_core.specs.CellNumberLaw.{number-cell_of}
use Rattle.grid_core.proofs.CellNumber.{IsCell-cell_of}
use Rattle.grid_core.proofs.cell.CellId.raw.Goals as goal

pub returns-clause-number : goal.returns-clause-number
returns-clause-number c = sym (number-cell_of c.self.inside.raw c.self.invariant) ∙ ap number_of c.self.view_is

pub returns-clause-valid : goal.returns-clause-valid
returns-clause-valid c = subst IsCell c.self.view_is (IsCell-cell_of c.self.inside.raw c.self.invariant)
