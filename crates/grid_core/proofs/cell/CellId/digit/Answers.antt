use Rattle.std.proofs.Common.{sym, ap, ◌∙◌, subst}
use Rattle.grid_core.specs.Cell.{IsCell, number_of}
use Rattle.grid_core.specs.CellNumberLaw.{number-cell_of}
use Rattle.grid_core.proofs.CellNumber.{IsCell-cell_of}
use Rattle.grid_core.proofs.Family.{digit_number}
use Rattle.grid_core.proofs.cell.CellId.digit.Goals as goal

pub returns-clause-digit : goal.returns-clause-digit
returns-clause-digit c =
    digit_number c.args.self (subst IsCell c.self.view_is (IsCell-cell_of c.self.inside.raw c.self.invariant)) c.args.level c.self.inside.raw c.requires.first c.requires.last
    (sym (number-cell_of c.self.inside.raw c.self.invariant) ∙ ap number_of c.self.view_is)
