use Rattle.std.proofs.Common.{◌<◌, ◌^◌, arith, sym, ap, ◌∙◌, subst}
use Rattle.grid_core.specs.Cell.{IsCell, number_of, parent_of}
use Rattle.grid_core.specs.CellNumberLaw.{number-cell_of}
use Rattle.grid_core.proofs.CellNumber.{IsCell-cell_of, number_of_cell}
use Rattle.grid_core.proofs.Family.{parent_number, IsCell-parent_of, makes}
use Rattle.grid_core.proofs.cell.CellId.parent.Goals as goal

pub overflow_add-result-3 : goal.overflow_add-result-3
overflow_add-result-3 c =
    let v = subst IsCell c.self.view_is (IsCell-cell_of c.self.inside.raw c.self.invariant) in
    let e = parent_number c.args.self v c.args.level c.self.inside.raw c.requires (sym (number-cell_of c.self.inside.raw c.self.invariant) ∙ ap number_of c.self.view_is) in
    let lt : number_of (parent_of c.args.self c.args.level) < 2 ^ 64 = (number_of_cell (parent_of c.args.self c.args.level) (IsCell-parent_of c.args.self v c.args.level c.requires)).fits in
    omega (arith, e, lt)

pub invariant_of-result : goal.invariant_of-result
invariant_of-result c =
    let v = subst IsCell c.self.view_is (IsCell-cell_of c.self.inside.raw c.self.invariant) in
    (makes _ (parent_of c.args.self c.args.level) (IsCell-parent_of c.args.self v c.args.level c.requires)
    (parent_number c.args.self v c.args.level c.self.inside.raw c.requires (sym (number-cell_of c.self.inside.raw c.self.invariant) ∙ ap number_of c.self.view_is))).number

pub returns : goal.returns
returns c =
    let v = subst IsCell c.self.view_is (IsCell-cell_of c.self.inside.raw c.self.invariant) in
    (makes _ (parent_of c.args.self c.args.level) (IsCell-parent_of c.args.self v c.args.level c.requires)
    (parent_number c.args.self v c.args.level c.self.inside.raw c.requires (sym (number-cell_of c.self.inside.raw c.self.invariant) ∙ ap number_of c.self.view_is))).cell
