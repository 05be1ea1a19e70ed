use Rattle.std.proofs.Common.{◌≡◌, ◌<◌, ◌≤◌, ◌+◌, ◌*◌, ◌/◌, ◌-◌, ◌^◌, ℕ, length, arith, sym, ap, ◌∙◌, subst}
use Rattle.grid_core.specs.Cell.{Cell, IsCell, number_of, child_of}
use Rattle.grid_core.specs.CellNumber.{IsNumber, cell_of}
use Rattle.grid_core.specs.CellNumberLaw.{number-cell_of}
use Rattle.grid_core.proofs.CellNumber.{IsCell-cell_of, number_of_cell}
use Rattle.grid_core.proofs.Family.{child_number, IsCell-child_of, makes, Makes}
use Rattle.grid_core.proofs.cell.CellId.child.Goals as goal

-- The parts of the number of a child.
record Child (c : Cell) (n w d : ℕ) : Type 0 where
  low : w ≤ n
  fits : n - w + (2 * d + 1) * (w / 4) < 2 ^ 64
  makes : Makes (n - w + (2 * d + 1) * (w / 4)) (child_of c d)

child : (c : Cell) (n w d e : ℕ) → IsNumber n → cell_of n ≡ c → w ≡ 4 ^ (30 - (length c.digits)) → length c.digits < 30 → d ≤ 3 → e ≡ d → Child c n w e
child c n w d e h is lowest room small same =
    let v : IsCell c = subst IsCell is (IsCell-cell_of n h) in
    let number : n ≡ number_of c = sym (number-cell_of n h) ∙ ap number_of is in
    let few : e ≤ 3 = omega (arith, same) in
    let parts = child_number c v e n w room few number lowest in
    let valid = IsCell-child_of c v e room few in
    let lt : number_of (child_of c e) < 2 ^ 64 = (number_of_cell (child_of c e) valid).fits in
    record { low = parts.0; fits = subst (λ (x : ℕ). x < 2 ^ 64) (sym parts.1) lt; makes = makes _ (child_of c e) valid parts.1 }

pub overflow_sub-result : goal.overflow_sub-result
overflow_sub-result c = omega (arith, c.lowest_one-lowest.ensures.low, sym (number-cell_of c.self.inside.raw c.self.invariant) ∙ ap number_of c.self.view_is)

pub overflow_add-result-2 : goal.overflow_add-result-2
overflow_add-result-2 c = let f = (child c.args.self c.self.inside.raw c.lowest_one-lowest.result c.args.digit c.from.result c.self.invariant c.self.view_is c.lowest_one-lowest.ensures.size c.requires.level c.requires.digit c.from.ensures).fits in omega (arith, f)

pub invariant_of-result : goal.invariant_of-result
invariant_of-result c = (child c.args.self c.self.inside.raw c.lowest_one-lowest.result c.args.digit c.from.result c.self.invariant c.self.view_is c.lowest_one-lowest.ensures.size c.requires.level c.requires.digit c.from.ensures).makes.number

pub returns : goal.returns
returns c =
    (child c.args.self c.self.inside.raw c.lowest_one-lowest.result c.args.digit c.from.result c.self.invariant c.self.view_is c.lowest_one-lowest.ensures.size c.requires.level c.requires.digit c.from.ensures).makes.cell
    ∙ ap (child_of c.args.self) c.from.ensures
