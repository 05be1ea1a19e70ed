use Rattle.std.proofs.Common.{◌≡◌, ◌≤◌, ◌+◌, ◌-◌, ◌*◌, ◌%◌, ◌^◌, ℕ, sym, ap, ◌∙◌, subst, length, arith}
use Rattle.std.specs.Int.{w64, trailing_zeros}
use Rattle.grid_core.specs.Cell.{Cell, IsCell, number_of}
use Rattle.grid_core.specs.CellNumberLaw.{number-cell_of}
use Rattle.grid_core.proofs.CellNumber.{IsCell-cell_of, lowest_one_of}
use Rattle.grid_core.proofs.cell.CellId.lowest_one.Goals as goal

facts : (n : ℕ) (c : Cell) → number_of c ≡ n → IsCell c → (1 * 2 ^ trailing_zeros w64 n % 2 ^ 64 ≡ 4 ^ (30 - length c.digits)) × (4 ^ (30 - length c.digits) ≤ number_of c) × (number_of c + 4 ^ (30 - length c.digits) ≤ 2 ^ 64)
facts n c e v = let a = lowest_one_of c v in (ap (λ (x : ℕ). 1 * 2 ^ trailing_zeros w64 x % 2 ^ 64) (sym e) ∙ a.size, a.low, a.high)

pub returns-clause-size : goal.returns-clause-size
returns-clause-size c =
    (facts c.self.inside.raw c.args.self (ap number_of (sym c.self.view_is) ∙ number-cell_of c.self.inside.raw c.self.invariant) (subst IsCell c.self.view_is (IsCell-cell_of c.self.inside.raw c.self.invariant))).0

pub returns-clause-low : goal.returns-clause-low
returns-clause-low c =
    let f = facts c.self.inside.raw c.args.self (ap number_of (sym c.self.view_is) ∙ number-cell_of c.self.inside.raw c.self.invariant) (subst IsCell c.self.view_is (IsCell-cell_of c.self.inside.raw c.self.invariant)) in
    omega (arith, f.0, f.1)

pub returns-clause-high : goal.returns-clause-high
returns-clause-high c =
    let f = facts c.self.inside.raw c.args.self (ap number_of (sym c.self.view_is) ∙ number-cell_of c.self.inside.raw c.self.invariant) (subst IsCell c.self.view_is (IsCell-cell_of c.self.inside.raw c.self.invariant)) in
    omega (arith, f.0, f.2)
