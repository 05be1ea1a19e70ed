-- The number of level-13 cells that a cell covers, and the maximum number of cells.
use Rattle.std.specs.Prelude.{◌≡◌, ℕ, ◌-◌, ◌*◌, ◌^◌, ◌%◌, ◌≤◌, ◌<◌, Bool, true, false, length, Option, Some, None, nat_lt, cond, refl}
use Rattle.std.proofs.Common.{arith, sym, ap, ◌∙◌}
use Rattle.std.proofs.Math.Nat.{pow-le-pow_right}
use Rattle.grid_core.specs.declared.volume_fault.VolumeFault.{VolumeFault}
use Rattle.grid_core.specs.declared.volume_fault.VolumeFault.TheVariants.{Empty, TooMany}
use Rattle.grid_core.specs.Extent.{Region, region_fault}
use Rattle.grid_core.specs.CellNumberLaw.{four}

pub most_covered : (level : ℕ) → 2 ^ (26 - 2 * level) ≤ 67108864
most_covered level = let p : 2 ^ (26 - 2 * level) ≤ 2 ^ 26 = pow-le-pow_right {n = 2} (omega arith) {i = 26 - 2 * level} {j = 26} (omega arith) in omega (arith, p)

pub coarse_covers : (level : ℕ) → level < 13 → 1 * 2 ^ (26 - 2 * level) % 18446744073709551616 ≡ 4 ^ (13 - level)
coarse_covers level lt =
    let most = most_covered level in
    let place : 26 - 2 * level ≡ 2 * (13 - level) = omega arith in
    let same : 1 * 2 ^ (26 - 2 * level) % 18446744073709551616 ≡ 2 ^ (26 - 2 * level) = omega (arith, most) in
    same ∙ (ap (λ (x : ℕ). 2 ^ x) place ∙ sym (four (13 - level)))

few : (n : ℕ) (rest : Option VolumeFault) → cond (nat_lt n 1) (Some Empty) (cond (nat_lt 512 n) (Some TooMany) rest) ≡ None → n ≤ 512
few n rest h = elim (nat_lt n 1) as (λ (a : Bool). cond a (Some Empty) (cond (nat_lt 512 n) (Some TooMany) rest) ≡ None → n ≤ 512) [
  | true ↦ λ e. cc
  | false ↦ λ e. elim (nat_lt 512 n) as (λ (b : Bool). nat_lt 512 n ≡ b → cond b (Some TooMany) rest ≡ None → n ≤ 512) [
    | true ↦ λ f k. cc
    | false ↦ λ f k. grind (arith, f)
  ] refl e
] h

-- A region without a fault has at most 512 cells.
pub few_cells : (r : Region) → region_fault r ≡ None → length r.cells ≤ 512
few_cells r h = few (length r.cells) _ h
