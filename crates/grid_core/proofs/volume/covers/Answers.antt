use Rattle.std.proofs.Common.{◌≡◌, ◌<◌, ◌^◌, ◌*◌, ◌-◌, ◌%◌, ℕ, length, arith, sym, ap, ◌∙◌, cond, false, Bool}
use Rattle.std.specs.Prelude.{nat_le}
use Rattle.grid_core.proofs.Covers.{most_covered, coarse_covers}
use Rattle.grid_core.proofs.volume.covers.Goals as goal

pub returns-clause-count : goal.returns-clause-count
returns-clause-count c =
    let level : c.from.result ≡ length c.args.cell.digits = c.from.ensures ∙ c.level-level.ensures.level in
    let below : length c.args.cell.digits < 13 = omega (arith, c.level-level.ensures.level, c.if-level-ge13.false) in
    let no : nat_le 13 (length c.args.cell.digits) ≡ false = grind (arith, below) in
    ap (λ (x : ℕ). 1 * 2 ^ (26 - 2 * x) % 18446744073709551616) level ∙ (coarse_covers (length c.args.cell.digits) below ∙ ap (λ (b : Bool). cond b 1 (4 ^ (13 - length c.args.cell.digits))) (sym no))

pub returns-clause-most : goal.returns-clause-most
returns-clause-most c = let m = most_covered c.from.result in omega (arith, m)
