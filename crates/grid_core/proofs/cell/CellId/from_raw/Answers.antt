use Rattle.std.proofs.Common.{◌≡◌, subst, arith, ◌≤◌, ◌^◌, ◌/◌, ◌%◌}
use Rattle.std.specs.Int.{w64, trailing_zeros}
use Rattle.grid_core.specs.CellNumber.{IsNumber}
use Rattle.grid_core.specs.CellNumberLaw.{number-cell_of}
use Rattle.grid_core.proofs.CellNumber.{IsCell-cell_of, IsNumber-number_of, some_by_place}
use Rattle.grid_core.proofs.cell.CellId.from_raw.Goals as goal
use Rattle.grid_core.proofs.cell.CellId.from_raw.Goals.{else-place-le60-via-then-place-le60+then-place-eq0+else-raw-le5, else-place-le60-via-then-place-le60+else-place-eq0, else-place-le60-via-else-place-le60}

pub invariant_of-result : goal.invariant_of-result
invariant_of-result c = record { place = c.if-place-le60.true; even = c.if-place-eq0.true; face = c.if-raw-le5.true; fits = c.ranges.raw.fits; some = some_by_place c.args.raw c.if-place-le60.true }

pub returns-then-raw-le5-clause-number : goal.returns-then-raw-le5-clause-number
returns-then-raw-le5-clause-number c = number-cell_of c.args.raw (invariant_of-result c)

pub returns-then-raw-le5-clause-valid : goal.returns-then-raw-le5-clause-valid
returns-then-raw-le5-clause-valid c = IsCell-cell_of c.args.raw (invariant_of-result c)

pub returns-else-place-le60-clause-none : goal.returns-else-place-le60-clause-none
returns-else-place-le60-clause-none c d v e =
    let h : IsNumber c.args.raw = subst IsNumber e (IsNumber-number_of d v) in
    let p : trailing_zeros w64 c.args.raw ≤ 60 = h.place in
    let q : trailing_zeros w64 c.args.raw % 2 ≡ 0 = h.even in
    let r : c.args.raw / 2 ^ 61 ≤ 5 = h.face in
    elim c.else-place-le60.branch [
      | else-place-le60-via-then-place-le60+then-place-eq0+else-raw-le5 w ↦ omega arith
      | else-place-le60-via-then-place-le60+else-place-eq0 w ↦ absurd (w.if-place-eq0.false q)
      | else-place-le60-via-else-place-le60 w ↦ omega arith
    ]
