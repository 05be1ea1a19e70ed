use Rattle.std.proofs.Common.{◌≤◌, arith, rules}
use Rattle.grid_core.specs.Cell.{lo_of, hi_of}
use Rattle.grid_core.proofs.Intervals.{touch_from_overlap, overlap_from_touch}
use Rattle.grid_core.proofs.cell.CellId.touches.Goals as goal

pub returns-then-lo-hi : goal.returns-then-lo-hi
returns-then-lo-hi c =
    let first : lo_of c.args.self ≤ hi_of c.args.other = omega arith in (
      λ h. touch_from_overlap c.args.self c.args.other c.raw-own.ensures.valid c.raw-others.ensures.valid (first, search rules),
      λ t. let o = overlap_from_touch c.args.self c.args.other c.raw-own.ensures.valid c.raw-others.ensures.valid t in let second : lo_of c.args.other ≤ hi_of c.args.self = o.1 in search rules,
    )

pub returns-else-lo-hi : goal.returns-else-lo-hi
returns-else-lo-hi c = (
  λ h. absurd (search rules),
  λ t. let o = overlap_from_touch c.args.self c.args.other c.raw-own.ensures.valid c.raw-others.ensures.valid t in absurd (omega (arith, o.0)),
)
