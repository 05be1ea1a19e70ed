-- Volumes and areas as JSON: cells, altitudes and times as members of one object.
use Rattle.std.specs.Prelude.{ℕ, List, ℤ, codes, Option, Some, option_and_then}
use Rattle.serde_json.specs.Data.{Data}
use Rattle.serde_json.specs.Find.{as_str}
use Rattle.grid_core.specs.Cell.{Cell}
use Rattle.grid_core.specs.Token.{cell_named}
use Rattle.grid_core.specs.Extent.{Extent, Region, extent_of, region_of, region_with, region_fault}
use Rattle.wire_body.specs.Member.{◌>>=◌, without_fault, required, optional, list_of, signed_in, unsigned_in}

-- The cell of a token.
abbrev pub cell_in : Data → Option Cell
cell_in d = option_and_then cell_named (as_str d)

unfoldable pub cells_of : Data → Option (List Cell)
cells_of d = required (list_of cell_in) (codes "cells") d

-- ---- volumes, which have all four bounds

unfoldable pub altitudes_of : Data → Option (ℤ × ℤ)
altitudes_of d = do
  lower ← required signed_in (codes "altitude_lower") d
  upper ← required signed_in (codes "altitude_upper") d
  Some (lower, upper)

unfoldable pub times_of : Data → Option (ℕ × ℕ)
times_of d = do
  start ← required unsigned_in (codes "time_start") d
  end ← required unsigned_in (codes "time_end") d
  Some (start, end)

-- A volume, within the limits of cells and bounds.
unfoldable pub volume_in : Data → Option Extent
volume_in d = do
  altitudes ← altitudes_of d
  times ← times_of d
  cells ← cells_of d
  without_fault (region_fault (region_of (extent_of cells altitudes times)))
      (extent_of cells altitudes times)

-- ---- areas, whose bounds are optional

unfoldable pub altitude_bounds_of : Data → Option (Option ℤ × Option ℤ)
altitude_bounds_of d = do
  lower ← optional signed_in (codes "altitude_lower") d
  upper ← optional signed_in (codes "altitude_upper") d
  Some (lower, upper)

unfoldable pub time_bounds_of : Data → Option (Option ℕ × Option ℕ)
time_bounds_of d = do
  start ← optional unsigned_in (codes "time_start") d
  end ← optional unsigned_in (codes "time_end") d
  Some (start, end)

unfoldable pub area_in : Data → Option Region
area_in d = do
  altitudes ← altitude_bounds_of d
  times ← time_bounds_of d
  cells ← cells_of d
  without_fault (region_fault (region_with cells altitudes times))
      (region_with cells altitudes times)
