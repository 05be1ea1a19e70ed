-- Definitions of what rows of the tables `volume` and `cell` represent.
use Rattle.std.specs.Prelude.{◌≡◌, ℕ, ℤ, pos, List, None}
use Rattle.std.specs.List.{AllByRecursion, AllZip, flat_map}
use Rattle.grid_core.specs.Cell.{Cell}
use Rattle.grid_core.specs.Extent.{Extent, region_of, region_fault}
use Rattle.space_rows.specs.declared.rows.VolumeRow.{VolumeRow}
use Rattle.space_rows.specs.declared.rows.CellRow.{CellRow}
use Rattle.space_rows.specs.Rows.{IsVolume, IsVolumeRow, IsCellRow, placed, placed_cells}

-- Holds if the row and the rows of its cells represent the volume at this position.
pub record SpellsVolume (num : ℤ) (place : ℕ) (row : VolumeRow) (cells : List CellRow) (v : Extent)
    : Type 0 where
  pub row_is : IsVolumeRow num row (place, v)
  pub cells_are : AllZip (IsCellRow num) cells (placed_cells (place, v))
  pub kept : IsVolume v

-- Holds if the volume has these cells and the bounds of the row.
pub record HasBounds (row : VolumeRow) (cs : List Cell) (v : Extent) : Type 0 where
  pub cells : cs ≡ v.cells
  pub alt_lower : row.alt_lower ≡ v.altitude.0
  pub alt_upper : row.alt_upper ≡ v.altitude.1
  pub time_start : row.time_start ≡ pos v.time.0
  pub time_end : row.time_end ≡ pos v.time.1
  pub limits : region_fault (region_of v) ≡ None

-- Holds if the rows and the rows of their cells represent the volumes, at positions that count up
-- from `place`.
pub record SpellsVolumes (num : ℤ) (place : ℕ) (rows : List VolumeRow) (cells : List CellRow)
    (vs : List Extent) : Type 0 where
  pub volumes_are : AllZip (IsVolumeRow num) rows (placed place vs)
  pub cells_are : AllZip (IsCellRow num) cells (flat_map placed_cells (placed place vs))
  pub kept : AllByRecursion IsVolume vs
