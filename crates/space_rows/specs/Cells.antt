-- Definitions of the cells that rows of `cell` and `subscription_cell` represent.
use Rattle.std.specs.Prelude.{◌≡◌, ℕ, ℤ, pos, List, [], ◌∷◌}
use Rattle.std.specs.List.{AllByRecursion, AllZip}
use Rattle.grid_core.specs.Cell.{Cell, IsCell, lo_of, hi_of}
use Rattle.grid_core.specs.Token.{IsShortest}
use Rattle.space_rows.specs.declared.rows.CellRow.{CellRow}
use Rattle.space_rows.specs.Rows.{IsCellRow, placed}

-- Holds if the text is the printed token of the cell.
pub record SpellsToken (text : List ℕ) (c : Cell) : Type 0 where
  pub token : IsShortest text c
  pub valid : IsCell c

-- Holds if the text is the printed token of the cell, and the numbers are its first and last
-- positions.
pub record SpellsRange (text : List ℕ) (lo hi : ℤ) (c : Cell) : Type 0 where
  pub token : SpellsToken text c
  pub lo_is : lo ≡ pos (lo_of c)
  pub hi_is : hi ≡ pos (hi_of c)

-- Holds if the row represents the cell at this position.
pub record SpellsCell {R : Type 0} (is_row : R → ℕ × Cell → Type 0) (place : ℕ) (row : R) (c : Cell)
    : Type 0 where
  pub row_is : is_row row (place, c)
  pub valid : IsCell c

-- Holds if the rows represent the cells, at positions that count up from `place`.
pub record SpellsCells {R : Type 0} (is_row : R → ℕ × Cell → Type 0) (place : ℕ) (rows : List R)
    (cs : List Cell) : Type 0 where
  pub rows_are : AllZip is_row rows (placed place cs)
  pub valid : AllByRecursion IsCell cs

-- Holds if the row is that of a cell and its position in the volume at `volume`.
abbrev pub IsRowInVolume : ℤ → ℕ → CellRow → ℕ × Cell → Type 0
IsRowInVolume num volume row c =
    IsCellRow num row (record { volume = volume; place = c.0; cell = c.1 })

-- Holds if the row belongs to the volume at that position.
abbrev pub IsOfVolume : ℕ → CellRow → Type 0
IsOfVolume volume row = row.volume ≡ pos volume

-- Holds if the first row, if any, does not belong to that volume.
abbrev pub StartsElse : ℕ → List CellRow → Type 0
StartsElse volume [] = Unit {0}
StartsElse volume (row ∷ rows) = ¬ IsOfVolume volume row
