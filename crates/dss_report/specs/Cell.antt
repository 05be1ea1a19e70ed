-- The line of a cell.
use Rattle.std.specs.Prelude.{◌≡◌, ℕ, List, Err, ◌++◌, codes, decimal, length}
use Rattle.grid_core.specs.Cell.{Cell, IsCell, hi_of, lo_of}
use Rattle.grid_core.specs.Token.{IsShortest, IsTokenOf, Parses}
use Rattle.dss_report.specs.declared.fault.CellFault.{CellFault}
use Rattle.dss_report.specs.declared.fault.CellFault.TheVariants.{Token, Memory}

-- The line of a cell with this token.
abbrev pub cell_text : List ℕ → Cell → List ℕ
cell_text name c =
    name
    ++ (codes " face=" ++ (decimal c.face
    ++ (codes " level=" ++ (decimal (length c.digits)
    ++ (codes " lo=" ++ (decimal (lo_of c)
    ++ (codes " hi=" ++ (decimal (hi_of c)
    ++ codes "\n"))))))))

-- Holds if the text is the line of the cell, with its shortest token.
abbrev pub IsLineOf : Cell → List ℕ → Type 0
IsLineOf c line = (name : List ℕ) × IsShortest name c × (line ≡ cell_text name c)

-- Holds if the text is the line of the token's cell.
abbrev pub IsLineOfToken : List ℕ → List ℕ → Type 0
IsLineOfToken token line = (c : Cell) × IsCell c × IsTokenOf token c × IsLineOf c line

-- Why a token has no line: it is invalid, or memory ran out.
abbrev pub IsFaultOfToken : List ℕ → CellFault → Type 0
IsFaultOfToken token (Token why) = Parses token (Err why)
IsFaultOfToken token Memory = Unit {0}
