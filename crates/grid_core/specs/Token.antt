-- Tokens: hexadecimal texts that represent the number of a cell.
use Rattle.std.specs.Prelude.{◌≡◌, ◌≢◌, ◌↔◌, ℕ, ◌-◌, ◌*◌, ◌^◌, ◌/◌, ◌%◌, ◌≤◌, ◌&&◌, ◌||◌, nat_le, nat_lt, nat_eq, if◌then◌else◌, Bool, List, length, codes, Result, Ok, Err, Option, Some, None, IsTrue}
use Rattle.std.specs.List.{list_all}
use Rattle.std.specs.Char.{digit_value}
use Rattle.std.specs.Int.{w64, trailing_zeros}
use Rattle.std.specs.Str.Parse.{AllDigits, digits_value}
use Rattle.grid_core.specs.Cell.{Cell, IsCell, number_of}
use Rattle.grid_core.specs.CellNumber.{cell_of}
use Rattle.grid_core.specs.declared.token.TokenFault.{TokenFault}
use Rattle.grid_core.specs.declared.token.TokenFault.TheVariants.{Length, Digit, Invalid}

abbrev pub fault_number : TokenFault → ℕ
fault_number Length = 1
fault_number Digit = 2
fault_number Invalid = 3

abbrev pub fault_name : TokenFault → List ℕ
fault_name Length = codes "Length"
fault_name Digit = codes "Digit"
fault_name Invalid = codes "Invalid"

abbrev pub HasTokenLength : List ℕ → Type 0
HasTokenLength text = (1 ≤ length text) × (length text ≤ 16)

-- The number that a text represents, padded with zeros on the right to 16 digits.
abbrev pub token_number : List ℕ → ℕ
token_number text = digits_value 16 text * 16 ^ (16 - length text)

-- Holds if the text represents the cell.
pub record IsTokenOf (text : List ℕ) (c : Cell) : Type 0 where
  pub size : HasTokenLength text
  pub digits : AllDigits 16 text
  pub number : number_of c ≡ token_number text

-- Holds if parsing a text can have this result: the cell that it represents, or its first fault.
abbrev pub Parses : List ℕ → Result Cell TokenFault → Type 0
Parses text (Ok c) = IsCell c × IsTokenOf text c
Parses text (Err Length) = HasTokenLength text → ⊥
Parses text (Err Digit) = HasTokenLength text × (AllDigits 16 text → ⊥)
Parses text (Err Invalid) = HasTokenLength text × AllDigits 16 text
    × ((c : Cell) → IsCell c → number_of c ≢ token_number text)

-- ---- the same, computed

-- True if the text has 1 to 16 hexadecimal digits.
abbrev pub has_token_form : List ℕ → Bool
has_token_form text =
    (nat_le 1 (length text) && nat_le (length text) 16)
    && list_all (λ b. nat_lt (digit_value b) 16) text

-- True if a number has a face up to 5 and its lowest 1 bit at an even position up to 60.
abbrev pub is_number : ℕ → Bool
is_number n =
    nat_le (trailing_zeros w64 n) 60
    && (nat_eq (trailing_zeros w64 n % 2) 0 && nat_le (n / 2 ^ 61) 5)

-- The cell that a text represents, if any.
unfoldable pub cell_named : List ℕ → Option Cell
cell_named text =
    if has_token_form text && is_number (token_number text)
    then Some (cell_of (token_number text)) else None

-- States that `cell_named` returns the cell that a text represents, and no other.
abbrev pub NamesCell : Type 0
NamesCell = (text : List ℕ) (c : Cell) → (cell_named text ≡ Some c) ↔ (IsCell c × IsTokenOf text c)

-- ---- printed tokens

-- True for '0' to '9' and 'a' to 'f'.
abbrev pub is_lower_digit : ℕ → Bool
is_lower_digit b = (nat_le 48 b && nat_le b 57) || (nat_le 97 b && nat_le b 102)

-- Holds if the text is the shortest lower-case text that represents the cell.
pub record IsShortest (text : List ℕ) (c : Cell) : Type 0 where
  pub reads : IsTokenOf text c
  pub lower : IsTrue (list_all is_lower_digit text)
  pub shortest : (other : List ℕ) → IsTokenOf other c → length text ≤ length other

-- Holds if the text is the first digits of a 16-digit number, in lower case.
pub record Written (n count : ℕ) (text : List ℕ) : Type 0 where
  pub size : length text ≡ count
  pub digits : AllDigits 16 text
  pub value : digits_value 16 text ≡ n / 2 ^ (64 - 4 * count)
  pub lower : IsTrue (list_all is_lower_digit text)
