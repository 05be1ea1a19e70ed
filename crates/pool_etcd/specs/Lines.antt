-- Lines of bytes.
use Rattle.std.specs.Prelude.{◌≡◌, ◌≢◌, ℕ, ◌<◌, List, ◌∷◌, ◌++◌, length, slice_index}

-- Holds if none of the bytes is this one.
abbrev pub Lacks : ℕ → List ℕ → Type 0
Lacks byte bytes = (k : ℕ) → k < length bytes → slice_index bytes k ≢ byte

-- Holds if no byte is a line feed.
abbrev pub IsOneLine : List ℕ → Type 0
IsOneLine bytes = Lacks 10 bytes

-- Holds if the bytes begin with a line, and the rest is behind its line feed.
pub record BeginsWith (bytes line rest : List ℕ) : Type 0 where
  pub split : bytes ≡ line ++ 10 ∷ rest
  pub one_line : IsOneLine line

-- Holds if the byte stands in the bytes for the first time behind the front, and before the rest.
pub record SplitsAt (byte : ℕ) (bytes front rest : List ℕ) : Type 0 where
  pub split : bytes ≡ front ++ byte ∷ rest
  pub first : Lacks byte front
