-- The bytes that a reader gives, as far as they are known.
use Rattle.std.specs.Prelude.{◌≡◌, ℕ, List, [], ◌++◌, Option, Some, None}
use Rattle.std.specs.Io.KnownBytes.{Consumes}

-- The known bytes: none if the bytes of a reader are unknown.
abbrev pub known_bytes : Option (List ℕ) → List ℕ
known_bytes None = []
known_bytes (Some bytes) = bytes

-- Holds if these are the bytes of a reader. If they are unknown, they can be any.
abbrev pub IsInput : Option (List ℕ) → List ℕ → Type 0
IsInput None input = Unit {0}
IsInput (Some bytes) input = input ≡ bytes

-- Holds if the buffer grew by bytes that the reader gave.
abbrev pub BufferGrew : Option (List ℕ) → Option (List ℕ) → List ℕ → List ℕ → Type 0
BufferGrew remaining remaining' buffer buffer' =
    (more : List ℕ) × (buffer' ≡ buffer ++ more) × Consumes remaining remaining' more
