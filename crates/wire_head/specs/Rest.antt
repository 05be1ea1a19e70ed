-- The kind of the rest of an input, by its first 8,192 bytes and its length.
use Rattle.std.specs.Prelude.{◌≡◌, ℕ, ◌+◌, ◌<◌, ◌≤◌, ◌⊎◌, Bool, true, false, ◌||◌, ◌==◌, if◌then◌else◌, List, [], ◌∷◌, length, take, drop, count_by}
use Rattle.std.specs.List.{list_any}
use Rattle.httparse.specs.declared.spans.HeaderSpan.{HeaderSpan}
use Rattle.httparse.specs.Grammar.{RequestHead, ReadsRequest, NeverHasRequest, HasNoRequest, MayBecomeRequest, print_request}
use Rattle.httparse.specs.Spans.{RequestExceeds, RequestOverflows, IsRequestAt, IsRequestWithin}
use Rattle.wire_head.specs.declared.rest.PartialHead.{PartialHead}
use Rattle.wire_head.specs.declared.rest.PartialHead.TheVariants.{More, Head, Bad, Large}
use Rattle.wire_head.specs.declared.rest.FinalHead.{FinalHead}
use Rattle.wire_head.specs.declared.rest.FinalHead.TheVariants as found

-- Returns true if the bytes have a line feed.
abbrev pub has_feed : List ℕ → Bool
has_feed bytes = list_any (λ b. b == 10) bytes

-- Returns true if a request line has ended: a line feed follows a byte other than CR and LF.
abbrev pub has_line : List ℕ → Bool
has_line [] = false
has_line (b ∷ bytes) = if (b == 13 || b == 10) then has_line bytes else has_feed bytes

-- The bytes in which a head has to end.
abbrev pub window : List ℕ → List ℕ
window rest = take 8192 rest

-- Holds if a complete head of at most 64 fields stands at the front.
abbrev pub IsWhole : List ℕ → RequestHead → Type 0
IsWhole rest h = (more : List ℕ) × ReadsRequest (window rest) h more × (length h.fields ≤ 64)

abbrev pub HasNoWhole : List ℕ → Type 0
HasNoWhole rest = (h : RequestHead) → IsWhole rest h → ⊥

-- The bytes after a head.
abbrev pub after : RequestHead → List ℕ → List ℕ
after h rest = drop (length (print_request h)) rest

-- The bytes after the leading empty lines.
abbrev pub skip_ends : List ℕ → List ℕ
skip_ends [] = []
skip_ends (b ∷ bytes) = if (b == 13 || b == 10) then skip_ends bytes else b ∷ bytes

-- The number of line feeds.
abbrev pub feeds : List ℕ → ℕ
feeds bytes = count_by (λ b. b == 10) bytes

-- Holds if the request line and more than 64 lines after it have ended.
abbrev pub HasManyLines : List ℕ → Type 0
HasManyLines bytes = 64 + 2 ≤ feeds (skip_ends bytes)

-- States that a head with more than 64 fields has that many lines.
abbrev pub FieldsEndLines : Type 0
FieldsEndLines = (bytes : List ℕ) → RequestExceeds 64 bytes → HasManyLines bytes

-- Holds if the head has more than 64 fields, or can still come and has too many lines for 64.
abbrev pub HasManyFields : List ℕ → Type 0
HasManyFields bytes = RequestExceeds 64 bytes ⊎ ((NeverHasRequest bytes → ⊥) × HasManyLines bytes)

-- Holds if the bytes can still begin a head, or if no request line has ended.
abbrev pub IsOpen : List ℕ → Type 0
IsOpen bytes = (has_line bytes ≡ false) ⊎ ((NeverHasRequest bytes → ⊥) × (HasManyLines bytes → ⊥))

-- The kind of a rest: nothing, part of a head, a complete head, no valid head, or too large a head.
pub data Kind : Type 0 where
  nothing cut bad large : Kind
  whole : RequestHead → Kind

abbrev pub IsKind : List ℕ → Kind → Type 0
IsKind rest nothing = rest ≡ []
IsKind rest (whole h) = (has_line (window rest) ≡ true) × IsWhole rest h
IsKind rest bad = (has_line (window rest) ≡ true) × NeverHasRequest (window rest)
IsKind rest large =
    HasNoWhole rest
    × (((8192 ≤ length rest) × IsOpen (window rest)) ⊎ ((has_line (window rest) ≡ true)
    × HasManyFields (window rest)))
IsKind rest cut = HasNoWhole rest × (0 < length rest) × (length rest < 8192) × IsOpen (window rest)

-- Holds if two kinds of a rest are equal. Both `bad` and `large` are right if the rest breaks the
-- grammar and also has too many fields.
abbrev pub AreSame : List ℕ → Kind → Kind → Type 0
AreSame rest bad large = RequestExceeds 64 (window rest)
AreSame rest large bad = RequestExceeds 64 (window rest)
AreSame rest nothing k = k ≡ nothing
AreSame rest cut k = k ≡ cut
AreSame rest (whole h) k = k ≡ whole h
AreSame rest bad bad = Unit {0}
AreSame rest bad nothing = ⊥
AreSame rest bad cut = ⊥
AreSame rest bad (whole h) = ⊥
AreSame rest large large = Unit {0}
AreSame rest large nothing = ⊥
AreSame rest large cut = ⊥
AreSame rest large (whole h) = ⊥

-- Holds if this is what the bytes so far say of a head, with room for 64 fields.
abbrev pub IsSoFar : List ℕ → List HeaderSpan → PartialHead → Type 0
IsSoFar w fields More = (has_line w ≡ false) ⊎ ((has_line w ≡ true) × HasNoRequest w
    × MayBecomeRequest w)
IsSoFar w fields (Head spans) =
    ((h : RequestHead) × IsRequestAt w fields spans h × (length h.fields ≤ 64))
    × IsRequestWithin w fields spans
IsSoFar w fields Bad = (has_line w ≡ true) × NeverHasRequest w
IsSoFar w fields Large = (has_line w ≡ true) × RequestExceeds 64 w × RequestOverflows 64 w

-- Holds if this is what the bytes at the end of the input are.
abbrev pub EndsAs : List ℕ → FinalHead → Type 0
EndsAs bytes found.Nothing = bytes ≡ []
EndsAs bytes found.Part = (0 < length bytes) × (HasManyLines bytes → ⊥)
EndsAs bytes found.Large = (0 < length bytes) × HasManyLines bytes
EndsAs bytes found.Bad = ⊥
EndsAs bytes (found.Head spans) = ⊥
