-- What the buffered bytes of a stream give next.
use Rattle.std.specs.Prelude.{◌≡◌, ◌<◌, ◌≤◌, ℕ, Bool, true, false, List, [], ◌++◌, length}
use Rattle.httparse.specs.declared.spans.HeaderSpan.{HeaderSpan}
use Rattle.httparse.specs.Grammar.{RequestHead}
use Rattle.wire_http.specs.declared.buffered.BufferState.{BufferState}
use Rattle.wire_http.specs.declared.buffered.BufferState.TheVariants.{Gives, Wants}
use Rattle.wire_http.specs.Next.{IsNext, NextFits}
use Rattle.wire_http.specs.Wire.{IsRequest}

-- The maximum number of buffered bytes: a head and a body.
abbrev pub max_buffered : ℕ
max_buffered = 1056768

-- Holds if a buffer with this length and capacity is not empty, or has at most 64 KB.
abbrev pub IsLight : ℕ → ℕ → Type 0
IsLight len capacity = len ≡ 0 → capacity ≤ 65536

-- Holds if these bytes can still arrive. If the input has ended, only the empty list can. Otherwise
-- any bytes can, and nothing is claimed of them.
abbrev pub MayCome : Bool → List ℕ → Type 0
MayCome ended later = ended ≡ true → later ≡ []

-- Holds if the rest does not begin with a complete request.
abbrev pub HasNoRequest : List ℕ → Type 0
HasNoRequest rest = (h : RequestHead) (body : List ℕ) → IsRequest rest h body → ⊥

-- Holds if no request is complete while there are fewer bytes than `count`, whatever follows.
abbrev pub HasNoneBelow : List ℕ → ℕ → Type 0
HasNoneBelow bytes count = (later : List ℕ) → length (bytes ++ later) < count
    → HasNoRequest (bytes ++ later)

-- Holds if the buffered bytes begin with a complete request, or stop the stream, whatever may still
-- arrive. In the case `Wants`, the input has not ended, and no request is complete with fewer bytes
-- than `count`.
abbrev pub IsHeld : List ℕ → Bool → List HeaderSpan → BufferState → Type 0
IsHeld bytes ended fields (Gives next) = (later : List ℕ) → MayCome ended later
    → IsNext later bytes fields next
IsHeld bytes ended fields (Wants count) = (ended ≡ false) × (length bytes < count)
    × (count ≤ max_buffered) × HasNoneBelow bytes count

-- Holds if the request is within the buffered bytes.
abbrev pub BufferedFits : List ℕ → List HeaderSpan → BufferState → Type 0
BufferedFits bytes fields (Gives next) = NextFits bytes fields next
BufferedFits bytes fields (Wants count) = Unit {0}
