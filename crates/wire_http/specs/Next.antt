-- What the unread input gives next.
use Rattle.std.specs.Prelude.{◌≤◌, ◌+◌, ℕ, List, ◌++◌, length, take, drop, IsUtf8}
use Rattle.httparse.specs.declared.spans.HeaderSpan.{HeaderSpan}
use Rattle.httparse.specs.Grammar.{RequestHead}
use Rattle.httparse.specs.Spans.{span_bytes, IsRequestWithin}
use Rattle.wire_http.specs.declared.request.Next.{Next}
use Rattle.wire_http.specs.declared.request.Next.TheVariants.{Request, Stop}
use Rattle.wire_head.specs.FinalHead.{Covers}
use Rattle.wire_http.specs.Stop.{StopsAs}
use Rattle.wire_http.specs.Wire.{IsRequest}

-- The body after the head.
abbrev pub body_at : List ℕ → ℕ → ℕ → List ℕ
body_at buffer start size = take size (drop start buffer)

-- Holds if the buffer begins with this request, whatever follows, and the spans cover its parts.
-- Otherwise the buffer, with these bytes after it, must stop the stream in this way.
abbrev pub IsNext : List ℕ → List ℕ → List HeaderSpan → Next → Type 0
IsNext ahead buffer fields (Request spans size) =
    (h : RequestHead)
    × ((later : List ℕ) → IsRequest (buffer ++ later) h (body_at buffer spans.len size))
    × Covers buffer fields spans h
IsNext ahead buffer fields (Stop end) = StopsAs (buffer ++ ahead) end

-- Holds if the request is within the buffer.
abbrev pub NextFits : List ℕ → List HeaderSpan → Next → Type 0
NextFits buffer fields (Request spans size) =
    IsRequestWithin buffer fields spans
    × IsUtf8 (span_bytes buffer spans.path)
    × (spans.len + size ≤ length buffer)
NextFits buffer fields (Stop end) = Unit {0}
