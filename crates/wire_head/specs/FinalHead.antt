-- The head found at the front of an input.
use Rattle.std.specs.Prelude.{◌≡◌, ℕ, List, ◌++◌, length}
use Rattle.httparse.specs.declared.spans.HeaderSpan.{HeaderSpan}
use Rattle.httparse.specs.declared.spans.RequestSpans.{RequestSpans}
use Rattle.httparse.specs.Grammar.{RequestHead, print_request}
use Rattle.httparse.specs.Spans.{span_bytes, AreFieldsAt}
use Rattle.wire_head.specs.declared.rest.FinalHead.{FinalHead}
use Rattle.wire_head.specs.declared.rest.FinalHead.TheVariants.{Nothing, Part, Head, Bad, Large}
use Rattle.wire_head.specs.Rest.{IsKind, nothing, cut, whole, bad, large}

-- Holds if the spans cover the parts of the head.
pub record Covers (buffer : List ℕ) (headers : List HeaderSpan) (spans : RequestSpans)
    (h : RequestHead) : Type 0 where
  pub len : spans.len ≡ length (print_request h)
  pub method : span_bytes buffer spans.method ≡ h.method
  pub path : span_bytes buffer spans.path ≡ h.target
  pub version : spans.version ≡ h.minor
  pub fields : AreFieldsAt buffer headers spans.headers h.fields

-- Holds if the buffer, with these bytes after it, is of the kind that was found. A complete head
-- stands there whatever follows.
abbrev pub Finds : List ℕ → List ℕ → List HeaderSpan → FinalHead → Type 0
Finds ahead buffer fields Nothing = IsKind (buffer ++ ahead) nothing
Finds ahead buffer fields Part = IsKind (buffer ++ ahead) cut
Finds ahead buffer fields (Head spans) =
    (h : RequestHead) × ((later : List ℕ) → IsKind (buffer ++ later) (whole h))
    × Covers buffer fields spans h
Finds ahead buffer fields Bad = IsKind (buffer ++ ahead) bad
Finds ahead buffer fields Large = IsKind (buffer ++ ahead) large
