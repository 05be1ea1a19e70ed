-- Lemmas: the first request of the buffered bytes.
use Rattle.std.proofs.Common.{◌≡◌, ℕ, ◌+◌, ◌-◌, ◌<◌, List, [], ◌++◌, length, take, map, Bool, cond, Option, refl, ap, subst, ◌∙◌, arith}
use Rattle.std.specs.List.{concat}
use Rattle.std.proofs.lemmas.List.{append-nil}
use Rattle.httparse.specs.declared.spans.HeaderSpan.{HeaderSpan}
use Rattle.httparse.specs.declared.spans.RequestSpans.{RequestSpans}
use Rattle.httparse.specs.Grammar.{RequestHead}
use Rattle.httparse.specs.Spans.{header_bytes}
use Rattle.wire_head.specs.Close.{closes_by}
use Rattle.wire_head.specs.FinalHead.{Covers}
use Rattle.wire_head.specs.Target.{path_of}
use Rattle.wire_route.specs.declared.endpoint.Endpoint.{Endpoint}
use Rattle.wire_http.specs.BufferState.{IsHeld, MayCome}
use Rattle.wire_http.specs.Next.{body_at}
use Rattle.wire_http.specs.RequestInfo.{IsEntityNamed}
use Rattle.wire_http.specs.Stop.{Breaks, StopsAs}
use Rattle.wire_http.specs.Wire.{IsRequest, left_after}
use Rattle.wire_http.specs.declared.buffered.BufferState.TheVariants.{Gives}
use Rattle.wire_http.specs.declared.end.End.{End}
use Rattle.wire_http.specs.declared.end.End.TheVariants as ends
use Rattle.wire_http.specs.Text.{end_texts}
use Rattle.wire_head.specs.declared.rule.WireRule.{WireRule}
use Rattle.wire_http.specs.declared.request.Next.TheVariants.{Request}

-- The bytes begin with the request that was found.
pub request_here : (bytes : List ℕ) (over : Bool) (fields : List HeaderSpan) (spans : RequestSpans) (size : ℕ) → IsHeld bytes over fields (Gives (Request spans size))
    → (h : RequestHead) × IsRequest bytes h (body_at bytes spans.len size) × Covers bytes fields spans h
request_here bytes over fields spans size held =
    let found = held [] (λ _. refl) in
    (found.0, subst (λ (v : List ℕ). IsRequest v found.0 (body_at bytes spans.len size)) (append-nil bytes) (found.1 []), found.2)

-- The number of requests that may follow.
pub left_here : (bytes at : List ℕ) (fields : List HeaderSpan) (spans : RequestSpans) (n count : ℕ) (h : RequestHead) → at ≡ bytes → Covers bytes fields spans h
    → n ≡ cond (closes_by spans.version (map (header_bytes at) (take spans.headers fields))) 0 count → n ≡ left_after count h
left_here bytes at fields spans n count h a c e =
    e
    ∙ ap (λ v. cond (closes_by spans.version (map (header_bytes v) (take spans.headers fields))) 0 count) a
    ∙ ap (λ v. cond (closes_by v (map (header_bytes bytes) (take spans.headers fields))) 0 count) c.version
    ∙ ap (λ v. cond (closes_by h.minor v) 0 count) c.fields

pub named_here : (path target method other : List ℕ) (endpoint : Option Endpoint) (entity : Option ℕ) → path ≡ target → method ≡ other
    → IsEntityNamed (path_of path) method endpoint entity → IsEntityNamed (path_of target) other endpoint entity
named_here path target method other endpoint entity e m named =
    subst (λ (v : List ℕ). IsEntityNamed (path_of target) v endpoint entity) m
    (subst (λ (v : List ℕ). IsEntityNamed (path_of v) method endpoint entity) e named)

-- An end with a text is by a rule that the bytes break.
pub breaks_some : (bytes : List ℕ) (over : Bool) (end : End) → 0 < length (concat (end_texts end)) → ((later : List ℕ) → MayCome over later → StopsAs (bytes ++ later) end)
    → (rule : WireRule) × ((later : List ℕ) → MayCome over later → Breaks (bytes ++ later) rule)
breaks_some bytes over (ends.Wire rule) some stops = (rule, stops)
breaks_some bytes over ends.End some stops = absurd (omega (arith, some))
breaks_some bytes over ends.Cut some stops = absurd (omega (arith, some))
breaks_some bytes over ends.Close some stops = absurd (omega (arith, some))
