-- Lemmas: from what was found at the front of the rest to the next request.
use Rattle.std.proofs.Common.{◌≡◌, ℕ, ◌+◌, ◌-◌, ◌<◌, ◌≤◌, List, [], ◌∷◌, ◌++◌, length, take, drop, map, All, refl, sym, ap, subst, ◌∙◌, Ok, Err, inr, true, false, cond, arith}
use Rattle.std.specs.Prelude.{nat_le, codes}
use Rattle.std.specs.Str.Parse.{digits_value}
use Rattle.std.proofs.lemmas.List.{append-nil, length-append, length-drop, length-take, drop-append-le, take-append-le}
use Rattle.std.proofs.lemmas.List.Elements.{All-head, All-tail}
use Rattle.httparse.specs.declared.spans.HeaderSpan.{HeaderSpan}
use Rattle.httparse.specs.declared.spans.Span.{Span}
use Rattle.httparse.specs.declared.spans.RequestSpans.{RequestSpans}
use Rattle.httparse.specs.Grammar.{RequestHead, print_request}
use Rattle.httparse.specs.Spans.{IsRequestWithin, IsHeaderWithin, IsWithin, header_bytes, span_bytes}
use Rattle.wire_http.specs.declared.end.End.TheVariants as ends
use Rattle.wire_head.specs.declared.rule.WireRule.{WireRule}
use Rattle.wire_head.specs.declared.rule.WireRule.TheVariants as rules
use Rattle.wire_http.specs.declared.request.Next.TheVariants.{Request, Stop}
use Rattle.wire_head.specs.Rest.{IsKind, whole, after}
use Rattle.wire_head.specs.FinalHead.{Covers}
use Rattle.wire_head.specs.Fields.{Fields, values_of}
use Rattle.wire_head.specs.Length.{content_length, reject_coded, length_by, is_number}
use Rattle.wire_operation.specs.Asked.{fields_of}
use Rattle.wire_http.specs.Stop.{Breaks, HasRefused, StopsAs}
use Rattle.wire_http.specs.Next.{IsNext, body_at}
use Rattle.wire_head.proofs.KindLaws.{one_kind}
use Rattle.wire_http.proofs.KnownBytes.{rest_at}

-- ---- a head and its body

pub same_head : (rest : List ℕ) (h k : RequestHead) → IsKind rest (whole h) → IsKind rest (whole k) → k ≡ h
same_head rest h k x y = let e : whole k ≡ whole h = one_kind rest (whole h) (whole k) x y in cc

-- The fields of a head break only the last three rules.
not_told : (a b : List (List ℕ)) (e : WireRule) → (rules.Transfer ≡ e → ⊥) → (rules.Length ≡ e → ⊥) → (rules.BodySize ≡ e → ⊥)
    → reject_coded a (length_by b) ≡ Err e → ⊥
not_told (a ∷ more) b e transfer length size h = transfer cc
not_told [] [] e transfer length size h = cc
not_told [] (a ∷ b ∷ more) e transfer length size h = length cc
not_told [] (text ∷ []) e transfer length size h =
    elim (is_number text) as (λ v. cond v (cond (nat_le (digits_value 10 text) 1048576) (Ok (digits_value 10 text)) (Err rules.BodySize)) (Err rules.Length) ≡ Err e → ⊥) [
      | true ↦ elim (nat_le (digits_value 10 text) 1048576) as (λ v. cond v (Ok (digits_value 10 text)) (Err rules.BodySize) ≡ Err e → ⊥) [
        | true ↦ λ k. cc
        | false ↦ λ k. size cc
      ]
      | false ↦ λ k. length cc
    ] h

not_head : (fields : Fields) → content_length fields ≡ Err rules.Head → ⊥
not_head fields h = not_told (values_of (codes "transfer-encoding") fields) (values_of (codes "content-length") fields) rules.Head (λ e. cc) (λ e. cc) (λ e. cc) h

not_size : (fields : Fields) → content_length fields ≡ Err rules.HeadSize → ⊥
not_size fields h = not_told (values_of (codes "transfer-encoding") fields) (values_of (codes "content-length") fields) rules.HeadSize (λ e. cc) (λ e. cc) (λ e. cc) h

breaks_told : (rest : List ℕ) (e : WireRule) → HasRefused rest e → Breaks rest e
breaks_told rest rules.Head (h, x, told) = absurd (not_head (fields_of h) told)
breaks_told rest rules.HeadSize (h, x, told) = absurd (not_size (fields_of h) told)
breaks_told rest rules.Transfer r = r
breaks_told rest rules.Length r = r
breaks_told rest rules.BodySize r = r

-- The length from the spans is the length from the head.
told_by_head : (buffer : List ℕ) (fields : List HeaderSpan) (spans : RequestSpans) (h : RequestHead) → Covers buffer fields spans h
    → content_length (map (header_bytes buffer) (take spans.headers fields)) ≡ content_length (fields_of h)
told_by_head buffer fields spans h c = ap content_length c.fields

-- Holds if the buffer begins with this head, whatever follows.
abbrev StandsIn : List ℕ → RequestHead → Type 0
StandsIn buffer h = (later : List ℕ) → IsKind (buffer ++ later) (whole h)

pub refused : (ahead buffer : List ℕ) (fields : List HeaderSpan) (spans : RequestSpans) (e : WireRule)
    → content_length (map (header_bytes buffer) (take spans.headers fields)) ≡ Err e
    → (h : RequestHead) → StandsIn buffer h → Covers buffer fields spans h → IsNext ahead buffer fields (Stop (ends.Wire e))
refused ahead buffer fields spans e told h x c = breaks_told (buffer ++ ahead) e (h, x ahead, sym (told_by_head buffer fields spans h c) ∙ told)

head_fits : (rest : List ℕ) (h : RequestHead) → IsKind rest (whole h) → length (print_request h) ≤ length rest
head_fits rest h (line, (more, reads, few)) = omega (arith, length-take 8192 rest, ap length reads.1, length-append (print_request h) more)

pub ended : (ahead buffer more new : List ℕ) (fields : List HeaderSpan) (spans : RequestSpans) (size : ℕ)
    → new ≡ buffer ++ more → ahead ≡ [] → length new < spans.len + size
    → content_length (map (header_bytes buffer) (take spans.headers fields)) ≡ Ok size
    → (h : RequestHead) → StandsIn buffer h → Covers buffer fields spans h → IsNext ahead new fields (Stop ends.Cut)
ended ahead buffer more new fields spans size grown none short told h x c =
    let here : IsKind new (whole h) = subst (λ (v : List ℕ). IsKind v (whole h)) (sym grown) (x more) in
    subst (λ (v : List ℕ). StopsAs v ends.Cut) (sym (ap (λ v. new ++ v) none ∙ append-nil new)) (inr (
      h,
      size,
      here,
      sym (told_by_head buffer fields spans h c) ∙ told,
      omega (arith, short, c.len, head_fits new h here, length-drop (length (print_request h)) new),
    ))

-- ---- a buffer that has grown

pub span_more : (x y : List ℕ) (n : ℕ) (s : Span) → IsWithin n s → n ≤ length x → span_bytes (x ++ y) s ≡ span_bytes x s
span_more x y n s (ordered, within) le =
    let fits : s.start ≤ length x = omega arith in
    let room : s.end - s.start ≤ length (drop s.start x) = omega (arith, length-drop s.start x) in
    ap (λ v. take (s.end - s.start) v) (drop-append-le s.start x y fits) ∙ take-append-le (s.end - s.start) (drop s.start x) y room

headers_more : (x y : List ℕ) (n : ℕ) (fs : List HeaderSpan) → All (IsHeaderWithin n) fs → n ≤ length x → map (header_bytes (x ++ y)) fs ≡ map (header_bytes x) fs
headers_more x y n [] all le = refl
headers_more x y n (f ∷ fs) all le =
    let here : IsHeaderWithin n f = All-head (IsHeaderWithin n) f fs all in
    let name : span_bytes (x ++ y) f.name ≡ span_bytes x f.name = span_more x y n f.name here.0 le in
    let value : span_bytes (x ++ y) f.value ≡ span_bytes x f.value = span_more x y n f.value here.1 le in
    let later : map (header_bytes (x ++ y)) fs ≡ map (header_bytes x) fs = headers_more x y n fs (All-tail (IsHeaderWithin n) f fs all) le in
    cc

covers_more : (x y : List ℕ) (fields : List HeaderSpan) (spans : RequestSpans) (h : RequestHead) → IsRequestWithin x fields spans → Covers x fields spans h → Covers (x ++ y) fields spans h
covers_more x y fields spans h w c = record {
  len = c.len;
  method = span_more x y spans.len spans.method w.method w.section.len_fits ∙ c.method;
  path = span_more x y spans.len spans.path w.path w.section.len_fits ∙ c.path;
  version = c.version;
  fields = headers_more x y spans.len (take spans.headers fields) w.section.headers_fit w.section.len_fits ∙ c.fields;
}

pub body_size : (new : List ℕ) (len size : ℕ) → len + size ≤ length new → length (body_at new len size) ≡ size
body_size new len size fits = omega (arith, length-take size (drop len new), length-drop len new, fits)

body_more : (new tail : List ℕ) (len size : ℕ) → len + size ≤ length new → take size (drop len (new ++ tail)) ≡ body_at new len size
body_more new tail len size fits =
    let l : len ≤ length new = omega arith in
    let room : size ≤ length (drop len new) = omega (arith, length-drop len new) in
    ap (λ v. take size v) (drop-append-le len new tail l) ∙ take-append-le size (drop len new) tail room

pub taken : (ahead buffer more new : List ℕ) (fields : List HeaderSpan) (spans : RequestSpans) (size : ℕ)
    → new ≡ buffer ++ more → IsRequestWithin buffer fields spans → spans.len + size ≤ length new
    → content_length (map (header_bytes buffer) (take spans.headers fields)) ≡ Ok size
    → (h : RequestHead) → StandsIn buffer h → Covers buffer fields spans h → IsNext ahead new fields (Request spans size)
taken ahead buffer more new fields spans size grown within fits told h x c = (
  h,
  λ later. record {
    head = subst (λ (v : List ℕ). IsKind v (whole h)) (sym (rest_at buffer new more later grown)) (x (more ++ later));
    told = sym (told_by_head buffer fields spans h c) ∙ told ∙ ap Ok (sym (body_size new spans.len size fits));
    follows =
        ap (λ n. take n (after h (new ++ later))) (body_size new spans.len size fits)
        ∙ ap (λ n. take size (drop n (new ++ later))) (sym c.len)
        ∙ body_more new later spans.len size fits;
  },
  subst (λ (v : List ℕ). Covers v fields spans h) (sym grown) (covers_more buffer more fields spans h within c),
)
