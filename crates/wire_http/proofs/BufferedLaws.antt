-- Lemmas: from what the first buffered bytes give to what all of them give.
use Rattle.std.proofs.Common.{◌≡◌, ℕ, ◌+◌, ◌-◌, ◌<◌, ◌≤◌, List, [], ◌∷◌, ◌++◌, length, take, drop, map, Bool, true, false, Option, Result, refl, sym, ap, subst, ◌∙◌, append_assoc, Ok, Err, cond, inl, inr, arith}
use Rattle.std.specs.Prelude.{IsUtf8, OnErr, OnOk, codes, min, nat_le}
use Rattle.std.specs.Str.Parse.{digits_value}
use Rattle.std.specs.Io.KnownBytes.{IsAtEnd}
use Rattle.std.proofs.lemmas.Bool.{cases_lt, leb-true}
use Rattle.std.proofs.lemmas.List.{append-nil, length-append, length-drop, length-take, take-append-drop, take_all}
use Rattle.httparse.specs.declared.spans.HeaderSpan.{HeaderSpan}
use Rattle.httparse.specs.declared.spans.RequestSpans.{RequestSpans}
use Rattle.httparse.specs.Grammar.{RequestHead, ReadsRequest, print_request}
use Rattle.httparse.specs.Spans.{IsRequestWithin, header_bytes, span_bytes}
use Rattle.wire_http.specs.declared.end.End.{End}
use Rattle.wire_http.specs.declared.end.End.TheVariants as ends
use Rattle.wire_head.specs.declared.rule.WireRule.{WireRule}
use Rattle.wire_head.specs.declared.rule.WireRule.TheVariants as rules
use Rattle.wire_head.specs.declared.rest.FinalHead.{FinalHead}
use Rattle.wire_head.specs.declared.rest.FinalHead.TheVariants as found
use Rattle.wire_head.specs.declared.rest.PartialHead.TheVariants.{More, Bad, Large}
use Rattle.wire_http.specs.declared.buffered.BufferState.{BufferState}
use Rattle.wire_http.specs.declared.buffered.BufferState.TheVariants.{Gives, Wants}
use Rattle.wire_http.specs.declared.request.Next.{Next}
use Rattle.wire_http.specs.declared.request.Next.TheVariants.{Request, Stop}
use Rattle.wire_head.specs.Rest.{IsKind, IsSoFar, EndsAs, has_line, whole, after, window}
use Rattle.wire_head.specs.FinalHead.{Covers, Finds}
use Rattle.wire_head.specs.Fields.{Fields, values_of}
use Rattle.wire_head.specs.Length.{is_number, content_length, reject_coded, length_by}
use Rattle.wire_operation.specs.Asked.{fields_of}
use Rattle.wire_http.specs.Input.{known_bytes}
use Rattle.wire_http.specs.Next.{IsNext}
use Rattle.wire_http.specs.Stop.{StopsAs}
use Rattle.wire_http.specs.BufferState.{IsHeld, BufferedFits, HasNoneBelow, HasNoRequest}
use Rattle.wire_head.proofs.KindFinds.{kind_bad, kind_large, kind_full, kind_end}
use Rattle.wire_http.proofs.KnownBytes.{known_end, rest_at}
use Rattle.wire_http.proofs.NextLaws.{refused, ended, taken, same_head, span_more}

-- Holds if the buffer begins with this head, whatever follows.
abbrev StandsIn : List ℕ → RequestHead → Type 0
StandsIn buffer h = (later : List ℕ) → IsKind (buffer ++ later) (whole h)

pub parts : (bytes front : List ℕ) → front ≡ window bytes → bytes ≡ front ++ drop 8192 bytes
parts bytes front e = sym (ap (λ v. v ++ drop 8192 bytes) e ∙ take-append-drop 8192 bytes)

-- The first bytes, up to 8,192.
pub front_is : (bytes : List ℕ) (n : ℕ) → n ≡ min (length bytes) 8192 → take n bytes ≡ window bytes
front_is bytes n e =
    elim (cases_lt (length bytes) 8192) [
      | inl lt ↦ take_all n bytes (omega (arith, e, lt)) ∙ sym (take_all 8192 bytes (omega (arith, lt)))
      | inr ge ↦ let full : n ≡ 8192 = omega (arith, e, ge) in ap (λ v. take v bytes) full
    ]

pub front_short : (bytes front : List ℕ) → front ≡ window bytes → length front ≤ 8192
front_short bytes front e = omega (arith, ap length e, length-take 8192 bytes)

pub front_fits : (bytes front : List ℕ) → front ≡ window bytes → length front ≤ length bytes
front_fits bytes front e = omega (arith, ap length e, length-take 8192 bytes)

-- If the first bytes stop the stream, all of them do.
pub stops : (bytes front : List ℕ) (over : Bool) (fields : List HeaderSpan) (end : End) → front ≡ window bytes
    → ((ahead : List ℕ) → StopsAs (front ++ ahead) end) → IsHeld bytes over fields (Gives (Stop end))
stops bytes front over fields end e h = λ later may.
    subst (λ (v : List ℕ). StopsAs v end) (sym (rest_at front bytes (drop 8192 bytes) later (parts bytes front e))) (h (drop 8192 bytes ++ later))

pub held_refused : (bytes front : List ℕ) (over : Bool) (fields : List HeaderSpan) (spans : RequestSpans) (rule : WireRule) → front ≡ window bytes
    → content_length (map (header_bytes front) (take spans.headers fields)) ≡ Err rule
    → (h : RequestHead) → StandsIn front h → Covers front fields spans h → IsHeld bytes over fields (Gives (Stop (ends.Wire rule)))
held_refused bytes front over fields spans rule e told h x c =
    stops bytes front over fields (ends.Wire rule) e (λ ahead. refused ahead front fields spans rule told h x c)

pub held_taken : (bytes front : List ℕ) (over : Bool) (fields : List HeaderSpan) (spans : RequestSpans) (size : ℕ) → front ≡ window bytes
    → IsRequestWithin front fields spans → spans.len + size ≤ length bytes
    → content_length (map (header_bytes front) (take spans.headers fields)) ≡ Ok size
    → (h : RequestHead) → StandsIn front h → Covers front fields spans h → IsHeld bytes over fields (Gives (Request spans size))
held_taken bytes front over fields spans size e within fits told h x c = λ later may.
    taken later front (drop 8192 bytes) bytes fields spans size (parts bytes front e) within fits told h x c

pub held_cut : (bytes front : List ℕ) (over : Bool) (fields : List HeaderSpan) (spans : RequestSpans) (size : ℕ) → front ≡ window bytes
    → over ≡ true → length bytes < spans.len + size
    → content_length (map (header_bytes front) (take spans.headers fields)) ≡ Ok size
    → (h : RequestHead) → StandsIn front h → Covers front fields spans h → IsHeld bytes over fields (Gives (Stop ends.Cut))
held_cut bytes front over fields spans size e is short told h x c = λ later may.
    ended later front (drop 8192 bytes) bytes fields spans size (parts bytes front e) (may is) short told h x c

same_size : (r : Result ℕ WireRule) (a b : ℕ) → r ≡ Ok a → r ≡ Ok b → a ≡ b
same_size r a b p q = cc

-- A valid length is at most the maximum length of a body.
told_most_by : (a b : List (List ℕ)) (n : ℕ) → reject_coded a (length_by b) ≡ Ok n → n ≤ 1048576
told_most_by (a ∷ more) b n h = let no : ⊥ = cc in absurd no
told_most_by [] [] n h = let e : 0 ≡ n = cc in omega (arith, e)
told_most_by [] (a ∷ b ∷ more) n h = let no : ⊥ = cc in absurd no
told_most_by [] (text ∷ []) n h =
    elim (is_number text) as (λ v. cond v (cond (nat_le (digits_value 10 text) 1048576) (Ok (digits_value 10 text)) (Err rules.BodySize)) (Err rules.Length) ≡ Ok n → n ≤ 1048576) [
      | true ↦ elim (nat_le (digits_value 10 text) 1048576) as (λ v. nat_le (digits_value 10 text) 1048576 ≡ v → cond v (Ok (digits_value 10 text)) (Err rules.BodySize) ≡ Ok n → n ≤ 1048576) [
        | true ↦ λ le k. let e : digits_value 10 text ≡ n = cc in omega (arith, leb-true (digits_value 10 text) 1048576 le, e)
        | false ↦ λ le k. let no : ⊥ = cc in absurd no
      ] refl
      | false ↦ λ k. let no : ⊥ = cc in absurd no
    ] h

told_most : (fields : Fields) (n : ℕ) → content_length fields ≡ Ok n → n ≤ 1048576
told_most fields n h = told_most_by (values_of (codes "transfer-encoding") fields) (values_of (codes "content-length") fields) n h

-- A head and its body have at most the maximum number of buffered bytes.
pub most_wanted : (bytes front : List ℕ) (fields : List HeaderSpan) (spans : RequestSpans) (size : ℕ) → front ≡ window bytes
    → IsRequestWithin front fields spans → content_length (map (header_bytes front) (take spans.headers fields)) ≡ Ok size
    → spans.len + size ≤ 1056768
most_wanted bytes front fields spans size e within told =
    omega (arith, within.section.len_fits, front_short bytes front e, told_most (map (header_bytes front) (take spans.headers fields)) size told)

pub held_more : (bytes front : List ℕ) (over : Bool) (fields : List HeaderSpan) (spans : RequestSpans) (size : ℕ) → front ≡ window bytes
    → over ≡ false → IsRequestWithin front fields spans → length bytes < spans.len + size
    → content_length (map (header_bytes front) (take spans.headers fields)) ≡ Ok size
    → (h : RequestHead) → StandsIn front h → Covers front fields spans h → IsHeld bytes over fields (Wants (spans.len + size))
held_more bytes front over fields spans size e is within short told h x c = (
  is,
  short,
  most_wanted bytes front fields spans size e within told,
  λ later fewer k body r.
      let all : List ℕ = bytes ++ later in
      let here : IsKind all (whole h) = subst (λ (v : List ℕ). IsKind v (whole h)) (sym (rest_at front bytes (drop 8192 bytes) later (parts bytes front e))) (x (drop 8192 bytes ++ later)) in
      let same : k ≡ h = same_head all h k here r.head in
      let told_k : content_length (fields_of h) ≡ Ok (length body) = subst (λ (v : RequestHead). content_length (fields_of v) ≡ Ok (length body)) same r.told in
      let is_size : size ≡ length body = same_size (content_length (fields_of h)) size (length body) (sym (ap content_length c.fields) ∙ told) told_k in
      let fit : take (length body) (after h all) ≡ body = subst (λ (v : RequestHead). take (length body) (after v all) ≡ body) same r.follows in
      omega (
        arith,
        is_size,
        ap length fit,
        length-take (length body) (after h all),
        length-drop (length (print_request h)) all,
        c.len,
        fewer,
        within.section.len_fits,
        front_fits bytes front e,
        length-append bytes later,
      ),
)

pub held_fits : (bytes front : List ℕ) (fields : List HeaderSpan) (spans : RequestSpans) (size : ℕ) → front ≡ window bytes
    → IsRequestWithin front fields spans → IsUtf8 (span_bytes front spans.path) → spans.len + size ≤ length bytes
    → BufferedFits bytes fields (Gives (Request spans size))
held_fits bytes front fields spans size e within text fits =
    let same : span_bytes (front ++ drop 8192 bytes) spans.path ≡ span_bytes front spans.path = span_more front (drop 8192 bytes) spans.len spans.path within.path within.section.len_fits in (
      record {
        method = within.method;
        path = within.path;
        version = within.version;
        section = record {
          len_fits = omega (arith, within.section.len_fits, front_fits bytes front e);
          count_fits = within.section.count_fits;
          headers_fit = within.section.headers_fit;
        };
      },
      subst (λ (v : List ℕ). IsUtf8 (span_bytes v spans.path)) (sym (parts bytes front e)) (subst (λ (v : List ℕ). IsUtf8 v) (sym same) text),
      fits,
    )

-- ---- no complete head

no_request : (bytes front : List ℕ) (fields : List HeaderSpan) → front ≡ window bytes → IsSoFar front fields More → HasNoRequest bytes
no_request bytes front fields e (inl line) h body r =
    let yes : true ≡ false = sym r.head.0 ∙ subst (λ (v : List ℕ). has_line v ≡ false) e line in cc
no_request bytes front fields e (inr (line, none, may)) h body r =
    none h r.head.1.0 (subst (λ (v : List ℕ). ReadsRequest v h r.head.1.0) (sym e) r.head.1.1)

open_below : (bytes later : List ℕ) → HasNoRequest bytes → length (bytes ++ later) < length bytes + 1 → HasNoRequest (bytes ++ later)
open_below bytes [] none fewer = subst (λ (v : List ℕ). HasNoRequest v) (sym (append-nil bytes)) none
open_below bytes (b ∷ later) none fewer = absurd (omega (arith, length-append bytes (b ∷ later), fewer))

pub held_open : (bytes front : List ℕ) (over : Bool) (fields : List HeaderSpan) → front ≡ window bytes → over ≡ false → length bytes < 8192
    → IsSoFar front fields More → IsHeld bytes over fields (Wants (length bytes + 1))
held_open bytes front over fields e is short part = (
  is,
  omega arith,
  omega (arith, short),
  λ later fewer. open_below bytes later (no_request bytes front fields e part) fewer,
)

pub held_bad : (bytes front : List ℕ) (over : Bool) (fields : List HeaderSpan) → front ≡ window bytes → IsSoFar front fields Bad
    → IsHeld bytes over fields (Gives (Stop (ends.Wire rules.Head)))
held_bad bytes front over fields e part =
    stops bytes front over fields (ends.Wire rules.Head) e (λ ahead. kind_bad front fields ahead (front_short bytes front e) part)

pub held_large : (bytes front : List ℕ) (over : Bool) (fields : List HeaderSpan) → front ≡ window bytes → IsSoFar front fields Large
    → IsHeld bytes over fields (Gives (Stop (ends.Wire rules.HeadSize)))
held_large bytes front over fields e part =
    stops bytes front over fields (ends.Wire rules.HeadSize) e (λ ahead. kind_large front fields ahead (front_short bytes front e) part)

pub held_full : (bytes front : List ℕ) (over : Bool) (fields : List HeaderSpan) → front ≡ window bytes → 8192 ≤ length bytes → IsSoFar front fields More
    → IsHeld bytes over fields (Gives (Stop (ends.Wire rules.HeadSize)))
held_full bytes front over fields e full part =
    stops bytes front over fields (ends.Wire rules.HeadSize) e
    (λ ahead. kind_full front fields ahead (front_short bytes front e) (omega (arith, ap length e, length-take 8192 bytes, full)) part)

-- ---- the end of the input

-- Holds if this is how the stream ends, given what the bytes at the end are.
abbrev pub Stops : FinalHead → End → Type 0
Stops found.Nothing end = end ≡ ends.End
Stops found.Part end = end ≡ ends.Cut
Stops found.Large end = end ≡ ends.Wire rules.HeadSize
Stops found.Bad end = ⊥
Stops (found.Head spans) end = ⊥

found_stops : (rest bytes : List ℕ) (fields : List HeaderSpan) (f : FinalHead) (end : End) → Stops f end → Finds rest bytes fields f → StopsAs (bytes ++ rest) end
found_stops rest bytes fields found.Nothing end is h = subst (λ (v : End). StopsAs (bytes ++ rest) v) (sym is) h
found_stops rest bytes fields found.Part end is h = subst (λ (v : End). StopsAs (bytes ++ rest) v) (sym is) (inl h)
found_stops rest bytes fields found.Large end is h = subst (λ (v : End). StopsAs (bytes ++ rest) v) (sym is) h
found_stops rest bytes fields found.Bad end is h = absurd is
found_stops rest bytes fields (found.Head spans) end is h = absurd is

pub held_end : (bytes front : List ℕ) (over : Bool) (fields : List HeaderSpan) (f : FinalHead) (end : End) → front ≡ window bytes → over ≡ true → length bytes < 8192
    → IsSoFar front fields More → EndsAs front f → Stops f end → IsHeld bytes over fields (Gives (Stop end))
held_end bytes front over fields f end e is short part at_end stop = λ later may.
    let all : front ≡ bytes = e ∙ take_all 8192 bytes (omega (arith, short)) in
    subst (λ (v : List ℕ). StopsAs (v ++ later) end) all
    (found_stops later front fields f end stop (kind_end front front fields f later refl (may is) (omega (arith, ap length all, short)) part at_end))

pub is_cut : (f : FinalHead) → f ≡ found.Part → Stops f ends.Cut
is_cut f e = subst (λ (v : FinalHead). Stops v ends.Cut) (sym e) refl

pub is_large : (f : FinalHead) → f ≡ found.Large → Stops f (ends.Wire rules.HeadSize)
is_large f e = subst (λ (v : FinalHead). Stops v (ends.Wire rules.HeadSize)) (sym e) refl

-- ---- bytes that arrive

-- If no request is complete below a number of bytes, none is after more bytes arrive.
below_more : (old new more : List ℕ) (count : ℕ) → new ≡ old ++ more → HasNoneBelow old count → HasNoneBelow new count
below_more old new more count e none = λ later.
    subst (λ (v : List ℕ). length v < count → HasNoRequest v) (sym (append_assoc old more later) ∙ ap (λ v. v ++ later) (sym e)) (none (more ++ later))

pub below_put : {X E : Type 0} (old new more : List ℕ) (count : ℕ) (r : Result X E) → OnOk r (new ≡ old ++ more) → OnErr r (new ≡ old)
    → HasNoneBelow old count → HasNoneBelow new count
below_put old new more count (Ok x) put same none = below_more old new more count put none
below_put old new more count (Err e) put same none = subst (λ (v : List ℕ). HasNoneBelow v count) (sym same) none

pub room_put : {X E : Type 0} (old new more : List ℕ) (most : ℕ) (r : Result X E) → OnOk r (new ≡ old ++ more) → OnErr r (new ≡ old)
    → length old ≤ most → length more ≤ most - length old → length new ≤ most
room_put old new more most (Ok x) put same fits room = omega (arith, ap length put, length-append old more, fits, room)
room_put old new more most (Err e) put same fits room = omega (arith, ap length same, fits)

-- No request is complete if there are fewer bytes.
pub none_here : (bytes : List ℕ) (count : ℕ) → HasNoneBelow bytes count → length bytes < count → HasNoRequest bytes
none_here bytes count none fewer =
    subst (λ (v : List ℕ). HasNoRequest v) (append-nil bytes) (none [] (omega (arith, fewer, ap length (append-nil bytes))))

-- ---- with a reader

-- What the buffered bytes give does not depend on what the reader gives next.
pub held_known : (bytes ahead : List ℕ) (fields : List HeaderSpan) (r : BufferState) (n : Next) → r ≡ Gives n → IsHeld bytes false fields r → IsNext ahead bytes fields n
held_known bytes ahead fields r n e h =
    let x : IsHeld bytes false fields (Gives n) = subst (λ (v : BufferState). IsHeld bytes false fields v) e h in
    x ahead (λ over. let no : ⊥ = cc in absurd no)

-- The same holds after the reader has ended.
pub held_ended : (bytes : List ℕ) (remaining : Option (List ℕ)) (fields : List HeaderSpan) (n : Next) → IsAtEnd remaining → IsHeld bytes true fields (Gives n)
    → IsNext (known_bytes remaining) bytes fields n
held_ended bytes remaining fields n over h = h (known_bytes remaining) (λ _. known_end remaining over)
