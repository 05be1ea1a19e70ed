-- Lemmas: from what the bytes so far say to the kind of the rest.
use Rattle.std.proofs.Common.{◌≡◌, ℕ, ◌+◌, ◌-◌, ◌<◌, ◌≤◌, List, [], ◌++◌, length, take, drop, true, false, refl, sym, ap, subst, ◌∙◌, inl, inr, arith, cond, ◌∷◌}
use Rattle.std.specs.Prelude.{◌==◌, ◌||◌}
use Rattle.std.proofs.lemmas.List.{append-nil, length-append, take_all}
use Rattle.httparse.specs.declared.spans.HeaderSpan.{HeaderSpan}
use Rattle.httparse.specs.declared.spans.RequestSpans.{RequestSpans}
use Rattle.httparse.specs.Grammar.{ReadsRequest}
use Rattle.httparse.proofs.GrammarLemmas.{ReadsRequest-append}
use Rattle.wire_head.specs.FinalHead.{Finds}
use Rattle.wire_head.specs.declared.rest.PartialHead.TheVariants.{More, Head, Bad, Large}
use Rattle.wire_head.specs.declared.rest.FinalHead.{FinalHead}
use Rattle.wire_head.specs.declared.rest.FinalHead.TheVariants as found
use Rattle.wire_head.proofs.WindowLaws.{window_of, has_line-append, Never-append, Exceeds-append}
use Rattle.std.proofs.lemmas.Bool.{cases_lt}
use Rattle.wire_head.specs.Rest.{has_line, has_feed, window, feeds, skip_ends, IsSoFar, EndsAs, IsKind, IsOpen, HasNoWhole, HasManyLines, cut, large}
use Rattle.wire_head.proofs.KindLaws.{feeds-append}
use Rattle.wire_head.proofs.TargetLaws.{whole_line, not_never}

-- No head is complete, and one may still come.
no_whole : (x : List ℕ) (fields : List HeaderSpan) (rest : List ℕ) → window rest ≡ x → IsSoFar x fields More → HasNoWhole rest
no_whole x fields rest e (inl line) h (r, reads, few) =
    let yes : has_line x ≡ true = whole_line x h r (rw e at reads) in let bad : true ≡ false = sym yes ∙ line in cc
no_whole x fields rest e (inr (line, none, may)) h (r, reads, few) = none h r (rw e at reads)

still_open : (x : List ℕ) (fields : List HeaderSpan) → (HasManyLines x → ⊥) → IsSoFar x fields More → IsOpen x
still_open x fields few (inl line) = inl line
still_open x fields few (inr (line, none, may)) = inr (not_never x line may, few)

full_large : (x : List ℕ) (fields : List HeaderSpan) (rest : List ℕ) → window rest ≡ x → 8192 ≤ length rest → IsSoFar x fields More
    → IsKind rest large
full_large x fields rest e le (inl line) = (no_whole x fields rest e (inl line), inl (le, inl (rw e line)))
full_large x fields rest e le (inr (line, none, may)) =
    elim (cases_lt (feeds (skip_ends x)) 66) [
      | inl lt ↦ (no_whole x fields rest e (inr (line, none, may)), inl (le, rw e (inr (not_never x line may, λ many. omega (arith, many, lt)))))
      | inr ge ↦ (no_whole x fields rest e (inr (line, none, may)), inr (rw e (line, inr (not_never x line may, ge))))
    ]

pub kind_head : (x : List ℕ) (fields : List HeaderSpan) (spans : RequestSpans) (ahead : List ℕ)
    → length x ≤ 8192 → IsSoFar x fields (Head spans) → Finds ahead x fields (found.Head spans)
kind_head x fields spans ahead le ((h, at, few), within) = (
  h,
  λ later.
      let more : List ℕ = take (8192 - length x) later in
      let reads : ReadsRequest (window (x ++ later)) h (drop spans.len x ++ more) = rw (window_of x later le) (ReadsRequest-append x h (drop spans.len x) more at.reads) in
      (whole_line _ h _ reads, (drop spans.len x ++ more, reads, few)),
  record {
    len = at.len;
    method = at.method;
    path = at.path;
    version = at.version;
    fields = at.fields;
  },
)

pub kind_bad : (x : List ℕ) (fields : List HeaderSpan) (ahead : List ℕ) → length x ≤ 8192 → IsSoFar x fields Bad → Finds ahead x fields found.Bad
kind_bad x fields ahead le (line, never) = rw (window_of x ahead le) (has_line-append x _ line, Never-append x _ never)

pub kind_large : (x : List ℕ) (fields : List HeaderSpan) (ahead : List ℕ) → length x ≤ 8192 → IsSoFar x fields Large → Finds ahead x fields found.Large
kind_large x fields ahead le (line, over, none) = (
  λ h w. let many : 64 < length h.fields = none (take (8192 - length x) ahead) h w.0 (rw (window_of x ahead le) at w.1) in omega (arith, many, w.2),
  inr (rw (window_of x ahead le) (has_line-append x _ line, inl (Exceeds-append x _ over))),
)

pub kind_full : (x : List ℕ) (fields : List HeaderSpan) (ahead : List ℕ) → length x ≤ 8192 → 8192 ≤ length x → IsSoFar x fields More → Finds ahead x fields found.Large
kind_full x fields ahead le ge part = full_large x fields (x ++ ahead) window_full (omega (arith, length-append x ahead)) part
  where
    window_full : window (x ++ ahead) ≡ x
    window_full = let z : 8192 - length x ≡ 0 = omega arith in window_of x ahead le ∙ ap (λ n. x ++ take n ahead) z ∙ append-nil x

feeds-none : (x : ℕ) (xs : List ℕ) → (x == 10) ≡ false → feeds xs ≡ 0 → feeds (x ∷ xs) ≡ 0
feeds-none x xs e f =
    let step : feeds (x ∷ xs) ≡ (0 + cond (x == 10) 1 0) + feeds xs = feeds-append (x ∷ []) xs in
    let none : 0 + cond (x == 10) 1 0 ≡ 0 = ap (λ v. 0 + cond v 1 0) e in
    omega (arith, step, none, f)

no_count : (xs : List ℕ) → has_feed xs ≡ false → feeds xs ≡ 0
no_count [] e = refl
no_count (x ∷ xs) e =
    elim (x == 10) as (λ v. (x == 10) ≡ v → (v || has_feed xs) ≡ false → feeds (x ∷ xs) ≡ 0) [
      | true ↦ λ f h. cc
      | false ↦ λ f h. feeds-none x xs f (no_count xs h)
    ] refl e

line_feeds : (x : List ℕ) → has_line x ≡ false → feeds (skip_ends x) ≡ 0
line_feeds [] e = refl
line_feeds (b ∷ x) e =
    elim (b == 13) as (λ u. cond (u || b == 10) (has_line x) (has_feed x) ≡ false → feeds (cond (u || b == 10) (skip_ends x) (b ∷ x)) ≡ 0) [
      | true ↦ λ h. line_feeds x h
      | false ↦ λ h. elim (b == 10) as (λ v. (b == 10) ≡ v → cond v (has_line x) (has_feed x) ≡ false → feeds (cond v (skip_ends x) (b ∷ x)) ≡ 0) [
        | true ↦ λ f k. line_feeds x k
        | false ↦ λ f k. feeds-none b x f (no_count x k)
      ] refl h
    ] e

ended : (x : List ℕ) (fields : List HeaderSpan) (f : FinalHead) (ahead : List ℕ) → x ++ ahead ≡ x → length x < 8192 → IsSoFar x fields More → EndsAs x f → Finds ahead x fields f
ended x fields found.Nothing ahead same lt part e = same ∙ e
ended x fields found.Part ahead same lt part (some, few) =
    let w : window x ≡ x = take_all 8192 x (omega arith) in
    subst (λ (v : List ℕ). IsKind v cut) (sym same) (no_whole x fields x w part, some, lt, rw w (still_open x fields few part))
ended x fields found.Large ahead same lt (inl line) (some, many) = absurd (omega (arith, many, line_feeds x line))
ended x fields found.Large ahead same lt (inr (line, none, may)) (some, many) =
    let w : window x ≡ x = take_all 8192 x (omega arith) in
    subst (λ (v : List ℕ). IsKind v large) (sym same) (no_whole x fields x w (inr (line, none, may)), inr (rw w (line, inr (not_never x line may, many))))
ended x fields found.Bad ahead same lt part e = absurd e
ended x fields (found.Head spans) ahead same lt part e = absurd e

pub kind_end : (x y : List ℕ) (fields : List HeaderSpan) (f : FinalHead) (ahead : List ℕ)
    → y ≡ x → ahead ≡ [] → length x < 8192 → IsSoFar x fields More → EndsAs y f → Finds ahead y fields f
kind_end x y fields f ahead same none short part e =
    ended y fields f ahead (ap (λ v. y ++ v) none ∙ append-nil y) (rw same short) (rw same part) e
