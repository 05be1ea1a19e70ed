-- Lemmas: what is known of the bytes so far holds for the window of the whole input.
use Rattle.std.proofs.Common.{◌≡◌, ℕ, ◌+◌, ◌-◌, ◌≤◌, true, false, List, [], ◌∷◌, ◌++◌, length, take, refl, ap, ◌∙◌, append_assoc, arith, cond}
use Rattle.std.specs.Prelude.{◌||◌, ◌==◌}
use Rattle.std.proofs.Math.Seq.{take-append-add}
use Rattle.httparse.specs.Grammar.{NeverHasRequest}
use Rattle.httparse.specs.Spans.{RequestExceeds}
use Rattle.wire_head.specs.Rest.{has_line, has_feed, window}

pub has_feed-append : (a b : List ℕ) → has_feed a ≡ true → has_feed (a ++ b) ≡ true
has_feed-append [] b e = cc
has_feed-append (x ∷ a) b e =
    elim (x == 10) as (λ v. (v || has_feed a) ≡ true → (v || has_feed (a ++ b)) ≡ true) [
      | true ↦ λ _. refl
      | false ↦ λ h. has_feed-append a b h
    ] e

pub has_line-append : (a b : List ℕ) → has_line a ≡ true → has_line (a ++ b) ≡ true
has_line-append [] b e = cc
has_line-append (x ∷ a) b e =
    elim (x == 13 || x == 10) as (λ v. cond v (has_line a) (has_feed a) ≡ true → cond v (has_line (a ++ b)) (has_feed (a ++ b)) ≡ true) [
      | true ↦ λ h. has_line-append a b h
      | false ↦ λ h. has_feed-append a b h
    ] e

pub Never-append : (a b : List ℕ) → NeverHasRequest a → NeverHasRequest (a ++ b)
Never-append a b n more = rw append_assoc (n (b ++ more))

pub Exceeds-append : (a b : List ℕ) → RequestExceeds 64 a → RequestExceeds 64 (a ++ b)
Exceeds-append a b (front, rest, e, h, reads, over) =
    (front, rest ++ b, ap (λ v. v ++ b) e ∙ append_assoc front rest b, h, reads, over)

pub window_of : (a b : List ℕ) → length a ≤ 8192 → window (a ++ b) ≡ a ++ take (8192 - length a) b
window_of a b le =
    let full : 8192 ≡ length a + (8192 - length a) = omega arith in
    ap (λ n. take n (a ++ b)) full ∙ take-append-add a b (8192 - length a)
