-- Lemmas: a rest is of one kind.
use Rattle.std.proofs.Common.{◌≡◌, ℕ, ◌+◌, ◌≤◌, List, [], ◌∷◌, ◌++◌, length, true, false, refl, sym, ap, ◌∙◌, inl, inr, arith, cond}
use Rattle.std.specs.Prelude.{◌==◌, ◌||◌}
use Rattle.std.specs.List.{flat_map}
use Rattle.std.proofs.lemmas.List.{append-nil}
use Rattle.std.proofs.lemmas.List.Sums.{sum_by-append}
use Rattle.httparse.specs.Grammar.{RequestHead, NeverHasRequest, LineEnd, crlf, lf, print_end, print_blank, print_field, print_section, print_version, Field}
use Rattle.httparse.specs.Spans.{RequestExceeds}
use Rattle.httparse.specs.Pieces.{Stops, is_newline}
use Rattle.httparse.proofs.PieceLemmas.{Stops_token}
use Rattle.httparse.proofs.GrammarLemmas.{request_unique, print_request-append}
use Rattle.wire_head.specs.Rest.{has_line}
use Rattle.wire_head.specs.Rest.{IsWhole, window}
use Rattle.wire_head.specs.Rest.{Kind, nothing, cut, bad, large, whole, IsKind, AreSame, IsOpen, HasManyLines, HasManyFields, feeds, skip_ends}

-- ---- lines

pub feeds-append : (a b : List ℕ) → feeds (a ++ b) ≡ feeds a + feeds b
feeds-append a b = sum_by-append (λ x. cond (x == 10) 1 0) a b

feeds-more : (a b : List ℕ) → feeds a ≤ feeds (a ++ b)
feeds-more a b = omega (arith, feeds-append a b)

feeds-last : (a : List ℕ) → feeds (a ++ 10 ∷ []) ≤ feeds a + 1
feeds-last a = let one : feeds (10 ∷ []) ≡ 1 = refl in omega (arith, feeds-append a (10 ∷ []), one)

skip_blank : (es : List LineEnd) (x : List ℕ) → Stops is_newline x → skip_ends (print_blank es ++ x) ≡ x
skip_blank [] [] s = absurd s
skip_blank [] (b ∷ x) s = rw s refl
skip_blank (crlf ∷ es) x s = skip_blank es x s
skip_blank (lf ∷ es) x s = skip_blank es x s

skip_more : (a b : List ℕ) → feeds (skip_ends a) ≤ feeds (skip_ends (a ++ b))
skip_more [] b = omega arith
skip_more (x ∷ a) b =
    elim (x == 13 || x == 10) as (λ v. feeds (cond v (skip_ends a) (x ∷ a)) ≤ feeds (cond v (skip_ends (a ++ b)) (x ∷ (a ++ b)))) [
      | true ↦ skip_more a b
      | false ↦ feeds-more (x ∷ a) b
    ]

skip_last : (a : List ℕ) → feeds (skip_ends (a ++ 10 ∷ [])) ≤ feeds (skip_ends a) + 1
skip_last [] = omega arith
skip_last (x ∷ a) =
    elim (x == 13 || x == 10) as (λ v. feeds (cond v (skip_ends (a ++ 10 ∷ [])) (x ∷ (a ++ 10 ∷ []))) ≤ feeds (cond v (skip_ends a) (x ∷ a)) + 1) [
      | true ↦ skip_last a
      | false ↦ feeds-last (x ∷ a)
    ]

feeds-end : (e : LineEnd) → feeds (print_end e) ≡ 1
feeds-end crlf = refl
feeds-end lf = refl

feeds-fields : (fs : List Field) → length fs ≤ feeds (flat_map print_field fs)
feeds-fields [] = omega arith
feeds-fields (f ∷ fs) =
    omega (
      arith,
      feeds-append (print_field f) (flat_map print_field fs),
      feeds-fields fs,
      feeds-append (f.name ++ 58 ∷ f.raw) (print_end f.end),
      feeds-end f.end,
    )

feeds-line : (a b c d e : List ℕ) → feeds d + feeds e ≤ feeds (a ++ 32 ∷ (b ++ 32 ∷ (c ++ (d ++ e))))
feeds-line a b c d e =
    omega (arith, feeds-append a (32 ∷ (b ++ 32 ∷ (c ++ (d ++ e)))), feeds-append b (32 ∷ (c ++ (d ++ e))), feeds-append c (d ++ e), feeds-append d e)

pub many_lines : (bytes : List ℕ) → RequestExceeds 64 bytes → HasManyLines bytes
many_lines bytes (front, rest, e, h, reads, over) =
    let line : List ℕ = h.method ++ 32 ∷ (h.target ++ 32 ∷ (print_version h.minor ++ (print_end h.line_end ++ (print_section h.fields h.last ++ [])))) in
    let all : front ++ 10 ∷ [] ≡ print_blank h.blank ++ line = reads.1 ∙ print_request-append h [] in
    let skipped : skip_ends (front ++ 10 ∷ []) ≡ line = ap skip_ends all ∙ skip_blank h.blank line (Stops_token h.method _ reads.0.method.0 reads.0.method.1) in
    let count : feeds (skip_ends (front ++ 10 ∷ [])) ≡ feeds line = ap feeds skipped in
    let lines = feeds-line h.method h.target (print_version h.minor) (print_end h.line_end) (print_section h.fields h.last ++ []) in
    let ends = feeds-append (print_section h.fields h.last) [] in
    let fields = feeds-append (flat_map print_field h.fields) (print_end h.last) in
    rw e (omega (arith, skip_more front rest, skip_last front, count, lines, ends, fields, feeds-fields h.fields, feeds-end h.last, feeds-end h.line_end, over))

-- ---- kinds

never_whole : (rest : List ℕ) (h : RequestHead) → NeverHasRequest (window rest) → IsWhole rest h → ⊥
never_whole rest h never (r, reads, few) = never [] h r (rw (append-nil (window rest)) reads)

open_line : (bytes : List ℕ) → IsOpen bytes → has_line bytes ≡ true → NeverHasRequest bytes → ⊥
open_line bytes (inl e) l n = let z : true ≡ false = sym l ∙ e in cc
open_line bytes (inr (a, b)) l n = a n

open_many : (bytes : List ℕ) → IsOpen bytes → has_line bytes ≡ true → HasManyFields bytes → ⊥
open_many bytes (inl e) l n = let z : true ≡ false = sym l ∙ e in cc
open_many bytes (inr (a, b)) l (inl over) = b (many_lines bytes over)
open_many bytes (inr (a, b)) l (inr (may, many)) = b many

-- If no head can come, too many lines mean too many fields.
many_fields : (bytes : List ℕ) → NeverHasRequest bytes → HasManyFields bytes → RequestExceeds 64 bytes
many_fields bytes never (inl over) = over
many_fields bytes never (inr (may, many)) = absurd (may never)

empty_line : (rest : List ℕ) → rest ≡ [] → has_line (window rest) ≡ true → ⊥
empty_line rest e l = let z : false ≡ true = sym (ap (λ v. has_line (window v)) e) ∙ l in cc

pub one_kind : (rest : List ℕ) (j k : Kind) → IsKind rest j → IsKind rest k → AreSame rest j k
one_kind rest nothing nothing x y = refl
one_kind rest nothing cut x y = absurd (let e = ap length x in omega (arith, y.1, e))
one_kind rest nothing bad x y = absurd (empty_line rest x y.0)
one_kind rest nothing large x (n, inl y) = absurd (let e = ap length x in omega (arith, y.0, e))
one_kind rest nothing large x (n, inr y) = absurd (empty_line rest x y.0)
one_kind rest nothing (whole h) x y = absurd (empty_line rest x y.0)
one_kind rest cut nothing x y = absurd (let e = ap length y in omega (arith, x.1, e))
one_kind rest cut cut x y = refl
one_kind rest cut bad x y = absurd (open_line (window rest) x.3 y.0 y.1)
one_kind rest cut large x (n, inl y) = absurd (omega (arith, x.2, y.0))
one_kind rest cut large x (n, inr y) = absurd (open_many (window rest) x.3 y.0 y.1)
one_kind rest cut (whole h) x y = absurd (x.0 h y.1)
one_kind rest bad nothing x y = absurd (empty_line rest y x.0)
one_kind rest bad cut x y = absurd (open_line (window rest) y.3 x.0 x.1)
one_kind rest bad bad x y = tt
one_kind rest bad large x (n, inl y) = absurd (open_line (window rest) y.1 x.0 x.1)
one_kind rest bad large x (n, inr y) = many_fields (window rest) x.1 y.1
one_kind rest bad (whole h) x y = absurd (never_whole rest h x.1 y.1)
one_kind rest large nothing (n, inl x) y = absurd (let e = ap length y in omega (arith, x.0, e))
one_kind rest large nothing (n, inr x) y = absurd (empty_line rest y x.0)
one_kind rest large cut (n, inl x) y = absurd (omega (arith, y.2, x.0))
one_kind rest large cut (n, inr x) y = absurd (open_many (window rest) y.3 x.0 x.1)
one_kind rest large bad (n, inl x) y = absurd (open_line (window rest) x.1 y.0 y.1)
one_kind rest large bad (n, inr x) y = many_fields (window rest) y.1 x.1
one_kind rest large large x y = tt
one_kind rest large (whole h) x y = absurd (x.0 h y.1)
one_kind rest (whole h) nothing x y = absurd (empty_line rest y x.0)
one_kind rest (whole h) cut x y = absurd (y.0 h x.1)
one_kind rest (whole h) bad x y = absurd (never_whole rest h y.1 x.1)
one_kind rest (whole h) large x y = absurd (y.0 h x.1)
one_kind rest (whole h) (whole k) (l, (a, b, few)) (m, (c, d, some)) =
    ap whole (sym (request_unique (window rest) h k a c b d).0)
