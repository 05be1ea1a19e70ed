-- Lemmas: bytes that end inside a request target have no complete line.
use Rattle.std.proofs.Common.{◌≡◌, ℕ, ◌<◌, List, [], ◌∷◌, ◌++◌, length, Bool, true, false, refl, sym, subst, ◌∙◌, append_assoc, inl, inr, arith}
use Rattle.std.specs.Prelude.{◌==◌, ◌||◌}
use Rattle.std.proofs.lemmas.Bool.{eqb-true}
use Rattle.std.proofs.lemmas.List.Folds.{list_any-append}
use Rattle.std.proofs.lemmas.List.Elements.{All-head, All-tail}
use Rattle.httparse.specs.Grammar.{LineEnd, crlf, lf, print_end, print_version, print_section, RequestHead, ReadsRequest, print_blank, AllPass, is_token_byte, is_uri_byte, EndsInTarget, MayBecomeRequest, NeverHasRequest}
use Rattle.httparse.proofs.GrammarLemmas.{print_request-append}
use Rattle.httparse.proofs.PieceLemmas.{token_is_no_newline}
use Rattle.wire_head.specs.Rest.{has_line, has_feed}

no_feed : (test : ℕ → Bool) → test 10 ≡ false → (xs : List ℕ) → AllPass test xs → has_feed xs ≡ false
no_feed test fails [] all = refl
no_feed test fails (x ∷ xs) all =
    let rest = no_feed test fails xs (All-tail (λ v. test v ≡ true) x xs all) in
    let here : test x ≡ true = All-head (λ v. test v ≡ true) x xs all in
    elim (x == 10) as (λ v. (x == 10) ≡ v → (v || has_feed xs) ≡ false) [
      | true ↦ λ e. let ten : test 10 ≡ true = subst (λ (v : ℕ). test v ≡ true) (eqb-true x 10 e) here in cc
      | false ↦ λ e. rest
    ] refl

feed_parts : (a b : List ℕ) → has_feed a ≡ false → has_feed b ≡ false → has_feed (a ++ b) ≡ false
feed_parts a b p q = rw (list_any-append (λ v. v == 10) a b, p) q

token_feed : is_token_byte 10 ≡ false
unfolding is_token_byte
token_feed = refl

blank_line : (es : List LineEnd) (x : List ℕ) → has_line x ≡ false → has_line (print_blank es ++ x) ≡ false
blank_line [] x e = e
blank_line (crlf ∷ es) x e = blank_line es x e
blank_line (lf ∷ es) x e = blank_line es x e

word_line : (m : List ℕ) (t : List ℕ) → 0 < length m → AllPass is_token_byte m → AllPass is_uri_byte t → has_line (m ++ 32 ∷ t) ≡ false
word_line [] t some all uri = absurd (omega arith)
word_line (b ∷ m) t some all uri =
    rw (token_is_no_newline b (All-head (λ v. is_token_byte v ≡ true) b m all))
    (feed_parts m (32 ∷ t) (no_feed is_token_byte token_feed m (All-tail (λ v. is_token_byte v ≡ true) b m all)) (no_feed is_uri_byte refl t uri))

pub target_line : (bytes : List ℕ) → EndsInTarget bytes → has_line bytes ≡ false
target_line bytes (blank, method, target, token, uri, e) =
    rw (e, append_assoc) (blank_line blank (method ++ 32 ∷ target) (word_line method target token.0 token.1 uri))

-- If a line has ended and a head may come, the grammar is not broken yet.
pub not_never : (bytes : List ℕ) → has_line bytes ≡ true → MayBecomeRequest bytes → NeverHasRequest bytes → ⊥
not_never bytes line (inl (more, h, reads)) never = never more h [] reads
not_never bytes line (inr ends) never = let no_line : has_line bytes ≡ false = target_line bytes ends in let bad : true ≡ false = sym line ∙ no_line in cc

-- ---- a complete head has a line

feed_right : (a b : List ℕ) → has_feed b ≡ true → has_feed (a ++ b) ≡ true
feed_right [] b e = e
feed_right (x ∷ a) b e =
    elim (x == 10) as (λ v. (v || has_feed (a ++ b)) ≡ true) [ true ↦ refl | false ↦ feed_right a b e ]

feed_left : (a b : List ℕ) → has_feed a ≡ true → has_feed (a ++ b) ≡ true
feed_left [] b e = cc
feed_left (x ∷ a) b e =
    elim (x == 10) as (λ v. (v || has_feed a) ≡ true → (v || has_feed (a ++ b)) ≡ true) [ true ↦ λ _. refl | false ↦ λ h. feed_left a b h ] e

end_feed : (e : LineEnd) → has_feed (print_end e) ≡ true
end_feed crlf = refl
end_feed lf = refl

line_blank : (es : List LineEnd) (x : List ℕ) → has_line x ≡ true → has_line (print_blank es ++ x) ≡ true
line_blank [] x e = e
line_blank (crlf ∷ es) x e = line_blank es x e
line_blank (lf ∷ es) x e = line_blank es x e

line_word : (m x : List ℕ) → 0 < length m → AllPass is_token_byte m → has_feed x ≡ true → has_line (m ++ x) ≡ true
line_word [] x some all e = absurd (omega arith)
line_word (b ∷ m) x some all e = rw (token_is_no_newline b (All-head (λ v. is_token_byte v ≡ true) b m all)) (feed_right m x e)

pub whole_line : (bytes : List ℕ) (h : RequestHead) (rest : List ℕ) → ReadsRequest bytes h rest → has_line bytes ≡ true
whole_line bytes h rest reads =
    let z : List ℕ = print_section h.fields h.last ++ rest in
    let y : List ℕ = print_end h.line_end ++ z in
    rw (reads.1, print_request-append h rest) (line_blank h.blank _ (line_word h.method (32 ∷ (h.target ++ 32 ∷ (print_version h.minor ++ y))) reads.0.method.0 reads.0.method.1
    (feed_right (32 ∷ h.target) (32 ∷ (print_version h.minor ++ y)) (feed_right (32 ∷ print_version h.minor) y (feed_left (print_end h.line_end) z (end_feed h.line_end))))))
