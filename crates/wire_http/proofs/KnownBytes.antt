-- Lemmas: the known bytes of readers and writers.
use Rattle.std.proofs.Common.{◌≡◌, ℕ, List, [], ◌++◌, refl, sym, ap, ◌∙◌, append_assoc, Option, Some, None, ◌+◌, ◌-◌, length, take, drop, arith}
use Rattle.std.proofs.lemmas.List.{append-nil, take_all, length-drop}
use Rattle.std.proofs.Math.Seq.{take-add}
use Rattle.std.specs.Io.KnownBytes.{Appends, Consumes, IsAtEnd}
use Rattle.wire_http.specs.Input.{IsInput, known_bytes}

pub Appends_more : (a b c : Option (List ℕ)) (x y : List ℕ) → Appends a b x → Appends b c y → Appends a c (x ++ y)
Appends_more None b c x y p q = tt
Appends_more (Some s) None c x y p q = absurd p
Appends_more (Some s) (Some t) None x y p q = absurd q
Appends_more (Some s) (Some t) (Some u) x y p q = q ∙ ap (λ v. v ++ y) p ∙ append_assoc s x y

pub Consumes_more : (a b c : Option (List ℕ)) (x y : List ℕ) → Consumes a b x → Consumes b c y → Consumes a c (x ++ y)
Consumes_more None b c x y p q = tt
Consumes_more (Some s) None c x y p q = absurd p
Consumes_more (Some s) (Some t) None x y p q = absurd q
Consumes_more (Some s) (Some t) (Some u) x y p q = p ∙ ap (λ v. x ++ v) q ∙ sym (append_assoc x y u)

-- The bytes from an index to the end.
pub rest_is : (xs : List ℕ) (at : ℕ) → take (length xs - at) (drop at xs) ≡ drop at xs
rest_is xs at = take_all (length xs - at) (drop at xs) (omega (arith, length-drop at xs))

-- A write at an index takes the next bytes.
pub Appends_at : (a b c : Option (List ℕ)) (xs : List ℕ) (at n : ℕ) → Appends a b (take at xs)
    → Appends b c (take n (take (length xs - at) (drop at xs))) → Appends a c (take (at + n) xs)
Appends_at a b c xs at n p q = rw (take-add at n xs) (Appends_more a b c _ _ p (rw (rest_is xs at) at q))

pub Appends_nil : (a : Option (List ℕ)) → Appends a a []
Appends_nil None = tt
Appends_nil (Some s) = sym (append-nil s)

-- ---- bytes that arrived

pub Consumes_nil : (a : Option (List ℕ)) → Consumes a a []
Consumes_nil None = tt
Consumes_nil (Some s) = refl

pub known_end : (a : Option (List ℕ)) → IsAtEnd a → known_bytes a ≡ []
known_end None e = refl
known_end (Some s) e = e

pub input_known : (a : Option (List ℕ)) → IsInput a (known_bytes a)
input_known None = tt
input_known (Some s) = refl

pub input_more : (a b : Option (List ℕ)) (came ahead : List ℕ) → Consumes a b came → IsInput b ahead → IsInput a (came ++ ahead)
input_more None b came ahead p q = tt
input_more (Some s) None came ahead p q = absurd p
input_more (Some s) (Some t) came ahead p q = ap (λ v. came ++ v) q ∙ sym p

-- The buffer is the old buffer with the bytes that arrived.
pub rest_at : (x y came ahead : List ℕ) → y ≡ x ++ came → y ++ ahead ≡ x ++ (came ++ ahead)
rest_at x y came ahead e = ap (λ v. v ++ ahead) e ∙ append_assoc x came ahead
