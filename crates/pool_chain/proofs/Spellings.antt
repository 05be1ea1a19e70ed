-- Lemmas: the text of an item has one reading.
use Rattle.std.proofs.Common.{◌≡◌, ℕ, ◌<◌, ◌^◌, List, [], ◌∷◌, ◌++◌, length, Option, Some, None, refl, sym, ◌∙◌, ap, subst, arith, append_assoc}
use Rattle.std.specs.Fmt.{decimal}
use Rattle.std.specs.Char.{digit_value}
use Rattle.std.specs.Str.Parse.{AllDigits}
use Rattle.std.proofs.lemmas.Fmt.{decimal_injective, decimal_is_IsNumeral}
use Rattle.pool_chain.specs.Item.{FitsValue, SpellingIsUnique, sized, value_text}

-- Two lists with fronts of one length.
pub same_fronts : {X : Type 0} (p a q b : List X) → length p ≡ length q → p ++ a ≡ q ++ b → (p ≡ q) × (a ≡ b)
same_fronts [] a [] b long e = (refl, e)
same_fronts [] a (y ∷ q) b long e = absurd (omega (arith, long))
same_fronts (x ∷ p) a [] b long e = absurd (omega (arith, long))
same_fronts (x ∷ p) a (y ∷ q) b long e =
    let head : x ≡ y = cc in
    let tail : p ++ a ≡ q ++ b = cc in
    let rest = same_fronts p a q b (omega (arith, long)) tail in
    let front : x ∷ p ≡ y ∷ q = let same : p ≡ q = rest.0 in cc in
    (front, rest.1)

-- Digits before a byte that is no digit.
same_digits : (byte : ℕ) (ds a es b : List ℕ) → (digit_value byte < 10 → ⊥) → AllDigits 10 ds → AllDigits 10 es → ds ++ byte ∷ a ≡ es ++ byte ∷ b → (ds ≡ es) × (a ≡ b)
same_digits byte [] a [] b other p q e = (refl, cc)
same_digits byte [] a (y ∷ es) b other p q e =
    let is : y ≡ byte = cc in absurd (other (subst (λ (x : ℕ). digit_value x < 10) is q.0))
same_digits byte (x ∷ ds) a [] b other p q e =
    let is : x ≡ byte = cc in absurd (other (subst (λ (y : ℕ). digit_value y < 10) is p.0))
same_digits byte (x ∷ ds) a (y ∷ es) b other p q e =
    let head : x ≡ y = cc in
    let tail : ds ++ byte ∷ a ≡ es ++ byte ∷ b = cc in
    let rest = same_digits byte ds a es b other p.1 q.1 tail in
    let front : x ∷ ds ≡ y ∷ es = let same : ds ≡ es = rest.0 in cc in
    (front, rest.1)

no_digit_58 : digit_value 58 < 10 → ⊥
no_digit_58 small = absurd (omega arith)

no_digit_45 : digit_value 45 < 10 → ⊥
no_digit_45 small = absurd (omega arith)

-- Bytes behind their length have one reading.
sized_unique : (x y a b : List ℕ) → length x < 2 ^ 64 → length y < 2 ^ 64 → sized x ++ a ≡ sized y ++ b → (x ≡ y) × (a ≡ b)
sized_unique x y a b low less e =
    let left : (decimal (length x) ++ 58 ∷ x) ++ a ≡ decimal (length x) ++ 58 ∷ (x ++ a) = append_assoc (decimal (length x)) (58 ∷ x) a in
    let right : (decimal (length y) ++ 58 ∷ y) ++ b ≡ decimal (length y) ++ 58 ∷ (y ++ b) = append_assoc (decimal (length y)) (58 ∷ y) b in
    let both = same_digits 58 (decimal (length x)) (x ++ a) (decimal (length y)) (y ++ b) no_digit_58 (decimal_is_IsNumeral (length x) low).0.1 (decimal_is_IsNumeral (length y) less).0.1 (sym left ∙ e ∙ right) in
    same_fronts x a y b (decimal_injective (length x) (length y) low less both.0) both.1

-- Digits do not begin with a hyphen.
no_hyphen : (ds a b : List ℕ) → 0 < length ds → AllDigits 10 ds → 45 ∷ a ≡ ds ++ b → ⊥
no_hyphen [] a b some all e = absurd (omega (arith, some))
no_hyphen (d ∷ ds) a b some all e =
    let is : d ≡ 45 = cc in no_digit_45 (subst (λ (x : ℕ). digit_value x < 10) is all.0)

not_none : (v a b : List ℕ) → length v < 2 ^ 64 → 45 ∷ a ≡ sized v ++ b → ⊥
not_none v a b low e =
    let digits = (decimal_is_IsNumeral (length v) low).0 in
    no_hyphen (decimal (length v)) a (58 ∷ v ++ b) digits.0 digits.1 (e ∙ append_assoc (decimal (length v)) (58 ∷ v) b)

value_unique : (x y : Option (List ℕ)) (a b : List ℕ) → FitsValue x → FitsValue y → value_text x ++ a ≡ value_text y ++ b → (x ≡ y) × (a ≡ b)
value_unique None None a b p q e = (refl, cc)
value_unique None (Some w) a b p q e = absurd (not_none w a b q e)
value_unique (Some v) None a b p q e = absurd (not_none v b a p (sym e))
value_unique (Some v) (Some w) a b p q e =
    let both = sized_unique v w a b p q e in
    (ap (λ (u : List ℕ). Some u) both.0, both.1)

pub spelling_is_unique : SpellingIsUnique
spelling_is_unique x y a b p q e =
    let left : (sized x.key ++ value_text x.value) ++ a ≡ sized x.key ++ (value_text x.value ++ a) = append_assoc (sized x.key) (value_text x.value) a in
    let right : (sized y.key ++ value_text y.value) ++ b ≡ sized y.key ++ (value_text y.value ++ b) = append_assoc (sized y.key) (value_text y.value) b in
    let keys = sized_unique x.key y.key (value_text x.value ++ a) (value_text y.value ++ b) p.0 q.0 (sym left ∙ e ∙ right) in
    let values = value_unique x.value y.value a b p.1 q.1 keys.1 in
    let same : x ≡ y =
    ap (λ (k : List ℕ). record x { key = k }) keys.0 ∙ ap (λ (v : Option (List ℕ)). record y { value = v }) values.0 in
    (same, values.1)
