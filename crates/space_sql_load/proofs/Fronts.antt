-- Lemmas about the rows at the front that have the same number.
use Rattle.std.specs.Prelude.{◌≡◌, ℕ, ℤ, ◌<ℤ◌, List, [], ◌∷◌, ◌++◌, take, drop, refl}
use Rattle.std.specs.List.{AllByRecursion}
use Rattle.std.specs.Ordering.{int_cmp, MatchOrdering}
use Rattle.std.specs.Cmp.{int_ranks}
use Rattle.std.specs.declared.cmp.Ordering.{Ordering}
use Rattle.std.specs.declared.cmp.Ordering.TheVariants.{Less, Equal}
use Rattle.std.proofs.Common.{sym, ap₂, ◌∙◌, subst, arith, take-append-drop}
use Rattle.std.proofs.lemmas.Int.{ints}
use Rattle.space_rows.proofs.Chunks.{all_joined, all_turned}
use Rattle.space_sql_load.specs.Gathering.{StartsElse}

-- ---- numbers

pub less : (x y : ℤ) → int_cmp x y ≡ Less → x <ℤ y
less x y e = subst (λ (r : Ordering). MatchOrdering r (x <ℤ y) (x ≡ y) (y <ℤ x)) e (int_ranks x y)

pub equal : (x y : ℤ) → int_cmp x y ≡ Equal → x ≡ y
equal x y e = subst (λ (r : Ordering). MatchOrdering r (x <ℤ y) (x ≡ y) (y <ℤ x)) e (int_ranks x y)

after : (x y z : ℤ) → x <ℤ y → z ≡ y → x <ℤ z
after x y z p e = subst (λ (w : ℤ). x <ℤ w) (sym e) p

pub trans : (x y z : ℤ) → x <ℤ y → y <ℤ z → x <ℤ z
trans x y z p q = omega (arith, ints)

not_self : (x y : ℤ) → x <ℤ y → ¬ (y ≡ x)
not_self x y p e = omega (arith, ints)

-- ---- fronts

-- The split into the rows with the next number and the others.
pub record Front {X : Type 0} (P : X → Type 0) (rest own more : List X) : Type 0 where
  pub whole : rest ≡ own ++ more
  pub these : AllByRecursion P own
  pub others : StartsElse P more

pub front_of : {X : Type 0} (P : X → Type 0) (n : ℕ) (rest own more : List X) → own ≡ take n rest → more ≡ drop n rest → AllByRecursion P (take n rest) → StartsElse P (drop n rest) → Front P rest own more
front_of P n rest own more e f these other = record {
  whole = sym (take-append-drop n rest) ∙ (λ i. sym e i ++ sym f i);
  these = subst (AllByRecursion P) (sym e) these;
  others = subst (StartsElse P) (sym f) other;
}

one_split : {X : Type 0} (P : X → Type 0) (xs ys rs ss : List X) → AllByRecursion P xs → AllByRecursion P ys → StartsElse P rs → StartsElse P ss → xs ++ rs ≡ ys ++ ss → (xs ≡ ys) × (rs ≡ ss)
one_split P [] [] rs ss p q r s e = (refl, e)
one_split P [] (y ∷ ys) [] ss p q r s e = absurd cc
one_split P [] (y ∷ ys) (z ∷ rs) ss p q r s e = let same : z ≡ y = cc in absurd (r (subst P (sym same) q.0))
one_split P (x ∷ xs) [] rs [] p q r s e = absurd cc
one_split P (x ∷ xs) [] rs (z ∷ ss) p q r s e = let same : x ≡ z = cc in absurd (s (subst P same p.0))
one_split P (x ∷ xs) (y ∷ ys) rs ss p q r s e =
    let head : x ≡ y = cc in
    let rest : xs ++ rs ≡ ys ++ ss = cc in
    let more = one_split P xs ys rs ss p.1 q.1 r s rest in
    (ap₂ ◌∷◌ head more.0, more.1)

module _ {X : Type 0} (of : X → ℤ) where
  none_of : (num : ℤ) (xs : List X) → AllByRecursion (λ x. num <ℤ of x) xs → StartsElse (λ x. of x ≡ num) xs
  none_of num [] p = tt
  none_of num (x ∷ xs) p = not_self num (of x) p.0

  -- All rows have later numbers.
  pub later : (last num : ℤ) (rest own more : List X) → last <ℤ num → AllByRecursion (λ x. of x ≡ num) own → AllByRecursion (λ x. num <ℤ of x) more → rest ≡ own ++ more → AllByRecursion (λ x. last <ℤ of x) rest
  later last num rest own more up p q e =
      let first = all_turned (λ x. of x ≡ num) (λ x. last <ℤ of x) (λ x h. after last num (of x) up h) own p in
      let others = all_turned (λ x. num <ℤ of x) (λ x. last <ℤ of x) (λ x h. trans last num (of x) up h) more q in
      subst (AllByRecursion (λ x. last <ℤ of x)) (sym e) (all_joined (λ x. last <ℤ of x) own more first others)

  -- The front of a number is unique.
  pub one_front : (num : ℤ) (rest own more mine others : List X) → AllByRecursion (λ x. of x ≡ num) own → AllByRecursion (λ x. num <ℤ of x) more → rest ≡ own ++ more → Front (λ x. of x ≡ num) rest mine others → (own ≡ mine) × (more ≡ others)
  one_front num rest own more mine others p q e f = one_split (λ x. of x ≡ num) own mine more others p f.these (none_of num more q) f.others (sym e ∙ f.whole)
