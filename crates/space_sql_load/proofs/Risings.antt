-- A proof that numbers are ascending if each is less than the next one.
use Rattle.std.specs.Prelude.{◌≡◌, ℤ, ◌↔◌, List, [], ◌∷◌}
use Rattle.std.specs.Ordering.{int_cmp}
use Rattle.std.specs.Cmp.{int_cmp_is}
use Rattle.std.specs.declared.cmp.Ordering.TheVariants.{Less}
use Rattle.std.proofs.Common.{sym, subst}
use Rattle.space_rows.proofs.Chunks.{all_turned}
use Rattle.sqlite_trees.specs.Tree.{IsAscending}
use Rattle.space_sql_load.proofs.Fronts.{less, trans}

abbrev IsRising : List ℤ → Type 0
IsRising ids = IsAscending (λ m n. int_cmp m n ≡ Less) ids

up : (x y z : ℤ) → int_cmp x y ≡ Less → int_cmp y z ≡ Less → int_cmp x z ≡ Less
up x y z p q = sym (int_cmp_is x z Less (trans x y z (less x y p) (less y z q)))

pub rising_on : (last x : ℤ) (xs : List ℤ) → int_cmp last x ≡ Less → IsRising (last ∷ x ∷ xs) ↔ IsRising (x ∷ xs)
rising_on last x xs h = (
  (λ p. p.1),
  (λ p. ((h, all_turned (λ y. int_cmp x y ≡ Less) (λ y. int_cmp last y ≡ Less) (λ y q. up last x y h q) xs p.0), p)),
)

abbrev pub RisesOn : ℤ → List ℤ → ℤ → List ℤ → Type 0
RisesOn first ids last rest = IsRising (first ∷ ids) ↔ IsRising (last ∷ rest)

pub rises_more : (first : ℤ) (ids : List ℤ) (last x : ℤ) (rest more : List ℤ) → rest ≡ x ∷ more → int_cmp last x ≡ Less → RisesOn first ids last rest → RisesOn first ids x more
rises_more first ids last x rest more is h g =
    let o = rising_on last x more h in
    ((λ p. o.0 (subst (λ (l : List ℤ). IsRising (last ∷ l)) is (g.0 p))), (λ p. g.1 (subst (λ (l : List ℤ). IsRising (last ∷ l)) (sym is) (o.1 p))))

pub rises_none : (first : ℤ) (ids : List ℤ) (last x : ℤ) (rest more : List ℤ) → rest ≡ x ∷ more → ¬ (int_cmp last x ≡ Less) → RisesOn first ids last rest → ¬ IsRising (first ∷ ids)
rises_none first ids last x rest more is h g p = let q = subst (λ (l : List ℤ). IsRising (last ∷ l)) is (g.0 p) in h q.0.0

pub rises_all : (first : ℤ) (ids : List ℤ) (last : ℤ) (rest : List ℤ) → rest ≡ [] → RisesOn first ids last rest → IsRising (first ∷ ids)
rises_all first ids last rest is g = g.1 (subst (λ (l : List ℤ). IsRising (last ∷ l)) (sym is) (tt, tt))
