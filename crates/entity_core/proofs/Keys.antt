-- The order of kinds and ids.
use Rattle.std.specs.Prelude.{◌≡◌, true, refl}
use Rattle.std.specs.Ordering.{eq_by_cmp, nat_cmp, ordering_then}
use Rattle.std.specs.declared.cmp.Ordering.{Ordering}
use Rattle.std.specs.declared.cmp.Ordering.TheVariants.{Less, Equal, Greater}
use Rattle.std.specs.Cmp.{Equal-is, IsTotalOrder}
use Rattle.std.specs.FinMap.{IsAntisymmetric, nat_cmp-IsAntisymmetric}
use Rattle.std.proofs.lemmas.Cmp.{nat_cmp_total, on_total, then_total}
use Rattle.entity_core.specs.declared.nature.Kind.{Kind}
use Rattle.entity_core.specs.declared.nature.Kind.TheVariants.{Intent, Constraint}
use Rattle.entity_core.specs.Airspace.{EntityKey, key_cmp}
use Rattle.entity_core.specs.Entity.{kind_index}

pub key_total : IsTotalOrder key_cmp
key_total = then_total (on_total (λ (k : EntityKey). kind_index k.0) nat_cmp_total) (on_total (λ (k : EntityKey). k.1) nat_cmp_total)

one_kind : (a b : Kind) → nat_cmp (kind_index a) (kind_index b) ≡ Equal → a ≡ b
one_kind Intent Intent e = refl
one_kind Intent Constraint e = cc
one_kind Constraint Intent e = cc
one_kind Constraint Constraint e = refl

both_equal : (r s : Ordering) → ordering_then r s ≡ Equal → (r ≡ Equal) × (s ≡ Equal)
both_equal Less s e = cc
both_equal Equal s e = (refl, e)
both_equal Greater s e = cc

pub key_exact : IsAntisymmetric key_cmp
key_exact a b e =
    let h = both_equal (nat_cmp (kind_index a.0) (kind_index b.0)) (nat_cmp a.1 b.1) e in
    λ i. (one_kind a.0 b.0 h.0 i, nat_cmp-IsAntisymmetric a.1 b.1 h.1 i)

-- Keys that compare as equal are equal.
pub one_key : (k l : EntityKey) → eq_by_cmp key_cmp k l ≡ true → k ≡ l
one_key k l h = key_exact k l ((Equal-is (key_cmp k l)).0 h)
