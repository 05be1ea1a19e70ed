-- Bits stored under keys of a map.
use Rattle.std.specs.Prelude.{◌≡◌, ℕ, ◌<◌, max, true, false, cond, List, Option, Some, unwrap_or, bit_or, refl}
use Rattle.std.proofs.Common.{arith, sym, ap, ◌∙◌, subst}
use Rattle.std.proofs.lemmas.Nat.Bits.{bit_at_or, bit_at-lt}
use Rattle.std.proofs.lemmas.Map.Lookups.{CmpEqualImpliesEq, exact_unsigned, exact_pairs}
use Rattle.std.specs.Int.{bit_at}
use Rattle.std.specs.Ordering.{is_eq, nat_cmp}
use Rattle.std.specs.BTreeMap.{BTreeMap, get, is_at, IsUnchanged, Updates}
use Rattle.std.specs.Map.{lookup}
use Rattle.space_memory.specs.Near.{Pair, HasBit, HasBits, Widens, pair_cmp}
use Rattle.space_memory.proofs.CellSets.{equal_is}

pub pair_exact : CmpEqualImpliesEq pair_cmp
pair_exact = exact_pairs nat_cmp nat_cmp exact_unsigned exact_unsigned

or_first : (x y b : ℕ) → bit_at x b ≡ 1 → bit_at (bit_or x y) b ≡ 1
or_first x y b h =
    let e : bit_at (bit_or x y) b ≡ max (bit_at x b) (bit_at y b) = bit_at_or x y b in
    let l : bit_at y b < 2 = bit_at-lt y b in
    omega arith

or_second : (x y b : ℕ) → bit_at y b ≡ 1 → bit_at (bit_or x y) b ≡ 1
or_second x y b h =
    let e : bit_at (bit_or x y) b ≡ max (bit_at x b) (bit_at y b) = bit_at_or x y b in
    let l : bit_at x b < 2 = bit_at-lt x b in
    omega arith

bit_in : (o : Option ℕ) (n b : ℕ) → o ≡ Some n → bit_at n b ≡ 1 → bit_at (unwrap_or o 0) b ≡ 1
bit_in o n b e h = subst (λ (p : Option ℕ). bit_at (unwrap_or p 0) b ≡ 1) (sym e) h

module _ (old new : BTreeMap Pair ℕ) (k : Pair) (own bits : ℕ) (is : own ≡ unwrap_or (get pair_cmp old k) 0) (u : Updates pair_cmp old new k (Some (bit_or own bits))) where
  pub added_bits : HasBits new k bits
  added_bits b h = bit_in (get pair_cmp new k) (bit_or own bits) b u.1 (or_second own bits b h)

  pub added_widens : Widens old new
  added_widens q b h = elim (is_eq (pair_cmp k q)) as (λ t. is_eq (pair_cmp k q) ≡ t → HasBit new q b) [
    | true ↦ λ e.
        let same : k ≡ q = pair_exact k q (equal_is (pair_cmp k q) e) in
        let here : bit_at own b ≡ 1 = subst (λ (n : ℕ). bit_at n b ≡ 1) (sym is) (subst (λ (l : Pair). HasBit old l b) (sym same) h) in
        subst (λ (l : Pair). HasBit new l b) same (bit_in (get pair_cmp new k) (bit_or own bits) b u.1 (or_first own bits b here))
    | false ↦ λ e. subst (λ (o : Option ℕ). bit_at (unwrap_or o 0) b ≡ 1) (sym (u.0 q ∙ ap (λ t. cond t (Some (bit_or own bits)) (get pair_cmp old q)) e)) h
  ] refl

-- If adding the bits changes nothing, the map has them already.
pub had_bits : (m : BTreeMap Pair ℕ) (k : Pair) (own bits : ℕ) → own ≡ unwrap_or (get pair_cmp m k) 0 → bit_or own bits ≡ own → HasBits m k bits
had_bits m k own bits is all = λ b h. subst (λ (n : ℕ). bit_at n b ≡ 1) (all ∙ is) (or_second own bits b h)

-- If a bitwise or adds no bits, all bits of the second number are in the first.
pub all_among : (own bits : ℕ) → bit_or own bits ≡ own → (b : ℕ) → bit_at bits b ≡ 1 → bit_at own b ≡ 1
all_among own bits all b h = subst (λ (n : ℕ). bit_at n b ≡ 1) all (or_second own bits b h)

pub unchanged_widens : (old new : BTreeMap Pair ℕ) → IsUnchanged old new → Widens old new
unchanged_widens old new e = λ q b h. subst (λ (es : List (Pair × ℕ)). bit_at (unwrap_or (lookup (is_at (pair_cmp q)) es) 0) b ≡ 1) (sym e) h
