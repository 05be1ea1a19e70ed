-- Subscriptions of a tree are notified by id, one id after another.
use Rattle.std.specs.Prelude.{◌≡◌, ℕ, ◌+◌, ◌<◌, ◌||◌, ◌↔◌, nat_eq, Bool, true, false, cond, IsTrue, IfSome, List, [], ◌∷◌, ◌++◌, length, take, Option, Some, None, refl}
use Rattle.std.proofs.Common.{arith, get_or, sym, ap, ◌∙◌, subst, true≢false, ltb, length-take}
use Rattle.std.proofs.lemmas.Bool.{ltb-true}
use Rattle.std.specs.BTreeMap as tree
use Rattle.std.specs.BTreeMap.{BTreeMap, is_at}
use Rattle.std.specs.List.{IsAllAdjacentAnswer, list_any}
use Rattle.std.specs.List.Sorted.{IsStrictlyIncreasing}
use Rattle.std.specs.Option.{option_map}
use Rattle.std.specs.Ordering.{eq_by_cmp, nat_cmp}
use Rattle.std.proofs.Math.Bool.{or-false}
use Rattle.std.proofs.lemmas.Bool.Decides.{nat_tests}
use Rattle.std.proofs.lemmas.List.{get_or_default, get_or-take, take_more}
use Rattle.std.proofs.lemmas.List.Folds.{list_any-append, list_any_none}
use Rattle.std.proofs.lemmas.List.Kept.{AllPairs-from_increasing}
use Rattle.entity_core.specs.Airspace.{notified_again}
use Rattle.entity_core.specs.declared.subscription.Sub.{Sub}
use Rattle.entity_core.specs.Serial.{max_serial}
use Rattle.entity_core.proofs.Changes.{one_id}
use Rattle.entity_maps.specs.Subscriptions.{Notifies, TreeCanNotify, notified_at}

-- True if an id is in the list.
abbrev pub has : List ℕ → ℕ → Bool
has ids id = list_any (λ j. nat_eq j id) ids

same : (k l : ℕ) → eq_by_cmp nat_cmp k l ≡ true → nat_eq k l ≡ true
same k l e = grind (arith, nat_tests, e)

differs : (k l : ℕ) → eq_by_cmp nat_cmp k l ≡ false → nat_eq k l ≡ false
differs k l e = grind (arith, nat_tests, e)

equal : (k l : ℕ) → nat_eq k l ≡ true → k ≡ l
equal k l e = grind (arith, nat_tests, e)

-- ---- one subscription

-- Subscriptions with other ids are unchanged.
other : (id q : ℕ) (o : Option Sub) → nat_eq id q ≡ false → o ≡ option_map (notified_at (id ∷ []) q) o
other id q None e = refl
other id q (Some s) e = λ i. Some (cond (sym e i || false) (notified_again s) s)

-- Writing the notified subscription back notifies the id.
pub told_written : (id : ℕ) (m n : BTreeMap ℕ Sub) (s w : Sub) → tree.get nat_cmp m id ≡ Some s → w ≡ notified_again s → ((q : ℕ) → tree.get nat_cmp n q ≡ cond (is_at (nat_cmp id) q) (Some w) (tree.get nat_cmp m q)) → Notifies (id ∷ []) m n
told_written id m n s w found new u = λ q. u q ∙ elim (eq_by_cmp nat_cmp id q) as (λ b. eq_by_cmp nat_cmp id q ≡ b → cond b (Some w) (tree.get nat_cmp m q) ≡ option_map (notified_at (id ∷ []) q) (tree.get nat_cmp m q)) [
  | true ↦ λ t.
      let here : tree.get nat_cmp m q ≡ Some s = ap (tree.get nat_cmp m) (sym (one_id id q t)) ∙ found in
      ap (λ (x : Sub). Some x) new
      ∙ ((λ i. Some (cond (sym (same id q t) i || false) (notified_again s) s))
      ∙ ap (option_map (notified_at (id ∷ []) q)) (sym here))
  | false ↦ λ t. other id q (tree.get nat_cmp m q) (differs id q t)
] refl

-- If no subscription has the id, none is notified.
pub told_missed : (id : ℕ) (m n : BTreeMap ℕ Sub) → tree.get nat_cmp m id ≡ None → n ≡ m → Notifies (id ∷ []) m n
told_missed id m n none e = λ q. ap (λ (x : BTreeMap ℕ Sub). tree.get nat_cmp x q) e ∙ elim (eq_by_cmp nat_cmp id q) as (λ b. eq_by_cmp nat_cmp id q ≡ b → tree.get nat_cmp m q ≡ option_map (notified_at (id ∷ []) q) (tree.get nat_cmp m q)) [
  | true ↦ λ t.
      let here : tree.get nat_cmp m q ≡ None = ap (tree.get nat_cmp m) (sym (one_id id q t)) ∙ none in
      here ∙ ap (option_map (notified_at (id ∷ []) q)) (sym here)
  | false ↦ λ t. other id q (tree.get nat_cmp m q) (differs id q t)
] refl

-- ---- one after another

unchanged : (q : ℕ) (o : Option Sub) → o ≡ option_map (notified_at [] q) o
unchanged q None = refl
unchanged q (Some s) = refl

pub tell_none : (m : BTreeMap ℕ Sub) → Notifies [] m m
tell_none m = λ q. unchanged q (tree.get nat_cmp m q)

told_next : (ids : List ℕ) (id q : ℕ) (s : Sub) → has ids id ≡ false → notified_at (id ∷ []) q (notified_at ids q s) ≡ notified_at (ids ++ id ∷ []) q s
told_next ids id q s new =
    let test = list_any-append (λ j. nat_eq j q) ids (id ∷ []) in
    let once : Sub = notified_at ids q s in
    elim (nat_eq id q) as (λ b. nat_eq id q ≡ b → notified_at (id ∷ []) q once ≡ notified_at (ids ++ id ∷ []) q s) [
      | true ↦ λ t.
          let not_yet : has ids q ≡ false = subst (λ (j : ℕ). has ids j ≡ false) (equal id q t) new in
          let found : has (ids ++ id ∷ []) q ≡ true = test ∙ (λ i. not_yet i || (t i || false)) in
          (λ i. cond (t i || false) (notified_again once) once)
          ∙ ((λ i. notified_again (cond (not_yet i) (notified_again s) s)) ∙ (λ i. cond (sym found i) (notified_again s) s))
      | false ↦ λ t.
          let as_before : has (ids ++ id ∷ []) q ≡ has ids q = test ∙ (ap (λ (b : Bool). has ids q || (b || false)) t ∙ or-false (has ids q)) in
          (λ i. cond (t i || false) (notified_again once) once) ∙ (λ i. cond (sym as_before i) (notified_again s) s)
    ] refl

twice : (ids : List ℕ) (id q : ℕ) (o : Option Sub) → has ids id ≡ false → option_map (notified_at (id ∷ []) q) (option_map (notified_at ids q) o) ≡ option_map (notified_at (ids ++ id ∷ []) q) o
twice ids id q None new = refl
twice ids id q (Some s) new = ap (λ (x : Sub). Some x) (told_next ids id q s new)

tell_next : (ids : List ℕ) (id : ℕ) (m n o : BTreeMap ℕ Sub) → has ids id ≡ false → Notifies ids m n → Notifies (id ∷ []) n o → Notifies (ids ++ id ∷ []) m o
tell_next ids id m n o new before now = λ q. now q ∙ (ap (option_map (notified_at (id ∷ []) q)) (before q) ∙ twice ids id q (tree.get nat_cmp m q) new)

-- Appending an id that is already in the list adds nothing.
had : (ids : List ℕ) (id q : ℕ) → has ids id ≡ true → has ids q ≡ has (ids ++ id ∷ []) q
had ids id q old =
    let test = list_any-append (λ j. nat_eq j q) ids (id ∷ []) in
    elim (nat_eq id q) as (λ b. nat_eq id q ≡ b → has ids q ≡ has (ids ++ id ∷ []) q) [
      | true ↦ λ t.
          let yet : has ids q ≡ true = subst (λ (j : ℕ). has ids j ≡ true) (equal id q t) old in
          sym (test ∙ ((λ i. yet i || (t i || false)) ∙ sym yet))
      | false ↦ λ t. sym (test ∙ (ap (λ (b : Bool). has ids q || (b || false)) t ∙ or-false (has ids q)))
    ] refl

tell_again : (ids : List ℕ) (id : ℕ) (m n : BTreeMap ℕ Sub) → has ids id ≡ true → Notifies ids m n → Notifies (ids ++ id ∷ []) m n
tell_again ids id m n old before = λ q. before q ∙ ap (λ (b : Bool). option_map (λ (s : Sub). cond b (notified_again s) s) (tree.get nat_cmp m q)) (had ids id q old)

next : (ids : List ℕ) (k id : ℕ) → k < length ids → id ≡ get_or ids k id → take k ids ++ id ∷ [] ≡ take (k + 1) ids
next ids k id lt at = ap (λ (x : ℕ). take k ids ++ x ∷ []) at ∙ sym (take_more ids k id lt)

-- After one more id, all ids so far are notified. The id is notified now or was notified before.
pub tell_more : (ids : List ℕ) (k id : ℕ) (m n o : BTreeMap ℕ Sub) → k < length ids → id ≡ get_or ids k id → has (take k ids) id ≡ false → Notifies (take k ids) m n → Notifies (id ∷ []) n o → Notifies (take (k + 1) ids) m o
tell_more ids k id m n o lt at new before now = subst (λ (all : List ℕ). Notifies all m o) (next ids k id lt at) (tell_next (take k ids) id m n o new before now)

pub tell_same : (ids : List ℕ) (k id : ℕ) (m n : BTreeMap ℕ Sub) → k < length ids → id ≡ get_or ids k id → has (take k ids) id ≡ true → Notifies (take k ids) m n → Notifies (take (k + 1) ids) m n
tell_same ids k id m n lt at old before = subst (λ (all : List ℕ). Notifies all m n) (next ids k id lt at) (tell_again (take k ids) id m n old before)

rises_in : (ids : List ℕ) (id : ℕ) (o : Option Sub) → has ids id ≡ false → ((s : Sub) → o ≡ Some s → s.index < max_serial) → IfSome (option_map (notified_at ids id) o) (λ s. s.index < max_serial)
rises_in ids id None new h = tt
rises_in ids id (Some s) new h = subst (λ (b : Bool). (cond b (notified_again s) s).index < max_serial) (sym new) (h s refl)

-- The index of the next subscription can be incremented, because it was not notified yet.
pub rises_next : (ids : List ℕ) (id : ℕ) (m n : BTreeMap ℕ Sub) → has ids id ≡ false → TreeCanNotify m → Notifies ids m n → IfSome (tree.get nat_cmp n id) (λ s. s.index < max_serial)
rises_next ids id m n new can before = subst (λ (o : Option Sub). IfSome o (λ s. s.index < max_serial)) (sym (before id)) (rises_in ids id (tree.get nat_cmp m id) new (can id))

lower : (a b : ℕ) → a < b → nat_eq a b ≡ false
lower a b h = grind (arith, nat_tests)

-- In an ascending list, the next id is not among the previous ones.
pub not_among : (ids : List ℕ) (k id : ℕ) → k < length ids → id ≡ get_or ids k id → IsStrictlyIncreasing ids → has (take k ids) id ≡ false
not_among ids k id lt at up = list_any_none (λ j. nat_eq j id) (take k ids) (λ j d in_range.
    let less : j < k = omega (arith, length-take k ids, in_range) in
    let rise : get_or ids j d < get_or ids k d = AllPairs-from_increasing ids up j k d less lt in
    let here : get_or ids k d ≡ id = get_or_default ids k d id lt ∙ sym at in
    ap (λ (x : ℕ). nat_eq x id) (get_or-take k ids j d less) ∙ lower (get_or ids j d) id (omega (arith, rise, here)))

-- Comparing each id with its successor tests whether the list is ascending.
pub rising_answer : (ids : List ℕ) (r : Bool) → IsAllAdjacentAnswer (λ x y b. b ≡ ltb x y) ids r → IsTrue r ↔ IsStrictlyIncreasing ids
rising_answer ids true h = (λ t k lt. ltb-true (get_or ids k 0) (get_or ids (k + 1) 0) (sym (h k 0 lt)), λ up. refl)
rising_answer ids false h = (
  λ t. absurd (true≢false (sym t)),
  λ up. let no : false ≡ ltb (get_or ids h.0 0) (get_or ids (h.0 + 1) 0) = h.2 0 in let yes : get_or ids h.0 0 < get_or ids (h.0 + 1) 0 = up h.0 h.1 in absurd (grind (arith, nat_tests, no, yes)),
)
