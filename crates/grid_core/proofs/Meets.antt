-- The tests of whether areas meet agree with the relations.
use Rattle.std.proofs.Common.{◌≡◌, ℕ, Bool, true, false, ◌&&◌, ◌||◌, ◌≤◌, ◌⊎◌, ◌↔◌, inl, inr, List, [], ◌∷◌, ◌++◌, T, ℤ, pos, ◌≤ℤ◌, Option, Some, None, nat_eq, nat_le, int_le, IsTrue, refl, sym, ap, ◌∙◌, subst, arith, Any, le_refl, true≢false}
use Rattle.std.specs.List.{list_any}
use Rattle.std.specs.Int.Signed.{≤ℤ_refl, le_z_yes}
use Rattle.std.proofs.lemmas.Int.{ints}
use Rattle.std.proofs.lemmas.List.Folds.{Any-from_list_any, list_any-from_Any}
use Rattle.grid_core.specs.Cell.{Cell, IsPrefix, Contains, Touch, cut}
use Rattle.grid_core.specs.Extent.{Extent, Region, Meet, AnyMeet, Share, IsFrom, IsUpTo, region_of, is_prefix, contains, touches, any_touch, reaches, shares, meets, any_meet}

pub first : (a b : Bool) → (a && b) ≡ true → a ≡ true
first true b e = refl
first false b e = e

pub second : (a b : Bool) → (a && b) ≡ true → b ≡ true
second true b e = e
second false b e = absurd (true≢false (sym e))

pub both : (a b : Bool) → a ≡ true → b ≡ true → (a && b) ≡ true
both true b p q = q
both false b p q = p

-- Two tests of the same relation return the same value.
pub one_test : (a b : Bool) (P : Type 0) → (IsTrue a ↔ P) → (IsTrue b ↔ P) → a ≡ b
one_test true b P p q = sym (q.1 (p.0 refl))
one_test false true P p q = p.1 (q.0 refl)
one_test false false P p q = refl

-- ---- ranges

-- An order and its test.
pub record IsOrder {K : Type 0} (le : K → K → Bool) (Le : K → K → Type 0) : Type 0 where
  pub from : (x y : K) → le x y ≡ true → Le x y
  pub to : (x y : K) → Le x y → le x y ≡ true
  pub itself : (x : K) → Le x x
  pub chain : (x y z : K) → Le x y → Le y z → Le x z
  pub either : (x y : K) → Le x y ⊎ Le y x
  pub some : K

up_to : {K : Type 0} (le : K → K → Bool) (Le : K → K → Type 0) → IsOrder le Le → (l : K) (h : Option K) → reaches le (Some l) h ≡ true → IsUpTo Le h l
up_to le Le o l None e = tt
up_to le Le o l (Some h) e = o.from l h e

reach : {K : Type 0} (le : K → K → Bool) (Le : K → K → Type 0) → IsOrder le Le → (l h : Option K) (x : K) → IsFrom Le l x → IsUpTo Le h x → reaches le l h ≡ true
reach le Le o None h x p q = refl
reach le Le o (Some l) None x p q = refl
reach le Le o (Some l) (Some h) x p q = o.to l h (o.chain l x h p q)

pub share_from : {K : Type 0} (le : K → K → Bool) (Le : K → K → Type 0) → IsOrder le Le → (l h l' h' : Option K) → shares le l h l' h' ≡ true → Share Le l h l' h'
share_from le Le o (Some a) h (Some b) h' e =
    let e1 = first (reaches le (Some a) h && reaches le (Some a) h') (reaches le (Some b) h && reaches le (Some b) h') e in
    let e2 = second (reaches le (Some a) h && reaches le (Some a) h') (reaches le (Some b) h && reaches le (Some b) h') e in
    elim (o.either a b) [
      | inl p ↦ (b, p, up_to le Le o b h (first _ _ e2), o.itself b, up_to le Le o b h' (second (reaches le (Some b) h) _ e2))
      | inr p ↦ (a, o.itself a, up_to le Le o a h (first _ _ e1), p, up_to le Le o a h' (second (reaches le (Some a) h) _ e1))
    ]
share_from le Le o (Some a) h None h' e =
    let e1 = first (reaches le (Some a) h && reaches le (Some a) h') true e in
    (a, o.itself a, up_to le Le o a h (first _ _ e1), tt, up_to le Le o a h' (second (reaches le (Some a) h) _ e1))
share_from le Le o None h (Some b) h' e = (b, tt, up_to le Le o b h (first _ _ e), o.itself b, up_to le Le o b h' (second (reaches le (Some b) h) _ e))
share_from le Le o None None None None e = (o.some, tt, tt, tt, tt)
share_from le Le o None (Some p) None None e = (p, tt, o.itself p, tt, tt)
share_from le Le o None None None (Some q) e = (q, tt, tt, tt, o.itself q)
share_from le Le o None (Some p) None (Some q) e = elim (o.either p q) [
  | inl r ↦ (p, tt, o.itself p, tt, r)
  | inr r ↦ (q, tt, r, tt, o.itself q)
]

pub share_to : {K : Type 0} (le : K → K → Bool) (Le : K → K → Type 0) → IsOrder le Le → (l h l' h' : Option K) → Share Le l h l' h' → shares le l h l' h' ≡ true
share_to le Le o l h l' h' s =
    both _ _ (both _ _ (reach le Le o l h s.0 s.1 s.2) (reach le Le o l h' s.0 s.1 s.4))
    (both _ _ (reach le Le o l' h s.0 s.3 s.2) (reach le Le o l' h' s.0 s.3 s.4))

so : (b : Bool) → T b → b ≡ true
so true t = refl
so false t = absurd t

int_either : (x y : ℤ) → (b : Bool) → int_le x y ≡ b → (x ≤ℤ y) ⊎ (y ≤ℤ x)
int_either x y true e = inl (le_z_yes (subst T (sym e) tt))
int_either x y false e = inr (grind (arith, ints, e))

pub int_order : IsOrder int_le ◌≤ℤ◌
int_order = record {
  from = λ x y e. le_z_yes (subst T (sym e) tt);
  to = λ x y h. so (int_le x y) h.le;
  itself = λ x. ≤ℤ_refl x;
  chain = λ x y z p q. omega (arith, ints, p, q);
  either = λ x y. int_either x y (int_le x y) refl;
  some = pos 0;
}

nat_either : (x y : ℕ) → (b : Bool) → nat_le x y ≡ b → (x ≤ y) ⊎ (y ≤ x)
nat_either x y true e = inl (grind arith)
nat_either x y false e = inr (grind arith)

pub nat_order : IsOrder nat_le ◌≤◌
nat_order = record {
  from = λ x y e. grind arith;
  to = λ x y h. grind arith;
  itself = λ x. le_refl x;
  chain = λ x y z p q. omega arith;
  either = λ x y. nat_either x y (nat_le x y) refl;
  some = 0;
}

-- ---- cells

same_number : (x y : ℕ) → nat_eq x y ≡ true → x ≡ y
same_number x y e = grind arith

own_number : (x : ℕ) → nat_eq x x ≡ true
own_number x = grind arith

prefix_from : (xs ys : List ℕ) → is_prefix xs ys ≡ true → IsPrefix xs ys
prefix_from [] ys e = (ys, refl)
prefix_from (x ∷ xs) [] e = absurd (true≢false (sym e))
prefix_from (x ∷ xs) (y ∷ ys) e =
    let p = prefix_from xs ys (second (nat_eq x y) (is_prefix xs ys) e) in
    (p.0, ap (λ (d : ℕ). d ∷ (xs ++ p.0)) (same_number x y (first _ _ e)) ∙ ap (λ (ds : List ℕ). y ∷ ds) p.1)

own_prefix : (xs rest : List ℕ) → is_prefix xs (xs ++ rest) ≡ true
own_prefix [] rest = refl
own_prefix (x ∷ xs) rest = both _ _ (own_number x) (own_prefix xs rest)

contains_from : (a b : Cell) → contains a b ≡ true → Contains a b
contains_from a b e = record { face = same_number a.face b.face (first _ _ e); prefix = prefix_from a.digits b.digits (second (nat_eq a.face b.face) _ e) }

contains_to : (a b : Cell) → Contains a b → contains a b ≡ true
contains_to a b h = both _ _ (subst (λ (f : ℕ). nat_eq a.face f ≡ true) h.face (own_number a.face)) (subst (λ (ds : List ℕ). is_prefix a.digits ds ≡ true) h.prefix.1 (own_prefix a.digits h.prefix.0))

either_from : (a b : Bool) → (a || b) ≡ true → (a ≡ true) ⊎ (b ≡ true)
either_from true b e = inl refl
either_from false b e = inr e

left_to : (a b : Bool) → a ≡ true → (a || b) ≡ true
left_to true b e = refl
left_to false b e = absurd (true≢false (sym e))

right_to : (a b : Bool) → b ≡ true → (a || b) ≡ true
right_to true b e = refl
right_to false b e = e

pub touch_from : (a b : Cell) → touches a b ≡ true → Touch a b
touch_from a b e = elim (either_from (contains (cut a) (cut b)) (contains (cut b) (cut a)) e) [
  | inl h ↦ inl (contains_from (cut a) (cut b) h)
  | inr h ↦ inr (contains_from (cut b) (cut a) h)
]

pub touch_to : (a b : Cell) → Touch a b → touches a b ≡ true
touch_to a b t = elim t [
  | inl h ↦ left_to _ _ (contains_to (cut a) (cut b) h)
  | inr h ↦ right_to (contains (cut a) (cut b)) _ (contains_to (cut b) (cut a) h)
]

pub touch_test : (a b : Cell) → IsTrue (touches a b) ↔ Touch a b
touch_test a b = (touch_from a b, touch_to a b)

-- ---- lists

any_map : {X : Type 0} (P Q : X → Type 0) → ((x : X) → P x → Q x) → (xs : List X) → Any P xs → Any Q xs
any_map P Q f xs a = (a.0, a.1, a.2, a.3, f a.1 a.4)

pub any_from : {X : Type 0} (p : X → Bool) (P : X → Type 0) → ((x : X) → p x ≡ true → P x) → (xs : List X) → list_any p xs ≡ true → Any P xs
any_from p P f xs e = any_map (λ x. p x ≡ true) P f xs (Any-from_list_any p xs e)

pub any_to : {X : Type 0} (p : X → Bool) (P : X → Type 0) → ((x : X) → P x → p x ≡ true) → (xs : List X) → Any P xs → list_any p xs ≡ true
any_to p P f xs a = list_any-from_Any p xs (any_map P (λ x. p x ≡ true) f xs a)

-- ---- meetings

pub meet_from : (a b : Region) → meets a b ≡ true → Meet a b
meet_from a b e =
    let cells = first (any_touch a.cells b.cells) _ e in
    let ranges = second (any_touch a.cells b.cells) (shares int_le a.lowest a.highest b.lowest b.highest && shares nat_le a.first a.last b.first b.last) e in
    record {
      cells = any_from (λ c. list_any (λ d. touches c d) b.cells) (λ c. Any (λ d. Touch c d) b.cells) (λ c h. any_from (λ d. touches c d) (λ d. Touch c d) (touch_from c) b.cells h) a.cells cells;
      altitude = share_from int_le ◌≤ℤ◌ int_order a.lowest a.highest b.lowest b.highest (first _ _ ranges);
      time = share_from nat_le ◌≤◌ nat_order a.first a.last b.first b.last (second (shares int_le a.lowest a.highest b.lowest b.highest) _ ranges);
    }

pub meet_to : (a b : Region) → Meet a b → meets a b ≡ true
meet_to a b m =
    both _ _ (any_to (λ c. list_any (λ d. touches c d) b.cells) (λ c. Any (λ d. Touch c d) b.cells) (λ c h. any_to (λ d. touches c d) (λ d. Touch c d) (touch_to c) b.cells h) a.cells m.cells)
    (both _ _ (share_to int_le ◌≤ℤ◌ int_order a.lowest a.highest b.lowest b.highest m.altitude) (share_to nat_le ◌≤◌ nat_order a.first a.last b.first b.last m.time))

pub meet_test : (a b : Region) (t : Bool) → t ≡ meets a b → IsTrue t ↔ Meet a b
meet_test a b t e = (λ h. meet_from a b (sym e ∙ h), λ m. e ∙ meet_to a b m)

pub any_meet_test : (es : List Extent) (rs : List Region) (t : Bool) → t ≡ any_meet es rs → IsTrue t ↔ AnyMeet es rs
any_meet_test es rs t e = (
  λ h. any_from (λ v. list_any (λ r. meets (region_of v) r) rs) (λ v. Any (λ r. Meet (region_of v) r) rs) (λ v k. any_from (λ r. meets (region_of v) r) (λ r. Meet (region_of v) r) (λ r. meet_from (region_of v) r) rs k) es (sym e ∙ h),
  λ a. e ∙ any_to (λ v. list_any (λ r. meets (region_of v) r) rs) (λ v. Any (λ r. Meet (region_of v) r) rs) (λ v k. any_to (λ r. meets (region_of v) r) (λ r. Meet (region_of v) r) (λ r. meet_to (region_of v) r) rs k) es a,
)
