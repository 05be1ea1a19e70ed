-- Lemma: meeting is symmetric.
use Rattle.std.specs.Prelude.{◌≡◌, ◌&&◌, ◌||◌, nat_le, int_le, Bool, true, false, List, [], ◌∷◌, map, Option, refl}
use Rattle.std.proofs.Common.{sym, ap, ◌∙◌}
use Rattle.std.specs.List.{list_any}
use Rattle.grid_core.specs.Cell.{Cell, cut}
use Rattle.grid_core.specs.Extent.{Extent, Region, region_of, any_meet, any_touch, contains, meets, reaches, shares, touches}

or_comm : (a b : Bool) → a || b ≡ b || a
or_comm true true = refl
or_comm true false = refl
or_comm false true = refl
or_comm false false = refl

and_comm : (a b : Bool) → a && b ≡ b && a
and_comm true true = refl
and_comm true false = refl
and_comm false true = refl
and_comm false false = refl

or_middle : (a b c d : Bool) → (a || b) || (c || d) ≡ (a || c) || (b || d)
or_middle true b c d = refl
or_middle false true true d = refl
or_middle false true false d = refl
or_middle false false c d = refl

any-map : {X Y : Type 0} (p : Y → Bool) (f : X → Y) (xs : List X) → list_any p (map f xs) ≡ list_any (λ x. p (f x)) xs
any-map p f [] = refl
any-map p f (x ∷ xs) = ap (λ (b : Bool). p (f x) || b) (any-map p f xs)

any-none : {X : Type 0} (xs : List X) → list_any (λ x. false) xs ≡ false
any-none [] = refl
any-none (x ∷ xs) = any-none xs

any-or : {X : Type 0} (p q : X → Bool) (xs : List X) → list_any p xs || list_any q xs ≡ list_any (λ x. p x || q x) xs
any-or p q [] = refl
any-or p q (x ∷ xs) = or_middle (p x) (list_any p xs) (q x) (list_any q xs) ∙ ap (λ (b : Bool). (p x || q x) || b) (any-or p q xs)

any-swap : {X Y : Type 0} (p : X → Y → Bool) (xs : List X) (ys : List Y) → list_any (λ x. list_any (p x) ys) xs ≡ list_any (λ y. list_any (λ x. p x y) xs) ys
any-swap p [] ys = sym (any-none ys)
any-swap p (x ∷ xs) ys = ap (λ (b : Bool). list_any (p x) ys || b) (any-swap p xs ys) ∙ any-or (p x) (λ y. list_any (λ z. p z y) xs) ys

touch_mutual : (cs ds : List Cell) → any_touch cs ds ≡ any_touch ds cs
touch_mutual cs ds = any-swap touches cs ds ∙ (λ i. list_any (λ d. list_any (λ c. or_comm (contains (cut c) (cut d)) (contains (cut d) (cut c)) i) cs) ds)

share_mutual : {K : Type 0} (le : K → K → Bool) (l h m k : Option K) → shares le l h m k ≡ shares le m k l h
share_mutual le l h m k =
    and_comm (reaches le l h && reaches le l k) (reaches le m h && reaches le m k)
    ∙ (λ i. and_comm (reaches le m h) (reaches le m k) i && and_comm (reaches le l h) (reaches le l k) i)

meet_mutual : (a b : Region) → meets a b ≡ meets b a
meet_mutual a b = λ i. touch_mutual a.cells b.cells i && (share_mutual int_le a.lowest a.highest b.lowest b.highest i && share_mutual nat_le a.first a.last b.first b.last i)

meet_by : (es fs : List Extent) → any_meet es (map region_of fs) ≡ list_any (λ e. list_any (λ f. meets (region_of e) (region_of f)) fs) es
meet_by es fs = λ i. list_any (λ e. any-map (λ (r : Region). meets (region_of e) r) region_of fs i) es

pub mutual_meeting : (es fs : List Extent) → any_meet es (map region_of fs) ≡ any_meet fs (map region_of es)
mutual_meeting es fs =
    meet_by es fs
    ∙ (any-swap (λ (e : Extent) (f : Extent). meets (region_of e) (region_of f)) es fs
    ∙ ((λ i. list_any (λ f. list_any (λ e. meet_mutual (region_of e) (region_of f) i) es) fs)
    ∙ sym (meet_by fs es)))
