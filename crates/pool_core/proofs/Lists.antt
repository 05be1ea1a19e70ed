-- Lemmas: positions, beginnings and counts of lists.
use Rattle.std.proofs.Common.{◌≡◌, ℕ, zero, suc, ◌+◌, ◌-◌, ◌<◌, ◌≤◌, ◌⊎◌, Bool, true, false, cond, List, [], ◌∷◌, ◌++◌, length, map, Some, slice_get, slice_index_or, refl, sym, ap, subst, ◌∙◌, arith, inl, inr, length-append, zero-add}
use Rattle.std.specs.Prelude.{Contains, count_by}
use Rattle.std.proofs.lemmas.List.{get_or_at}
use Rattle.std.proofs.lemmas.List.Sums.{sum_by-append}
use Rattle.std.proofs.lemmas.Option.{slice_get-get_or}

-- ---- numbers

pub fits_or_more : (n m : ℕ) → (n ≤ m) ⊎ (suc m ≤ n)
fits_or_more zero m = inl (omega arith)
fits_or_more (suc n) zero = inr (omega arith)
fits_or_more (suc n) (suc m) = elim (fits_or_more n m) [
  | inl le ↦ inl (omega (arith, le))
  | inr more ↦ inr (omega (arith, more))
]

-- ---- positions

-- A list with an element at a position.
pub record Split {X : Type 0} (xs : List X) (n : ℕ) (x : X) : Type 0 where
  pub front : List X
  pub back : List X
  pub split : xs ≡ front ++ x ∷ back
  pub at : length front ≡ n

pub some_same : {X : Type 0} (x y : X) → Some x ≡ Some y → x ≡ y
some_same x y h = cc

pub get_split : {X : Type 0} (xs : List X) (n : ℕ) (x : X) → slice_get xs n ≡ Some x → Split xs n x
get_split [] n x h = absurd cc
get_split (y ∷ xs) zero x h = record { front = []; back = xs; split = ap (λ v. v ∷ xs) (some_same y x h); at = refl }
get_split (y ∷ xs) (suc n) x h =
    let s = get_split xs n x h in
    record { front = y ∷ s.front; back = s.back; split = ap (λ v. y ∷ v) s.split; at = omega (arith, s.at) }

pub get_at : {X : Type 0} (front : List X) (x : X) (back : List X) → slice_get (front ++ x ∷ back) (length front) ≡ Some x
get_at [] x back = refl
get_at (y ∷ front) x back = get_at front x back

pub get_from_split : {X : Type 0} (xs : List X) (n : ℕ) (x : X) → Split xs n x → slice_get xs n ≡ Some x
get_from_split xs n x s =
    subst (λ v. slice_get v n ≡ Some x) (sym s.split) (subst (λ v. slice_get (s.front ++ x ∷ s.back) v ≡ Some x) s.at (get_at s.front x s.back))

pub contains_split : {X : Type 0} (xs : List X) (x : X) → (h : Contains xs x) → Split xs h.0 x
contains_split xs x h = get_split xs h.0 x (slice_get-get_or xs h.0 x h.1 ∙ ap (λ v. Some v) h.2)

pub contains_at : {X : Type 0} (front : List X) (x : X) (back : List X) → Contains (front ++ x ∷ back) x
contains_at front x back = (length front, omega (arith, length-append front (x ∷ back)), get_or_at front x back x (length front) refl)

pub contains_same : {X : Type 0} (xs ys : List X) (x : X) → xs ≡ ys → Contains ys x → Contains xs x
contains_same xs ys x h c = subst (λ v. Contains v x) (sym h) c

pub contains_get : {X : Type 0} (xs : List X) (n : ℕ) (x : X) → slice_get xs n ≡ Some x → Contains xs x
contains_get xs n x h = let s = get_split xs n x h in contains_same xs (s.front ++ x ∷ s.back) x s.split (contains_at s.front x s.back)

pub contains_none : {X A : Type 0} (x : X) → Contains [] x → A
contains_none x h = absurd (omega (arith, h.1))

one_case : {X : Type 0} (x r : X) (k : ℕ) → k < 1 → slice_index_or (x ∷ []) k r ≡ r → x ≡ r
one_case x r zero lt e = e
one_case x r (suc k) lt e = absurd (omega (arith, lt))

pub contains_one : {X : Type 0} (x r : X) → Contains (x ∷ []) r → x ≡ r
contains_one x r h = one_case x r h.0 h.1 h.2

pub contains_head : {X : Type 0} (x : X) (xs : List X) → Contains (x ∷ xs) x
contains_head x xs = contains_at [] x xs

-- An element at a position of the second of two lists, or of the first.
pub get_back : {X : Type 0} (xs ys : List X) (n : ℕ) (x : X) → slice_get (xs ++ ys) n ≡ Some x → length xs ≤ n → slice_get ys (n - length xs) ≡ Some x
get_back [] ys n x h le = let e : n - 0 ≡ n = omega arith in ap (λ v. slice_get ys v) e ∙ h
get_back (y ∷ xs) ys zero x h le = absurd (omega (arith, le))
get_back (y ∷ xs) ys (suc n) x h le =
    let e : suc n - suc (length xs) ≡ n - length xs = omega arith in
    ap (λ v. slice_get ys v) e ∙ get_back xs ys n x h (omega (arith, le))

pub get_front : {X : Type 0} (xs ys : List X) (n : ℕ) (x : X) → slice_get (xs ++ ys) n ≡ Some x → n < length xs → slice_get xs n ≡ Some x
get_front [] ys n x h lt = absurd (omega (arith, lt))
get_front (y ∷ xs) ys zero x h lt = h
get_front (y ∷ xs) ys (suc n) x h lt = get_front xs ys n x h (omega (arith, lt))

pub get_more : {X : Type 0} (xs ys : List X) (n : ℕ) (x : X) → slice_get xs n ≡ Some x → slice_get (xs ++ ys) n ≡ Some x
get_more [] ys n x h = absurd cc
get_more (y ∷ xs) ys zero x h = h
get_more (y ∷ xs) ys (suc n) x h = get_more xs ys n x h

pub get_within : {X : Type 0} (xs : List X) (n : ℕ) (x : X) → slice_get xs n ≡ Some x → n < length xs
get_within [] n x h = absurd cc
get_within (y ∷ xs) zero x h = omega arith
get_within (y ∷ xs) (suc n) x h = omega (arith, get_within xs n x h)

-- ---- beginnings

cons_more : {X : Type 0} (x y : X) (p q : List X) → x ≡ y → p ≡ q → x ∷ p ≡ y ∷ q
cons_more x y p q h k = ap (λ v. v ∷ p) h ∙ ap (λ v. y ∷ v) k

pub tails : {X : Type 0} (x y : X) (p q : List X) → x ∷ p ≡ y ∷ q → p ≡ q
tails x y p q h = cc

pub heads : {X : Type 0} (x y : X) (p q : List X) → x ∷ p ≡ y ∷ q → x ≡ y
heads x y p q h = cc

-- Of two beginnings of a list, one is a beginning of the other.
pub prefixes : {X : Type 0} (p a q b : List X) → p ++ a ≡ q ++ b
    → ((r : List X) × (q ≡ p ++ r) × (a ≡ r ++ b)) ⊎ ((r : List X) × (p ≡ q ++ r) × (b ≡ r ++ a))
prefixes [] a q b h = inl (q, refl, h)
prefixes (x ∷ p) a [] b h = inr (x ∷ p, refl, sym h)
prefixes (x ∷ p) a (y ∷ q) b h =
    elim (prefixes p a q b (tails x y (p ++ a) (q ++ b) h)) [
      | inl u ↦ inl (u.0, cons_more y x q (p ++ u.0) (sym (heads x y (p ++ a) (q ++ b) h)) u.1, u.2)
      | inr u ↦ inr (u.0, cons_more x y p (q ++ u.0) (heads x y (p ++ a) (q ++ b) h) u.1, u.2)
    ]

-- A list of images that is split comes from a split list.
pub record SplitImage {X Y : Type 0} (f : X → Y) (xs : List X) (p : List Y) (y : Y) (q : List Y) : Type 0 where
  pub front : List X
  pub one : X
  pub back : List X
  pub split : xs ≡ front ++ one ∷ back
  pub fronts : map f front ≡ p
  pub same : f one ≡ y
  pub backs : map f back ≡ q

pub map_split : {X Y : Type 0} (f : X → Y) (xs : List X) (p : List Y) (y : Y) (q : List Y) → map f xs ≡ p ++ y ∷ q → SplitImage f xs p y q
map_split f [] [] y q h = absurd cc
map_split f [] (z ∷ p) y q h = absurd cc
map_split f (x ∷ xs) [] y q h =
    record { front = []; one = x; back = xs; split = refl; fronts = refl; same = heads (f x) y (map f xs) q h; backs = tails (f x) y (map f xs) q h }
map_split f (x ∷ xs) (z ∷ p) y q h =
    let s = map_split f xs p y q (tails (f x) z (map f xs) (p ++ y ∷ q) h) in
    record {
      front = x ∷ s.front;
      one = s.one;
      back = s.back;
      split = ap (λ v. x ∷ v) s.split;
      fronts = cons_more (f x) z (map f s.front) p (heads (f x) z (map f xs) (p ++ y ∷ q) h) s.fronts;
      same = s.same;
      backs = s.backs;
    }

-- ---- counts

pub count_append : {X : Type 0} (p : X → Bool) (xs ys : List X) → count_by p (xs ++ ys) ≡ count_by p xs + count_by p ys
count_append p xs ys = sum_by-append (λ x. cond (p x) 1 0) xs ys

pub count_cons : {X : Type 0} (p : X → Bool) (x : X) (xs : List X) → count_by p (x ∷ xs) ≡ cond (p x) 1 0 + count_by p xs
count_cons p x xs = count_append p (x ∷ []) xs ∙ ap (λ v. v + count_by p xs) (zero-add (cond (p x) 1 0))

pub count_yes : {X : Type 0} (p : X → Bool) (x : X) (xs : List X) → p x ≡ true → count_by p (x ∷ xs) ≡ suc (count_by p xs)
count_yes p x xs h = count_cons p x xs ∙ ap (λ v. cond v 1 0 + count_by p xs) h ∙ omega arith

pub count_no : {X : Type 0} (p : X → Bool) (x : X) (xs : List X) → p x ≡ false → count_by p (x ∷ xs) ≡ count_by p xs
count_no p x xs h = count_cons p x xs ∙ ap (λ v. cond v 1 0 + count_by p xs) h ∙ zero-add (count_by p xs)

pub count_rest : {X : Type 0} (p : X → Bool) (x : X) (xs : List X) → count_by p xs ≤ count_by p (x ∷ xs)
count_rest p x xs = omega (arith, count_cons p x xs)

pub counted : {X : Type 0} (p : X → Bool) (xs : List X) (n : ℕ) (x : X) → slice_get xs n ≡ Some x → p x ≡ true → 1 ≤ count_by p xs
counted p [] n x h px = absurd cc
counted p (y ∷ xs) zero x h px = omega (arith, count_yes p y xs (ap p (some_same y x h) ∙ px))
counted p (y ∷ xs) (suc n) x h px = omega (arith, counted p xs n x h px, count_rest p y xs)

-- Two positions of a list in which a test passes once.
pub one_position : {X : Type 0} (p : X → Bool) (xs : List X) (n k : ℕ) (x y : X) → count_by p xs ≤ 1 → slice_get xs n ≡ Some x → slice_get xs k ≡ Some y
    → p x ≡ true → p y ≡ true → n ≡ k
one_position p [] n k x y le h g px py = absurd cc
one_position p (z ∷ xs) zero zero x y le h g px py = refl
one_position p (z ∷ xs) zero (suc k) x y le h g px py =
    absurd (omega (arith, le, count_yes p z xs (ap p (some_same z x h) ∙ px), counted p xs k y g py))
one_position p (z ∷ xs) (suc n) zero x y le h g px py =
    absurd (omega (arith, le, count_yes p z xs (ap p (some_same z y g) ∙ py), counted p xs n x h px))
one_position p (z ∷ xs) (suc n) (suc k) x y le h g px py =
    ap (λ v. suc v) (one_position p xs n k x y (omega (arith, le, count_rest p z xs)) h g px py)
