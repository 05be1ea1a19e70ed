-- Sets of marks: the effect of insertions and removals, and loops over them.
use Rattle.std.specs.Prelude.{◌≡◌, ℕ, ◌+◌, ◌<◌, ◌≤◌, Bool, true, false, cond, not, ◌&&◌, ◌||◌, ◌⊎◌, List, [], ◌∷◌, ◌++◌, length, take, filter, refl}
use Rattle.std.proofs.Common.{arith, sym, ap, ◌∙◌, subst, inl, inr, get_or}
use Rattle.std.specs.List.{list_any, All}
use Rattle.std.specs.Ordering.{nat_cmp, is_eq, is_le, ordering_then}
use Rattle.std.specs.declared.cmp.Ordering.{Ordering}
use Rattle.std.specs.declared.cmp.Ordering.TheVariants.{Less, Equal, Greater}
use Rattle.std.specs.declared.ops.Bound.TheVariants.{Included, Excluded}
use Rattle.std.specs.BTreeSet.{BTreeSet, contains, Updates}
use Rattle.std.specs.BTreeMap.Range.{range_contains}
use Rattle.std.proofs.lemmas.Map.Lookups.{CmpEqualImpliesEq, exact_unsigned}
use Rattle.std.proofs.lemmas.Bool.{cases_lt}
use Rattle.std.proofs.lemmas.List.{get_or_default, take_all}
use Rattle.std.proofs.lemmas.List.Elements.{All-more, All-push, All-weaker}
use Rattle.std.proofs.lemmas.Bool.Decides.{nat_tests}
use Rattle.space_memory.specs.CellIndex.{Holder, Mark, Grows, KeepsOthers, mark_cmp}
use Rattle.space_memory.specs.Near.{Span}

pub either : (c b : Bool) → b ≡ true → cond c true b ≡ true
either true b h = refl
either false b h = h

pub inserted_grows : (old new : BTreeSet Mark) (k : Mark) → Updates mark_cmp old new k true → Grows old new
inserted_grows old new k u = λ q h. u.0 q ∙ either (is_eq (mark_cmp k q)) (contains mark_cmp old q) h

pub both_equal : (r s : Ordering) → ordering_then r s ≡ Equal → (r ≡ Equal) × (s ≡ Equal)
both_equal Less s e = cc
both_equal Equal s e = (refl, e)
both_equal Greater s e = cc

pub equal_is : (r : Ordering) → is_eq r ≡ true → r ≡ Equal
equal_is Less e = cc
equal_is Equal e = refl
equal_is Greater e = cc

pub mark_exact : CmpEqualImpliesEq mark_cmp
mark_exact x y e =
    let h = both_equal (ordering_then (nat_cmp x.0 y.0) (nat_cmp x.1 y.1)) (nat_cmp x.2 y.2) e in
    let g = both_equal (nat_cmp x.0 y.0) (nat_cmp x.1 y.1) h.0 in
    λ i. (exact_unsigned x.0 y.0 g.0 i, exact_unsigned x.1 y.1 g.1 i, exact_unsigned x.2 y.2 h.1 i)

-- Removing a mark of a holder leaves the marks of other holders.
pub removed_keeps : (e : Holder) (old mid new : BTreeSet Mark) (k : Mark) → k.1 ≡ e.0 → k.2 ≡ e.1 → KeepsOthers e old mid → Updates mark_cmp mid new k false → KeepsOthers e old new
removed_keeps e old mid new k tag id h u = λ q other there.
    let apart : is_eq (mark_cmp k q) ≡ false = elim (is_eq (mark_cmp k q)) as (λ b. is_eq (mark_cmp k q) ≡ b → b ≡ false) [
      | true ↦ λ is. let one = mark_exact k q (equal_is (mark_cmp k q) is) in absurd (other (ap (λ (m : Mark). m.1) (sym one) ∙ tag) (ap (λ (m : Mark). m.2) (sym one) ∙ id))
      | false ↦ λ is. refl
    ] refl in
    u.0 q ∙ (ap (λ b. cond b false (contains mark_cmp mid q)) apart ∙ h q other there)

-- ---- a loop over the keys of a set: each key was visited or remains

abbrev pub Left : {K : Type 0} → (K → K → Ordering) → List K → List K → (K → Type 0) → Type 0
Left {K} cmp all rest P = (q : K) → list_any (λ k. is_eq (cmp q k)) all ≡ true → (list_any (λ k. is_eq (cmp q k)) rest ≡ true) ⊎ P q

pub left_all : {K : Type 0} (cmp : K → K → Ordering) (all rest : List K) (P : K → Type 0) → rest ≡ all → Left cmp all rest P
left_all cmp all rest P e = λ q h. inl (ap (λ ks. list_any (λ k. is_eq (cmp q k)) ks) e ∙ h)

one_or_rest : {K : Type 0} (cmp : K → K → Ordering) → CmpEqualImpliesEq cmp → (x q : K) (rest : List K) (P : K → Type 0) → P x → list_any (λ k. is_eq (cmp q k)) (x ∷ rest) ≡ true → (list_any (λ k. is_eq (cmp q k)) rest ≡ true) ⊎ P q
one_or_rest cmp exact x q rest P p h = elim (is_eq (cmp q x)) as (λ b. is_eq (cmp q x) ≡ b → (b || list_any (λ k. is_eq (cmp q k)) rest) ≡ true → (list_any (λ k. is_eq (cmp q k)) rest ≡ true) ⊎ P q) [
  | true ↦ λ is g. inr (subst P (sym (exact q x (equal_is (cmp q x) is))) p)
  | false ↦ λ is g. inl g
] refl h

pub left_less : {K : Type 0} (cmp : K → K → Ordering) → CmpEqualImpliesEq cmp → (all rest rest' : List K) (x : K) (P P' : K → Type 0) → Left cmp all rest P → rest ≡ x ∷ rest' → P' x → ((q : K) → P q → P' q) → Left cmp all rest' P'
left_less cmp exact all rest rest' x P P' l e p more = λ q h. elim (l q h) [
  | inl g ↦ one_or_rest cmp exact x q rest' P' p (subst (λ ks. list_any (λ k. is_eq (cmp q k)) ks ≡ true) e g)
  | inr g ↦ inr (more q g)
]

pub left_none : {K : Type 0} (cmp : K → K → Ordering) (all rest : List K) (P : K → Type 0) → Left cmp all rest P → rest ≡ [] → (q : K) → list_any (λ k. is_eq (cmp q k)) all ≡ true → P q
left_none cmp all rest P l e q h = elim (l q h) [
  | inl g ↦ let no : false ≡ true = subst (λ ks. list_any (λ k. is_eq (cmp q k)) ks ≡ true) e g in cc
  | inr g ↦ g
]

or_right : (a b : Bool) → b ≡ true → (a || b) ≡ true
or_right true b h = refl
or_right false b h = h

-- A key that passes a test is among the keys that pass.
pub any_kept : {K : Type 0} (cmp : K → K → Ordering) → CmpEqualImpliesEq cmp → (p : K → Bool) (q : K) (ks : List K) → p q ≡ true → list_any (λ k. is_eq (cmp q k)) ks ≡ true → list_any (λ k. is_eq (cmp q k)) (filter p ks) ≡ true
any_kept cmp exact p q [] t h = h
any_kept cmp exact p q (k ∷ ks) t h =
    elim (is_eq (cmp q k)) as (λ b. is_eq (cmp q k) ≡ b → (b || list_any (λ k. is_eq (cmp q k)) ks) ≡ true → list_any (λ k. is_eq (cmp q k)) (cond (p k) (k ∷ filter p ks) (filter p ks)) ≡ true) [
      | true ↦ λ is g. subst (λ b. list_any (λ k. is_eq (cmp q k)) (cond b (k ∷ filter p ks) (filter p ks)) ≡ true) (sym (ap p (sym (exact q k (equal_is (cmp q k) is))) ∙ t)) (ap (λ b. b || list_any (λ k. is_eq (cmp q k)) (filter p ks)) is)
      | false ↦ λ is g. elim (p k) as (λ b. list_any (λ k. is_eq (cmp q k)) (cond b (k ∷ filter p ks) (filter p ks)) ≡ true) [
        | true ↦ or_right (is_eq (cmp q k)) _ (any_kept cmp exact p q ks t g)
        | false ↦ any_kept cmp exact p q ks t g
      ]
    ] refl h

-- ---- a loop over a list: all elements before an index are done

pub more_done : {X : Type 0} (P P' : X → Type 0) (xs : List X) (i : ℕ) (x : X) → i < length xs → x ≡ get_or xs i x → ((y : X) → P y → P' y) → P' x → All P (take i xs) → All P' (take (i + 1) xs)
more_done P P' xs i x l is f p h = All-more P' xs i x l (All-weaker P P' f (take i xs) h) (subst P' is p)

pub all_done : {X : Type 0} (P : X → Type 0) (xs : List X) (i : ℕ) → length xs ≤ i → All P (take i xs) → All P xs
all_done P xs i l h = subst (All P) (take_all i xs l) h

-- The same with indexes, if the statement depends on the index.
pub each_more : {X : Type 0} (P P' : ℕ → X → Type 0) (xs : List X) (n : ℕ) (x : X) → n < length xs → x ≡ get_or xs n x → ((i : ℕ) (y : X) → P i y → P' i y) → P' n x → ((i : ℕ) (d : X) → i < n → P i (get_or xs i d)) → (i : ℕ) (d : X) → i < n + 1 → P' i (get_or xs i d)
each_more P P' xs n x l is f p h i d lt = elim (cases_lt i n) [
  | inl below ↦ f i (get_or xs i d) (h i d below)
  | inr above ↦
      let same : n ≡ i = omega arith in
      subst (λ (k : ℕ). P' k (get_or xs k d)) same (subst (P' n) (is ∙ get_or_default xs n x d l) p)
]

-- ---- a loop over an iterator: some elements remain and all others are done

pub record Seen {X : Type 0} (P : X → Type 0) (all left : List X) : Type 0 where
  pub seen : List X
  pub split : seen ++ left ≡ all
  pub done : All P seen

after_last : {X : Type 0} (xs : List X) (x : X) (ys : List X) → (xs ++ (x ∷ [])) ++ ys ≡ xs ++ (x ∷ ys)
after_last [] x ys = refl
after_last (z ∷ xs) x ys = ap (λ l. z ∷ l) (after_last xs x ys)

and_none : {X : Type 0} (xs : List X) → xs ++ [] ≡ xs
and_none [] = refl
and_none (x ∷ xs) = ap (λ l. x ∷ l) (and_none xs)

pub seen_none : {X : Type 0} (P : X → Type 0) (all left : List X) → left ≡ all → Seen P all left
seen_none P all left e = record { seen = []; split = e; done = λ k d l. absurd (omega arith) }

pub seen_more : {X : Type 0} (P P' : X → Type 0) (all left rest : List X) (x : X) → left ≡ x ∷ rest → ((y : X) → P y → P' y) → P' x → Seen P all left → Seen P' all rest
seen_more {X} P P' all left rest x is f p h = record {
  seen = h.seen ++ (x ∷ []);
  split = after_last h.seen x rest ∙ (ap (λ (l : List X). h.seen ++ l) (sym is) ∙ h.split);
  done = All-push P' h.seen x (All-weaker P P' f h.seen h.done) p;
}

pub seen_all : {X : Type 0} (P : X → Type 0) (all left : List X) → left ≡ [] → Seen P all left → All P all
seen_all {X} P all left none h = subst (All P) (sym (and_none h.seen) ∙ (ap (λ (l : List X). h.seen ++ l) (sym none) ∙ h.split)) h.done

-- ---- keys in a range

then_le : (a b : Ordering) → is_le a ≡ true → is_le b ≡ true → is_le (ordering_then a b) ≡ true
then_le Less b h g = refl
then_le Equal b h g = g
then_le Greater b h g = cc

not_above : (x y : ℕ) → x ≤ y → is_le (nat_cmp x y) ≡ true
not_above x y h = grind (arith, nat_tests)

above : (x y : ℕ) → y < x → nat_cmp x y ≡ Greater
above x y h = grind (arith, nat_tests)

-- A mark whose position is in a span is in the range between the ends of the span.
pub in_range : (span : Span) (q : Mark) → span.0 ≤ q.0 → q.0 < span.1 → range_contains mark_cmp (Included (span.0, 0, 0)) (Excluded (span.1, 0, 0)) q ≡ true
in_range span q low high =
    ap (λ b. b && not (is_le (mark_cmp (span.1, 0, 0) q))) (then_le (ordering_then (nat_cmp span.0 q.0) (nat_cmp 0 q.1)) (nat_cmp 0 q.2) (then_le (nat_cmp span.0 q.0) (nat_cmp 0 q.1) (not_above span.0 q.0 low) (not_above 0 q.1 (omega arith))) (not_above 0 q.2 (omega arith)))
    ∙ ap (λ r. not (is_le (ordering_then (ordering_then r (nat_cmp 0 q.1)) (nat_cmp 0 q.2)))) (above span.1 q.0 high)
