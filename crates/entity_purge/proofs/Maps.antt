-- Maps with some entries removed.
use Rattle.std.specs.Prelude.{◌≡◌, ℕ, nat_eq, ◌&&◌, ◌||◌, not, Bool, true, false, cond, T, List, [], ◌∷◌, filter, Option, Some, None, refl}
use Rattle.std.proofs.Common.{arith, sym, ap, ◌∙◌, subst}
use Rattle.std.proofs.lemmas.Option.{same_Some}
use Rattle.std.proofs.lemmas.Cmp.{tied_itself}
use Rattle.std.specs.declared.cmp.Ordering.{Ordering}
use Rattle.std.specs.declared.cmp.Ordering.TheVariants.{Less, Equal}
use Rattle.std.specs.Ordering.{eq_by_cmp, is_eq, is_lt}
use Rattle.std.specs.Cmp.{Equal-is, IsTotalOrder}
use Rattle.std.specs.List.{AllByRecursion, list_any}
use Rattle.std.specs.FinMap.{FinMap, IsAntisymmetric, entries, entries_sorted, entries-from_sorted, find, get, get-entries, get-insert, get-remove, get-from_sorted, insert, remove, same_map}
use Rattle.std.specs.FinMap.Entries.{below_all, is_sorted}
use Rattle.entity_core.proofs.Entries.{first, less, second, sorted_kept}
use Rattle.entity_purge.specs.Purge.{if_kept, kept_where}

-- ---- tests

pub apart : (b : Bool) → b ≡ true → b ≡ false → ⊥
apart true t f = cc
apart false t f = cc

pub same_tests : (b c : Bool) → (b ≡ true → c ≡ true) → (c ≡ true → b ≡ true) → b ≡ c
same_tests true c on back = sym (on refl)
same_tests false true on back = back refl
same_tests false false on back = refl

pub both_hold : (b c : Bool) → b && c ≡ true → (b ≡ true) × (c ≡ true)
both_hold true c h = (refl, h)
both_hold false c h = cc

pub turned_true : (b : Bool) → not b ≡ true → b ≡ false
turned_true true h = cc
turned_true false h = refl

pub turned_false : (b : Bool) → not b ≡ false → b ≡ true
turned_false true h = refl
turned_false false h = cc

pub and_false : (b : Bool) → b && false ≡ false
and_false true = refl
and_false false = refl

pub not_back : (b c : Bool) → (b ≡ true → c ≡ true) → not c ≡ true → not b ≡ true
not_back true c on h = absurd (apart c (on refl) (turned_true c h))
not_back false c on h = refl

pub same_number : (n : ℕ) → nat_eq n n ≡ true
same_number n = grind arith

pub same_id : (n k : ℕ) → nat_eq n k ≡ true → n ≡ k
same_id n k h = grind arith

-- ---- options

pub kept_agree : {X : Type 0} (p q : X → Bool) (o : Option X) → ((x : X) → o ≡ Some x → p x ≡ q x) → if_kept p o ≡ if_kept q o
kept_agree p q None same = refl
kept_agree p q (Some x) same = ap (λ (b : Bool). cond b (Some x) None) (same x refl)

pub kept_twice : {X : Type 0} (p q : X → Bool) (o : Option X) → ((x : X) → o ≡ Some x → p x ≡ true → q x ≡ true) → if_kept p (if_kept q o) ≡ if_kept p o
kept_twice p q None on = refl
kept_twice p q (Some x) on =
    elim (q x) as (λ b. q x ≡ b → if_kept p (cond b (Some x) None) ≡ cond (p x) (Some x) None) [
      | true ↦ λ t. refl
      | false ↦ λ t. elim (p x) as (λ b. p x ≡ b → None ≡ cond b (Some x) None) [
        | true ↦ λ s. absurd (apart (q x) (on x refl s) t)
        | false ↦ λ s. refl
      ] refl
    ] refl

pub kept_whole : {X : Type 0} (p : X → Bool) (o : Option X) → ((x : X) → o ≡ Some x → p x ≡ true) → if_kept p o ≡ o
kept_whole p None all = refl
kept_whole p (Some x) all = ap (λ (b : Bool). cond b (Some x) None) (all x refl)

-- An option that lacks at most a value that fails the test is the same after the filter.
pub kept_partly : {X : Type 0} (p : X → Bool) (n m : Option X) → ((x : X) → n ≡ Some x → m ≡ Some x) → ((x : X) → m ≡ Some x → p x ≡ true → n ≡ Some x) → if_kept p n ≡ if_kept p m
kept_partly p (Some x) m old stays = ap (if_kept p) (sym (old x refl))
kept_partly p None None old stays = refl
kept_partly p None (Some x) old stays =
    elim (p x) as (λ b. p x ≡ b → None ≡ cond b (Some x) None) [
      | true ↦ λ t. stays x refl t
      | false ↦ λ t. refl
    ] refl

-- A value that the filter retains was there and passes the test.
pub kept_was : {X : Type 0} (p : X → Bool) (o : Option X) (x : X) → if_kept p o ≡ Some x → (o ≡ Some x) × (p x ≡ true)
kept_was p None x h = cc
kept_was {X} p (Some y) x h =
    elim (p y) as (λ b. p y ≡ b → cond b (Some y) None ≡ Some x → (◌≡◌ {A = Option X} (Some y) (Some x)) × (p x ≡ true)) [
      | true ↦ λ t e. (e, ap p (sym (same_Some y x e)) ∙ t)
      | false ↦ λ t e. cc
    ] refl h

-- ---- lists of entries

pub below_found : {K X : Type 0} (R : K → K → Ordering) (k q : K) (x : X) (es : List (K × X)) → IsTotalOrder R → T (below_all R k es) → find R q es ≡ Some x → eq_by_cmp R q k ≡ true → ⊥
below_found R k q x [] o below h t = cc
below_found {X = X} R k q x (e ∷ es) o below h t =
    elim (eq_by_cmp R q e.0) as (λ b. eq_by_cmp R q e.0 ≡ b → cond b (Some e.1) (find R q es) ≡ Some x → ⊥) [
      | true ↦ λ s g.
          let one : R q k ≡ Equal = (Equal-is (R q k)).0 t in
          let two : R q e.0 ≡ Equal = (Equal-is (R q e.0)).0 s in
          let three : R k e.0 ≡ R q e.0 = sym (o.congr q k e.0 one) in
          let four : R k e.0 ≡ Less = less (R k e.0) (first _ _ below) in
          cc
      | false ↦ λ s g. below_found R k q x es o (second (is_lt (R k e.0)) _ below) g t
    ] refl h

none_below : {K X : Type 0} (R : K → K → Ordering) (k q : K) (es : List (K × X)) → IsTotalOrder R → T (below_all R k es) → eq_by_cmp R q k ≡ true → find R q es ≡ None
none_below {X = X} R k q es o below t =
    elim (find R q es) as (λ (r : Option X). find R q es ≡ r → r ≡ None) [
      | None ↦ λ h. refl
      | Some x ↦ λ h. absurd (below_found R k q x es o below h t)
    ] refl

-- An entry that passes the test is found under its key.
pub any_found : {K X : Type 0} (R : K → K → Ordering) (p : K × X → Bool) (es : List (K × X)) → IsTotalOrder R → T (is_sorted R es) → list_any p es ≡ true → (k : K) × (x : X) × (find R k es ≡ Some x) × (p (k, x) ≡ true)
any_found R p [] o rises h = cc
any_found {K} {X} R p (e ∷ es) o rises h =
    elim (p e) as (λ b. p e ≡ b → b || list_any p es ≡ true → (k : K) × (x : X) × (cond (eq_by_cmp R k e.0) (Some e.1) (find R k es) ≡ Some x) × (p (k, x) ≡ true)) [
      | true ↦ λ t g. (e.0, e.1, ap (λ (r : Ordering). cond (is_eq r) (Some e.1) (find R e.0 es)) (tied_itself o e.0), t)
      | false ↦ λ t g.
          let rest = any_found R p es o (second (below_all R e.0 es) _ rises) g in (
            rest.0,
            rest.1,
            elim (eq_by_cmp R rest.0 e.0) as (λ b. eq_by_cmp R rest.0 e.0 ≡ b → cond b (Some e.1) (find R rest.0 es) ≡ Some rest.1) [
              | true ↦ λ s. absurd (below_found R e.0 rest.0 rest.1 es o (first _ _ rises) rest.2 s)
              | false ↦ λ s. rest.2
            ] refl,
            rest.3,
          )
    ] refl h

pub found_any : {K X : Type 0} (R : K → K → Ordering) (p : K × X → Bool) (es : List (K × X)) (k : K) (x : X) → IsAntisymmetric R → find R k es ≡ Some x → p (k, x) ≡ true → list_any p es ≡ true
found_any R p [] k x same h t = cc
found_any {X = X} R p (e ∷ es) k x same h t =
    elim (eq_by_cmp R k e.0) as (λ b. eq_by_cmp R k e.0 ≡ b → cond b (Some e.1) (find R k es) ≡ Some x → p e || list_any p es ≡ true) [
      | true ↦ λ s g.
          let key : k ≡ e.0 = same k e.0 ((Equal-is (R k e.0)).0 s) in
          let value : e.1 ≡ x = same_Some e.1 x g in
          ap (λ (b : Bool). b || list_any p es) ((λ i. p (sym key i, value i)) ∙ t)
      | false ↦ λ s g. elim (p e) as (λ b. b || list_any p es ≡ true) [ true ↦ refl | false ↦ found_any R p es k x same g t ]
    ] refl h

find_filter : {K X : Type 0} (R : K → K → Ordering) (p : K × X → Bool) (q : K) (es : List (K × X)) → IsTotalOrder R → IsAntisymmetric R → T (is_sorted R es) → find R q (filter p es) ≡ if_kept (λ x. p (q, x)) (find R q es)
find_filter R p q [] o same rises = refl
find_filter {X = X} R p q (e ∷ es) o same rises =
    let rest = find_filter R p q es o same (second (below_all R e.0 es) _ rises) in
    elim (eq_by_cmp R q e.0) as (λ b. eq_by_cmp R q e.0 ≡ b → find R q (cond (p e) (e ∷ filter p es) (filter p es)) ≡ if_kept (λ x. p (q, x)) (cond b (Some e.1) (find R q es))) [
      | true ↦ λ t.
          let key : q ≡ e.0 = same q e.0 ((Equal-is (R q e.0)).0 t) in
          let gone : find R q es ≡ None = none_below R e.0 q es o (first _ _ rises) t in
          elim (p e) as (λ b. p e ≡ b → find R q (cond b (e ∷ filter p es) (filter p es)) ≡ cond (p (q, e.1)) (Some e.1) None) [
            | true ↦ λ s. ap (λ (b : Bool). cond b (Some e.1) (find R q (filter p es))) t ∙ ap (λ (b : Bool). cond b (Some e.1) None) (sym (ap (λ (k : _). p (k, e.1)) key ∙ s))
            | false ↦ λ s. rest ∙ (ap (if_kept (λ x. p (q, x))) gone ∙ ap (λ (b : Bool). cond b (Some e.1) None) (sym (ap (λ (k : _). p (k, e.1)) key ∙ s)))
          ] refl
      | false ↦ λ t. elim (p e) as (λ b. find R q (cond b (e ∷ filter p es) (filter p es)) ≡ if_kept (λ x. p (q, x)) (find R q es)) [
        | true ↦ ap (λ (b : Bool). cond b (Some e.1) (find R q (filter p es))) t ∙ rest
        | false ↦ rest
      ]
    ] refl

still_found : {K X : Type 0} (R : K → K → Ordering) (e : K × X) (es fs : List (K × X)) → IsTotalOrder R → T (below_all R e.0 es) → AllByRecursion (λ f. find R f.0 es ≡ Some f.1) fs → AllByRecursion (λ f. find R f.0 (e ∷ es) ≡ Some f.1) fs
still_found R e es [] o below all = tt
still_found R e es (f ∷ fs) o below all = (
  elim (eq_by_cmp R f.0 e.0) as (λ b. eq_by_cmp R f.0 e.0 ≡ b → cond b (Some e.1) (find R f.0 es) ≡ Some f.1) [
    | true ↦ λ t. absurd (below_found R e.0 f.0 f.1 es o below all.0 t)
    | false ↦ λ t. all.0
  ] refl,
  still_found R e es fs o below all.1,
)

-- Each entry is found under its key.
all_found : {K X : Type 0} (R : K → K → Ordering) (es : List (K × X)) → IsTotalOrder R → T (is_sorted R es) → AllByRecursion (λ e. find R e.0 es ≡ Some e.1) es
all_found R [] o rises = tt
all_found R (e ∷ es) o rises = (
  ap (λ (r : Ordering). cond (is_eq r) (Some e.1) (find R e.0 es)) (tied_itself o e.0),
  still_found R e es es o (first _ _ rises) (all_found R es o (second (below_all R e.0 es) _ rises)),
)

all_got : {K X : Type 0} {R : K → K → Ordering} (m : FinMap R X) (es : List (K × X)) → AllByRecursion (λ e. find R e.0 (entries m) ≡ Some e.1) es → AllByRecursion (λ e. get m e.0 ≡ Some e.1) es
all_got m [] all = tt
all_got m (e ∷ es) all = (get-entries m e.0 ∙ all.0, all_got m es all.1)

pub each_found : {K X : Type 0} {R : K → K → Ordering} → IsTotalOrder R → (m : FinMap R X) → AllByRecursion (λ e. get m e.0 ≡ Some e.1) (entries m)
each_found {R = R} o m = all_got m (entries m) (all_found R (entries m) o (entries_sorted m))

at_found : {K X : Type 0} (R : K → K → Ordering) (P : K × X → Type 0) (es : List (K × X)) (k : K) (x : X) → IsAntisymmetric R → find R k es ≡ Some x → AllByRecursion P es → P (k, x)
at_found R P [] k x same h all = cc
at_found {K} {X} R P (e ∷ es) k x same h all =
    elim (eq_by_cmp R k e.0) as (λ b. eq_by_cmp R k e.0 ≡ b → cond b (Some e.1) (find R k es) ≡ Some x → P (k, x)) [
      | true ↦ λ t g.
          let key : k ≡ e.0 = same k e.0 ((Equal-is (R k e.0)).0 t) in
          let value : e.1 ≡ x = same_Some e.1 x g in
          subst (λ (q : K × X). P q) (λ i. (sym key i, value i)) all.0
      | false ↦ λ t g. at_found R P es k x same g all.1
    ] refl h

-- What holds for each entry holds for the entry found under a key.
pub all_at : {K X : Type 0} {R : K → K → Ordering} → IsAntisymmetric R → (P : K × X → Type 0) (m : FinMap R X) (k : K) (x : X) → get m k ≡ Some x → AllByRecursion P (entries m) → P (k, x)
all_at {R = R} same P m k x h all = at_found R P (entries m) k x same (sym (get-entries m k) ∙ h) all

-- ---- maps

module _ {K X : Type 0} {R : K → K → Ordering} (o : IsTotalOrder R) (same : IsAntisymmetric R) where
  pub entries_kept : (p : K × X → Bool) (m : FinMap R X) → entries (kept_where p m) ≡ filter p (entries m)
  unfolding kept_where
  entries_kept p m = entries-from_sorted R (filter p (entries m)) (sorted_kept R p (entries m) (entries_sorted m))

  pub get_kept : (p : K × X → Bool) (m : FinMap R X) (q : K) → get (kept_where p m) q ≡ if_kept (λ x. p (q, x)) (get m q)
  unfolding kept_where
  get_kept p m q =
      get-from_sorted R (filter p (entries m)) q (sorted_kept R p (entries m) (entries_sorted m))
      ∙ (find_filter R p q (entries m) o same (entries_sorted m) ∙ ap (if_kept (λ x. p (q, x))) (sym (get-entries m q)))

  pub maps_agree : (p q : K × X → Bool) (m : FinMap R X) → ((k : K) (x : X) → get m k ≡ Some x → p (k, x) ≡ q (k, x)) → kept_where p m ≡ kept_where q m
  maps_agree p q m agree = same_map o same (kept_where p m) (kept_where q m) (λ k.
      get_kept p m k ∙ (kept_agree (λ x. p (k, x)) (λ x. q (k, x)) (get m k) (λ x h. agree k x h) ∙ sym (get_kept q m k)))

  -- A map that lacks only entries that fail the test is the same after the filter.
  pub maps_partly : (p : K × X → Bool) (n m : FinMap R X) → ((k : K) (x : X) → get n k ≡ Some x → get m k ≡ Some x) → ((k : K) (x : X) → get m k ≡ Some x → p (k, x) ≡ true → get n k ≡ Some x) → kept_where p n ≡ kept_where p m
  maps_partly p n m old stays = same_map o same (kept_where p n) (kept_where p m) (λ k.
      get_kept p n k ∙ (kept_partly (λ x. p (k, x)) (get n k) (get m k) (old k) (stays k) ∙ sym (get_kept p m k)))

  -- If the first test implies the second, filtering by the second first does not matter.
  pub maps_twice : (p q : K × X → Bool) (m : FinMap R X) → ((k : K) (x : X) → get m k ≡ Some x → p (k, x) ≡ true → q (k, x) ≡ true) → kept_where p (kept_where q m) ≡ kept_where p m
  maps_twice p q m on = same_map o same (kept_where p (kept_where q m)) (kept_where p m) (λ k.
      get_kept p (kept_where q m) k ∙ (ap (if_kept (λ x. p (k, x))) (get_kept q m k) ∙ (kept_twice (λ x. p (k, x)) (λ x. q (k, x)) (get m k) (λ x h. on k x h) ∙ sym (get_kept p m k))))

  -- If the first test implies the second, filtering the map first does not change the filtered
  -- entries.
  pub filter_twice : (p q : K × X → Bool) (m : FinMap R X) → ((k : K) (x : X) → get m k ≡ Some x → p (k, x) ≡ true → q (k, x) ≡ true) → filter p (entries (kept_where q m)) ≡ filter p (entries m)
  filter_twice p q m on = sym (entries_kept p (kept_where q m)) ∙ (ap entries (maps_twice p q m on) ∙ entries_kept p m)

  pub some_got : (p : K × X → Bool) (m : FinMap R X) → list_any p (entries m) ≡ true → (k : K) × (x : X) × (get m k ≡ Some x) × (p (k, x) ≡ true)
  some_got p m h = let found = any_found R p (entries m) o (entries_sorted m) h in (found.0, found.1, get-entries m found.0 ∙ found.2, found.3)

  pub got_some : (p : K × X → Bool) (m : FinMap R X) (k : K) (x : X) → get m k ≡ Some x → p (k, x) ≡ true → list_any p (entries m) ≡ true
  got_some p m k x h t = found_any R p (entries m) k x same (sym (get-entries m k) ∙ h) t

  inserted_kept : (p q : K × X → Bool) (m : FinMap R X) (k : K) (v : X) (j : K) (b : Bool) → ((x : X) → get m j ≡ Some x → p (j, x) ≡ true → q (j, x) ≡ true)
      → if_kept (λ x. p (j, x)) (cond b (Some v) (if_kept (λ x. q (j, x)) (get m j))) ≡ if_kept (λ x. p (j, x)) (cond b (Some v) (get m j))
  inserted_kept p q m k v j true on = refl
  inserted_kept p q m k v j false on = kept_twice (λ x. p (j, x)) (λ x. q (j, x)) (get m j) on

  -- The same holds after an insertion.
  pub insert_twice : (p q : K × X → Bool) (m : FinMap R X) (k : K) (v : X) → ((j : K) (x : X) → get m j ≡ Some x → p (j, x) ≡ true → q (j, x) ≡ true) → kept_where p (insert (kept_where q m) k v) ≡ kept_where p (insert m k v)
  insert_twice p q m k v on = same_map o same (kept_where p (insert (kept_where q m) k v)) (kept_where p (insert m k v)) (λ j.
      get_kept p (insert (kept_where q m) k v) j
      ∙ (ap (if_kept (λ x. p (j, x))) (get-insert o (kept_where q m) k v j ∙ ap (cond (eq_by_cmp R j k) (Some v)) (get_kept q m j))
      ∙ (inserted_kept p q m k v j (eq_by_cmp R j k) (on j)
      ∙ (ap (if_kept (λ x. p (j, x))) (sym (get-insert o m k v j)) ∙ sym (get_kept p (insert m k v) j)))))

  removed_kept : (p q : K × X → Bool) (m : FinMap R X) (j : K) (b : Bool) → ((x : X) → get m j ≡ Some x → p (j, x) ≡ true → q (j, x) ≡ true)
      → if_kept (λ x. p (j, x)) (cond b None (if_kept (λ x. q (j, x)) (get m j))) ≡ if_kept (λ x. p (j, x)) (cond b None (get m j))
  removed_kept p q m j true on = refl
  removed_kept p q m j false on = kept_twice (λ x. p (j, x)) (λ x. q (j, x)) (get m j) on

  -- The same holds after a removal.
  pub remove_twice : (p q : K × X → Bool) (m : FinMap R X) (k : K) → ((j : K) (x : X) → get m j ≡ Some x → p (j, x) ≡ true → q (j, x) ≡ true) → kept_where p (remove (kept_where q m) k) ≡ kept_where p (remove m k)
  remove_twice p q m k on = same_map o same (kept_where p (remove (kept_where q m) k)) (kept_where p (remove m k)) (λ j.
      get_kept p (remove (kept_where q m) k) j
      ∙ (ap (if_kept (λ x. p (j, x))) (get-remove o (kept_where q m) k j ∙ ap (cond (eq_by_cmp R j k) None) (get_kept q m j))
      ∙ (removed_kept p q m j (eq_by_cmp R j k) (on j)
      ∙ (ap (if_kept (λ x. p (j, x))) (sym (get-remove o m k j)) ∙ sym (get_kept p (remove m k) j)))))

  insert_passes : (p : K × X → Bool) (m : FinMap R X) (k : K) (v : X) (j : K) (b : Bool) → (b ≡ true → p (j, v) ≡ true) → if_kept (λ x. p (j, x)) (cond b (Some v) (get m j)) ≡ cond b (Some v) (if_kept (λ x. p (j, x)) (get m j))
  insert_passes p m k v j true passes = ap (λ (b : Bool). cond b (Some v) None) (passes refl)
  insert_passes p m k v j false passes = refl

  -- An entry that passes can be inserted before or after filtering.
  pub kept_insert : (p : K × X → Bool) (m : FinMap R X) (k : K) (v : X) → p (k, v) ≡ true → insert (kept_where p m) k v ≡ kept_where p (insert m k v)
  kept_insert p m k v h = same_map o same (insert (kept_where p m) k v) (kept_where p (insert m k v)) (λ j.
      get-insert o (kept_where p m) k v j
      ∙ (ap (cond (eq_by_cmp R j k) (Some v)) (get_kept p m j)
      ∙ (sym (insert_passes p m k v j (eq_by_cmp R j k) (λ t. ap (λ (i : K). p (i, v)) (same j k ((Equal-is (R j k)).0 t)) ∙ h))
      ∙ (ap (if_kept (λ x. p (j, x))) (sym (get-insert o m k v j)) ∙ sym (get_kept p (insert m k v) j)))))

  remove_passes : (p : X → Bool) (b : Bool) (x : Option X) → cond b None (if_kept p x) ≡ if_kept p (cond b None x)
  remove_passes p true x = refl
  remove_passes p false x = refl

  pub kept_remove : (p : K × X → Bool) (m : FinMap R X) (k : K) → remove (kept_where p m) k ≡ kept_where p (remove m k)
  kept_remove p m k = same_map o same (remove (kept_where p m) k) (kept_where p (remove m k)) (λ j.
      get-remove o (kept_where p m) k j
      ∙ (ap (cond (eq_by_cmp R j k) None) (get_kept p m j)
      ∙ (remove_passes (λ x. p (j, x)) (eq_by_cmp R j k) (get m j)
      ∙ (ap (if_kept (λ x. p (j, x))) (sym (get-remove o m k j)) ∙ sym (get_kept p (remove m k) j)))))

  less_kept : (p : X → Bool) (b : Bool) (x : Option X) → (b ≡ true → (y : X) → x ≡ Some y → p y ≡ false) → if_kept p (cond b None x) ≡ if_kept p x
  less_kept p true None gone = refl
  less_kept p true (Some y) gone = ap (λ (b : Bool). cond b (Some y) None) (sym (gone refl y refl))
  less_kept p false x gone = refl

  -- An entry that does not pass can be removed before filtering.
  pub kept_less : (p : K × X → Bool) (m : FinMap R X) (k : K) → ((x : X) → get m k ≡ Some x → p (k, x) ≡ false) → kept_where p (remove m k) ≡ kept_where p m
  kept_less p m k gone = same_map o same (kept_where p (remove m k)) (kept_where p m) (λ j.
      get_kept p (remove m k) j
      ∙ (ap (if_kept (λ x. p (j, x))) (get-remove o m k j)
      ∙ (less_kept (λ x. p (j, x)) (eq_by_cmp R j k) (get m j) (λ t y h.
      let key : j ≡ k = same j k ((Equal-is (R j k)).0 t) in
      ap (λ (i : K). p (i, y)) key ∙ gone y (ap (get m) (sym key) ∙ h))
      ∙ sym (get_kept p m j))))

  pub kept_all : (p : K × X → Bool) (m : FinMap R X) → ((k : K) (x : X) → get m k ≡ Some x → p (k, x) ≡ true) → kept_where p m ≡ m
  kept_all p m all = same_map o same (kept_where p m) m (λ k. get_kept p m k ∙ kept_whole (λ x. p (k, x)) (get m k) (λ x h. all k x h))
