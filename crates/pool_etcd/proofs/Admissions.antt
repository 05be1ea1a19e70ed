-- Lemmas: the entries that supplier lists admit, and the other ones.
use Rattle.std.proofs.Common.{◌≡◌, ℕ, ◌<◌, zero, suc, List, [], ◌∷◌, ◌++◌, length, Bool, true, false, cond, ◌||◌, ◌⊎◌, inl, inr, refl, sym, ◌∙◌, ap, subst, append_assoc, arith}
use Rattle.std.proofs.lemmas.List.Elements.{Contains-append_cases, Contains-append_right, All-contains}
use Rattle.std.proofs.lemmas.List.Folds.{Any-from_list_any, list_any-append, list_any_at}
use Rattle.std.proofs.lemmas.List.Sums.{AllPass-from_list_all}
use Rattle.std.proofs.lemmas.Bool.{both_ways, eq-eqb, eqb-true}
use Rattle.std.specs.List.{list_all}
use Rattle.std.specs.Prelude.{Contains}
use Rattle.pool_entry.specs.Suppliers.{CallersAreSuppliers, suppliers_in}
use Rattle.pool_etcd.specs.declared.following.Following.{Following}
use Rattle.pool_etcd.specs.declared.log_value.LogEntry.{LogEntry}
use Rattle.pool_etcd.specs.declared.log_value.LogValue.{LogValue}
use Rattle.pool_etcd.specs.declared.log_value.LogValue.TheVariants.{Entry, Link, Fence, Suppliers, Other}
use Rattle.pool_etcd.specs.Admitted.{AdmittedCallsAreAssigned, StandsUnder, WithoutListAllAreAdmitted, entries_in, list_after, refused_in}
use Rattle.pool_etcd.specs.Following.{HasRefusal}
use Rattle.pool_etcd.specs.LineLinks.{has_writer}
use Rattle.pool_etcd.specs.Suppliers.{admits, is_admitted}

-- ---- the lists of values in two parts

-- The list after all values is the one after the last ones.
pub list_of_both : (list : List ℕ) (vs ws : List LogValue) → list_after list (vs ++ ws) ≡ list_after (list_after list vs) ws
list_of_both list [] ws = refl
list_of_both list (Entry e ∷ vs) ws = list_of_both list vs ws
list_of_both list (Link l ∷ vs) ws = list_of_both list vs ws
list_of_both list (Fence n ∷ vs) ws = list_of_both list vs ws
list_of_both list (Suppliers next ∷ vs) ws = list_of_both next vs ws
list_of_both list (Other ∷ vs) ws = list_of_both list vs ws

behind : (xs ys ys' zs : List LogEntry) → ys ≡ ys' ++ zs → xs ++ ys ≡ (xs ++ ys') ++ zs
behind xs ys ys' zs e = ap (λ (es : List LogEntry). xs ++ es) e ∙ sym (append_assoc xs ys' zs)

-- The entries among all values are those among the first ones, and those among the others.
pub entries_of_both : (list : List ℕ) (vs ws : List LogValue) → entries_in list (vs ++ ws) ≡ entries_in list vs ++ entries_in (list_after list vs) ws
entries_of_both list [] ws = refl
entries_of_both list (Entry e ∷ vs) ws = behind _ _ (entries_in list vs) _ (entries_of_both list vs ws)
entries_of_both list (Link l ∷ vs) ws = entries_of_both list vs ws
entries_of_both list (Fence n ∷ vs) ws = entries_of_both list vs ws
entries_of_both list (Suppliers next ∷ vs) ws = entries_of_both next vs ws
entries_of_both list (Other ∷ vs) ws = entries_of_both list vs ws

pub refused_of_both : (list : List ℕ) (vs ws : List LogValue) → refused_in list (vs ++ ws) ≡ refused_in list vs ++ refused_in (list_after list vs) ws
refused_of_both list [] ws = refl
refused_of_both list (Entry e ∷ vs) ws = behind _ _ (refused_in list vs) _ (refused_of_both list vs ws)
refused_of_both list (Link l ∷ vs) ws = refused_of_both list vs ws
refused_of_both list (Fence n ∷ vs) ws = refused_of_both list vs ws
refused_of_both list (Suppliers next ∷ vs) ws = refused_of_both next vs ws
refused_of_both list (Other ∷ vs) ws = refused_of_both list vs ws

pub has_writer_of_both : (writer : ℕ) (list : List ℕ) (vs ws : List LogValue)
    → has_writer writer (refused_in list (vs ++ ws)) ≡ (has_writer writer (refused_in list vs) || has_writer writer (refused_in (list_after list vs) ws))
has_writer_of_both writer list vs ws =
    ap (has_writer writer) (refused_of_both list vs ws) ∙ list_any-append _ (refused_in list vs) (refused_in (list_after list vs) ws)

-- ---- one entry

pub entry_kept : (list : List ℕ) (e : LogEntry) → is_admitted list e ≡ true → (entries_in list (Entry e ∷ []) ≡ e ∷ []) × (refused_in list (Entry e ∷ []) ≡ [])
entry_kept list e is = (
  ap (λ (b : Bool). cond b (e ∷ []) [] ++ []) is,
  ap (λ (b : Bool). cond b [] (e ∷ []) ++ []) is,
)

pub entry_refused : (list : List ℕ) (e : LogEntry) → is_admitted list e ≡ false → (entries_in list (Entry e ∷ []) ≡ []) × (refused_in list (Entry e ∷ []) ≡ e ∷ [])
entry_refused list e is = (
  ap (λ (b : Bool). cond b (e ∷ []) [] ++ []) is,
  ap (λ (b : Bool). cond b [] (e ∷ []) ++ []) is,
)

-- ---- entries of the own process

-- An entry of the writer is found, or none is.
pub own_of : (writer : ℕ) (entries : List LogEntry) → has_writer writer entries ≡ true → (e : LogEntry) × Contains entries e × (e.writer ≡ writer)
own_of writer entries is =
    let any = Any-from_list_any _ entries is in
    (any.1, (any.0, any.2, any.3), eqb-true _ _ any.4)

pub no_own : (writer : ℕ) (entries : List LogEntry) → has_writer writer entries ≡ false → ((e : LogEntry) × Contains entries e × (e.writer ≡ writer)) → ⊥
no_own writer entries is found =
    let e = found.0 in
    let place = found.1 in
    let own = subst (λ (x : LogEntry). x.writer ≡ writer) (sym place.2) found.2 in
    both_ways _ is (list_any_at _ entries place.0 e place.1 (eq-eqb _ _ own))

pub refusal_of : (f : Following) (values : List LogValue) → has_writer f.writer (refused_in f.suppliers values) ≡ true → HasRefusal f values
refusal_of f values is = own_of f.writer (refused_in f.suppliers values) is

pub no_refusal : (f : Following) (values : List LogValue) → has_writer f.writer (refused_in f.suppliers values) ≡ false → HasRefusal f values → ⊥
no_refusal f values is refusal = no_own f.writer (refused_in f.suppliers values) is refusal

-- ---- laws

passes : (p : List ℕ → Bool) (xs : List (List ℕ)) (x : List ℕ) → list_all p xs ≡ true → Contains xs x → p x ≡ true
passes p xs x all among = All-contains (λ (y : List ℕ). p y ≡ true) xs x (AllPass-from_list_all p xs all) among

-- Holds if an entry stands among the values under a list that admits it.
abbrev StandsAdmitted : List ℕ → List LogValue → LogEntry → Type 0
StandsAdmitted list values e = (current : List ℕ) × StandsUnder list values e current × (is_admitted current e ≡ true)

-- One more value before those in which the entry stands.
one_before : (list next : List ℕ) (v : LogValue) (vs : List LogValue) (e : LogEntry) → ((before : List LogValue) → list_after list (v ∷ before) ≡ list_after next before)
    → StandsAdmitted next vs e
    → StandsAdmitted list (v ∷ vs) e
one_before list next v vs e leads found =
    let place = found.1 in (
      found.0,
      record {
        before = v ∷ place.before;
        after = place.after;
        split = ap (λ (us : List LogValue). v ∷ us) place.split;
        last = place.last ∙ sym (leads place.before);
      },
      found.2,
    )

none_in_nil : (e : LogEntry) → Contains [] e → ⊥
none_in_nil e among = let low : among.0 < 0 = among.1 in omega arith

one_in : (f e : LogEntry) → Contains (f ∷ []) e → f ≡ e
one_in f e (zero, low, is) = is
one_in f e (suc k, low, is) = let h : ⊥ = omega (arith, low) in absurd h

first_admitted : (list : List ℕ) (f e : LogEntry) (vs : List LogValue) (b : Bool) → is_admitted list f ≡ b → Contains (cond b (f ∷ []) []) e
    → StandsAdmitted list (Entry f ∷ vs) e
first_admitted list f e vs true is among =
    let same = one_in f e among in
    subst
    (λ (x : LogEntry). StandsAdmitted list (Entry f ∷ vs) x)
    same
    (list, record { before = []; after = vs; split = refl; last = refl }, is)
first_admitted list f e vs false is among = absurd (none_in_nil e among)

first_or_later : (list : List ℕ) (f : LogEntry) (vs : List LogValue) (e : LogEntry) → (Contains (entries_in list vs) e → StandsAdmitted list vs e)
    → Contains (cond (is_admitted list f) (f ∷ []) []) e ⊎ Contains (entries_in list vs) e → StandsAdmitted list (Entry f ∷ vs) e
first_or_later list f vs e stands (inl here) = first_admitted list f e vs (is_admitted list f) refl here
first_or_later list f vs e stands (inr later) = one_before list list (Entry f) vs e (λ before. refl) (stands later)

-- An entry that is given stands under a list that admits it.
stands_admitted : (list : List ℕ) (values : List LogValue) (e : LogEntry) → Contains (entries_in list values) e → StandsAdmitted list values e
stands_admitted list [] e among = absurd (none_in_nil e among)
stands_admitted list (Entry f ∷ vs) e among = first_or_later list f vs e (stands_admitted list vs e) (Contains-append_cases _ (entries_in list vs) e among)
stands_admitted list (Link l ∷ vs) e among = one_before list list (Link l) vs e (λ before. refl) (stands_admitted list vs e among)
stands_admitted list (Fence n ∷ vs) e among = one_before list list (Fence n) vs e (λ before. refl) (stands_admitted list vs e among)
stands_admitted list (Suppliers next ∷ vs) e among = one_before list next (Suppliers next) vs e (λ before. refl) (stands_admitted next vs e among)
stands_admitted list (Other ∷ vs) e among = one_before list list Other vs e (λ before. refl) (stands_admitted list vs e among)

pub admitted_calls_are_assigned : CallersAreSuppliers → AdmittedCallsAreAssigned
admitted_calls_are_assigned callers list values e among =
    let found = stands_admitted list values e among in (
      found.0,
      found.1,
      λ timed makes.
          let caller = callers e.bytes timed makes in
          (caller.0, caller.1, passes (admits found.0 e.key) (suppliers_in e.bytes) caller.0.uss found.2 caller.2),
    )

-- The empty list admits every USS.
all_admitted : (key : List ℕ) (usss : List (List ℕ)) → list_all (admits [] key) usss ≡ true
all_admitted key [] = refl
all_admitted key (uss ∷ usss) = all_admitted key usss

empty_admits : (e : LogEntry) → is_admitted [] e ≡ true
empty_admits e = all_admitted e.key (suppliers_in e.bytes)

pub without_bytes : (list : List ℕ) (e : LogEntry) → length list ≡ 0 → is_admitted list e ≡ true
without_bytes [] e none = empty_admits e
without_bytes (b ∷ list) e none = let h : ⊥ = omega (arith, none) in absurd h

rest_has_none : (v : LogValue) (vs : List LogValue) → ((list : List ℕ) → Contains (v ∷ vs) (Suppliers list) → ⊥) → (list : List ℕ) → Contains vs (Suppliers list) → ⊥
rest_has_none v vs none list among = none list (Contains-append_right (v ∷ []) vs (Suppliers list) among)

pub without_list_all_are_admitted : WithoutListAllAreAdmitted
without_list_all_are_admitted [] none = refl
without_list_all_are_admitted (Entry e ∷ vs) none =
    ap (λ (b : Bool). cond b (e ∷ []) [] ++ entries_in [] vs) (empty_admits e)
    ∙ ap (λ (es : List LogEntry). e ∷ es) (without_list_all_are_admitted vs (rest_has_none (Entry e) vs none))
without_list_all_are_admitted (Link l ∷ vs) none = without_list_all_are_admitted vs (rest_has_none (Link l) vs none)
without_list_all_are_admitted (Fence n ∷ vs) none = without_list_all_are_admitted vs (rest_has_none (Fence n) vs none)
without_list_all_are_admitted (Suppliers list ∷ vs) none = let low : 0 < length (Suppliers list ∷ vs) = omega arith in absurd (none list (0, low, refl))
without_list_all_are_admitted (Other ∷ vs) none = without_list_all_are_admitted vs (rest_has_none Other vs none)
