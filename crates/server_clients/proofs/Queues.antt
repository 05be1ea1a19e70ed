-- Lemmas: the clients that wait in a queue, and the class that is next.
use Rattle.std.proofs.Common.{◌≡◌, ℕ, ◌+◌, ◌<◌, ◌≤◌, ◌++◌, ◌∷◌, [], List, length, Bool, true, false, Some, refl, sym, subst, ◌∙◌, cond, slice_set, arith, inl, inr}
use Rattle.std.specs.List.{Contains, slice_get}
use Rattle.std.proofs.Math.Nat.{eq-or-lt_of_le}
use Rattle.std.proofs.lemmas.List.{get_or-set_same, length-set}
use Rattle.std.proofs.lemmas.List.Elements.{Contains-append_right}
use Rattle.std.proofs.lemmas.Option.{slice_get_read, slice_get_within}
use Rattle.server_clients.specs.FairQueue.{IsNext, IsPicked, may_be_next, waiting_in}
use Rattle.server_clients.specs.declared.fair_queue.FairQueue.{FairQueue}
use Rattle.server_clients.specs.declared.fair_queue.UssClass.{UssClass}

-- A client that was pushed to the second queue waits.
pub contains_pushed : (first ended ended' : List ℕ) (key : ℕ) (ok told : Bool) → ended' ≡ cond ok (ended ++ key ∷ []) ended → told ≡ ok → told ≡ true → Contains (first ++ ended') key
contains_pushed first ended ended' key true told e same h =
    subst (λ (v : List ℕ). Contains (first ++ v) key) (sym e) (Contains-append_right first (ended ++ key ∷ []) key (Contains-append_right ended (key ∷ []) key (0, omega arith, refl)))
contains_pushed first ended ended' key false told e same h = absurd (let is : false ≡ true = sym same ∙ h in cc)

-- The element that is set at a place is there.
pub got_set : {X : Type 0} (xs : List X) (i : ℕ) (x : X) → i < length xs → slice_get (slice_set xs i x) i ≡ Some x
got_set xs i x lt = slice_get_read (slice_set xs i x) (length xs) i x (sym (length-set xs i x)) lt (sym (get_or-set_same xs i x x lt))

-- ---- the class that is next

-- Holds if no class before that index that may be next has a smaller virtual time.
abbrev pub IsLeastOf : FairQueue → ℕ → ℕ → Type 0
IsLeastOf queue count least = (other : ℕ) (rival : UssClass) → other < count → slice_get queue.classes.items other ≡ Some rival
    → may_be_next queue.memory queue.unsent queue.share rival ≡ true → least ≤ rival.virtual_time

-- Holds if the class with that index may be next, and has that virtual time.
abbrev pub IsFound : FairQueue → ℕ → ℕ → Type 0
IsFound queue least index = (class : UssClass) × (slice_get queue.classes.items index ≡ Some class)
    × (may_be_next queue.memory queue.unsent queue.share class ≡ true) × (least ≡ class.virtual_time)

same_class : (queue : FairQueue) (index : ℕ) (class rival : UssClass) → slice_get queue.classes.items index ≡ Some class → slice_get queue.classes.items index ≡ Some rival → rival ≡ class
same_class queue index class rival e f = let one : slice_get queue.classes.items index ≡ Some class = e in let two : slice_get queue.classes.items index ≡ Some rival = f in cc

-- The class at the index has a smaller virtual time.
pub least_taken : (queue : FairQueue) (index least : ℕ) (class : UssClass) → IsLeastOf queue index least → slice_get queue.classes.items index ≡ Some class
    → class.virtual_time < least → IsLeastOf queue (index + 1) class.virtual_time
least_taken queue index least class h at lt other rival below there may =
    let within : other ≤ index = omega (arith, below) in
    elim (eq-or-lt_of_le {n = other} {m = index} within) [
      | inr before ↦ (let old = h other rival before there may in omega (arith, old, lt))
      | inl same ↦
          let is : rival ≡ class = same_class queue index class rival at (subst (λ (i : ℕ). slice_get queue.classes.items i ≡ Some rival) same there) in
          subst (λ (c : UssClass). class.virtual_time ≤ c.virtual_time) (sym is) (omega arith)
    ]

-- The class at the index has none, or may not be next.
pub least_kept : (queue : FairQueue) (index least : ℕ) (class : UssClass) → IsLeastOf queue index least → slice_get queue.classes.items index ≡ Some class
    → (may_be_next queue.memory queue.unsent queue.share class ≡ true → least ≤ class.virtual_time) → IsLeastOf queue (index + 1) least
least_kept queue index least class h at other_wise other rival below there may =
    let within : other ≤ index = omega (arith, below) in
    elim (eq-or-lt_of_le {n = other} {m = index} within) [
      | inr before ↦ h other rival before there may
      | inl same ↦
          let is : rival ≡ class = same_class queue index class rival at (subst (λ (i : ℕ). slice_get queue.classes.items i ≡ Some rival) same there) in
          subst (λ (c : UssClass). least ≤ c.virtual_time) (sym is) (other_wise (subst (λ (c : UssClass). may_be_next queue.memory queue.unsent queue.share c ≡ true) is may))
    ]

-- All classes were looked at.
pub next_is : (queue : FairQueue) (least index : ℕ) → IsLeastOf queue (length queue.classes.items) least → IsFound queue least index → IsNext queue index
next_is queue least index h (class, at, may, is) = (
  class,
  at,
  may,
  λ other rival there ready. (let old = h other rival (slice_get_within queue.classes.items other rival there) there ready in omega (arith, old, is)),
)

-- A client that waits in the next class may be picked.
pub picked_next : (queue : FairQueue) (index key : ℕ) (class : UssClass) → IsNext queue index → slice_get queue.classes.items index ≡ Some class → Contains (waiting_in class) key → IsPicked queue index key
picked_next queue index key class (next, at, may, least) there waits = (
  next,
  at,
  may,
  least,
  subst (λ (c : UssClass). Contains (waiting_in c) key) (same_class queue index next class at there) waits,
)
