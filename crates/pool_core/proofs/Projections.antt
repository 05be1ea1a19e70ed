-- Lemmas: the events at one instance, and what is read off them.
use Rattle.std.proofs.Common.{◌≡◌, ◌==◌, ℕ, Bool, true, false, List, [], ◌∷◌, ◌++◌, refl, sym, ap, ◌∙◌, arith, eq-eqb}
use Rattle.std.specs.Prelude.{Contains, if◌then◌else◌}
use Rattle.std.proofs.lemmas.List.Concat.{flat_map-append}
use Rattle.pool_core.specs.Events.{Batch, InstanceEvent, Offers, PoolEvent, batch_in, batches_offered, entries_given, entry_in, events_at}
use Rattle.pool_core.proofs.Lists.{contains_at, contains_same, contains_split, heads, tails}

-- An event at an instance.
abbrev pub event_of : (i : ℕ) → InstanceEvent → PoolEvent
event_of i e = record { instance = i; event = e }

pub same_number : (i : ℕ) → (i == i) ≡ true
same_number i = eq-eqb i i refl

-- ---- events at an instance

abbrev pub at_one : ℕ → PoolEvent → List InstanceEvent
at_one i e = if i == e.instance then e.event ∷ [] else []

pub at_append : (i : ℕ) (xs ys : List PoolEvent) → events_at i (xs ++ ys) ≡ events_at i xs ++ events_at i ys
at_append i xs ys = flat_map-append (at_one i) xs ys

pub at_own : (i : ℕ) (e : InstanceEvent) (es : List PoolEvent) → events_at i (event_of i e ∷ es) ≡ e ∷ events_at i es
at_own i e es = ap (λ b. (if b then e ∷ [] else []) ++ events_at i es) (same_number i)

-- The events at an instance before and after one of them.
pub at_split : (i : ℕ) (e : InstanceEvent) (p q : List PoolEvent) → events_at i (p ++ event_of i e ∷ q) ≡ events_at i p ++ e ∷ events_at i q
at_split i e p q = at_append i p (event_of i e ∷ q) ∙ ap (λ v. events_at i p ++ v) (at_own i e q)

-- A split of the events at an instance comes from a split of all events.
pub record Lifts (i : ℕ) (events : List PoolEvent) (p : List InstanceEvent) (e : InstanceEvent) (q : List InstanceEvent) : Type 0 where
  pub before : List PoolEvent
  pub after : List PoolEvent
  pub split : events ≡ before ++ event_of i e ∷ after
  pub befores : events_at i before ≡ p
  pub afters : events_at i after ≡ q

lift_other : (i : ℕ) (x : PoolEvent) (xs : List PoolEvent) (p : List InstanceEvent) (e : InstanceEvent) (q : List InstanceEvent) → at_one i x ≡ [] → Lifts i xs p e q → Lifts i (x ∷ xs) p e q
lift_other i x xs p e q none l = record {
  before = x ∷ l.before;
  after = l.after;
  split = ap (λ v. x ∷ v) l.split;
  befores = ap (λ v. v ++ events_at i l.before) none ∙ l.befores;
  afters = l.afters;
}

pub same_from_test : (i : ℕ) (x : PoolEvent) → (i == x.instance) ≡ true → x ≡ event_of i x.event
same_from_test i x h = let e : i ≡ x.instance = grind (arith, h) in ap (λ v. event_of v x.event) (sym e)

lift_case : (i : ℕ) (x : PoolEvent) (xs : List PoolEvent) (p : List InstanceEvent) (e : InstanceEvent) (q : List InstanceEvent)
    → ((p' : List InstanceEvent) → events_at i xs ≡ p' ++ e ∷ q → Lifts i xs p' e q)
    → (b : Bool) → (i == x.instance) ≡ b → (if b then x.event ∷ [] else []) ++ events_at i xs ≡ p ++ e ∷ q → Lifts i (x ∷ xs) p e q
lift_case i x xs p e q rest false is h = lift_other i x xs p e q (ap (λ b. if b then x.event ∷ [] else []) is) (rest p h)
lift_case i x xs [] e q rest true is h = record {
  before = [];
  after = xs;
  split = ap (λ v. v ∷ xs) (same_from_test i x is ∙ ap (λ v. event_of i v) (heads x.event e (events_at i xs) q h));
  befores = refl;
  afters = tails x.event e (events_at i xs) q h;
}
lift_case i x xs (y ∷ p) e q rest true is h =
    let l = rest p (tails x.event y (events_at i xs) (p ++ e ∷ q) h) in
    record {
      before = x ∷ l.before;
      after = l.after;
      split = ap (λ v. x ∷ v) l.split;
      befores = ap (λ b. (if b then x.event ∷ [] else []) ++ events_at i l.before) is ∙ ap (λ v. x.event ∷ v) l.befores ∙ ap (λ v. v ∷ p) (heads x.event y (events_at i xs) (p ++ e ∷ q) h);
      afters = l.afters;
    }

pub lift : (i : ℕ) (events : List PoolEvent) (p : List InstanceEvent) (e : InstanceEvent) (q : List InstanceEvent) → events_at i events ≡ p ++ e ∷ q → Lifts i events p e q
lift i [] [] e q h = absurd cc
lift i [] (y ∷ p) e q h = absurd cc
lift i (x ∷ xs) p e q h = lift_case i x xs p e q (λ p' k. lift i xs p' e q k) (i == x.instance) refl h

-- Two events at an instance.
pub record LiftsTwo (i : ℕ) (events : List PoolEvent) (p : List InstanceEvent) (d e : InstanceEvent) : Type 0 where
  pub before : List PoolEvent
  pub between : List PoolEvent
  pub after : List PoolEvent
  pub split : events ≡ before ++ event_of i d ∷ (between ++ event_of i e ∷ after)
  pub befores : events_at i before ≡ p

lift_second : (i : ℕ) (events : List PoolEvent) (p : List InstanceEvent) (d : InstanceEvent) (q : List InstanceEvent) (e : InstanceEvent) (r : List InstanceEvent) → (l : Lifts i events p d (q ++ e ∷ r)) → Lifts i l.after q e r
    → LiftsTwo i events p d e
lift_second i events p d q e r l m = record {
  before = l.before;
  between = m.before;
  after = m.after;
  split = l.split ∙ ap (λ v. l.before ++ event_of i d ∷ v) m.split;
  befores = l.befores;
}

pub lift_two : (i : ℕ) (events : List PoolEvent) (p : List InstanceEvent) (d : InstanceEvent) (q : List InstanceEvent) (e : InstanceEvent) (r : List InstanceEvent) → events_at i events ≡ p ++ d ∷ (q ++ e ∷ r) → LiftsTwo i events p d e
lift_two i events p d q e r h = let l = lift i events p d (q ++ e ∷ r) h in lift_second i events p d q e r l (lift i l.after q e r l.afters)

-- An event is among those at its instance.
pub at_contains : (i : ℕ) (e : InstanceEvent) (events : List PoolEvent) → Contains events (event_of i e) → Contains (events_at i events) e
at_contains i e events h =
    let s = contains_split events (event_of i e) h in
    contains_same (events_at i events) (events_at i s.front ++ e ∷ events_at i s.back) e (ap (λ v. events_at i v) s.split ∙ at_split i e s.front s.back) (contains_at (events_at i s.front) e (events_at i s.back))

pub contains_from_at : (i : ℕ) (e : InstanceEvent) (events : List PoolEvent) → Contains (events_at i events) e → Contains events (event_of i e)
contains_from_at i e events h =
    let s = contains_split (events_at i events) e h in
    let l = lift i events s.front e s.back s.split in
    contains_same events (l.before ++ event_of i e ∷ l.after) (event_of i e) l.split (contains_at l.before (event_of i e) l.after)

-- ---- what is read off

pub given_append : (xs ys : List InstanceEvent) → entries_given (xs ++ ys) ≡ entries_given xs ++ entries_given ys
given_append xs ys = flat_map-append entry_in xs ys

pub offered_append : (i : ℕ) (xs ys : List InstanceEvent) → batches_offered i (xs ++ ys) ≡ batches_offered i xs ++ batches_offered i ys
offered_append i xs ys = flat_map-append (batch_in i) xs ys

-- A batch among those that were offered is of an offer.
pub record OffersAt (i : ℕ) (events : List InstanceEvent) (p : List Batch) (b : Batch) : Type 0 where
  pub before : List InstanceEvent
  pub after : List InstanceEvent
  pub split : events ≡ before ++ Offers b.ids b.bytes ∷ after
  pub befores : batches_offered i before ≡ p
  pub writer : b.writer ≡ i

offer_other : (i : ℕ) (x : InstanceEvent) (xs : List InstanceEvent) (p : List Batch) (b : Batch) → batch_in i x ≡ [] → OffersAt i xs p b → OffersAt i (x ∷ xs) p b
offer_other i x xs p b none o = record {
  before = x ∷ o.before;
  after = o.after;
  split = ap (λ v. x ∷ v) o.split;
  befores = ap (λ v. v ++ batches_offered i o.before) none ∙ o.befores;
  writer = o.writer;
}

pub offer_at : (i : ℕ) (events : List InstanceEvent) (p : List Batch) (b : Batch) (q : List Batch) → batches_offered i events ≡ p ++ b ∷ q → OffersAt i events p b
offer_at i [] [] b q h = absurd cc
offer_at i [] (y ∷ p) b q h = absurd cc
offer_at i (Offers ids bytes ∷ es) [] b q h =
    let e = heads (record { writer = i; ids = ids; bytes = bytes }) b (batches_offered i es) q h in
    record {
      before = [];
      after = es;
      split = ap (λ (v : Batch). Offers v.ids v.bytes ∷ es) e;
      befores = refl;
      writer = sym (ap (λ (v : Batch). v.writer) e);
    }
offer_at i (Offers ids bytes ∷ es) (y ∷ p) b q h =
    let first = heads (record { writer = i; ids = ids; bytes = bytes }) y (batches_offered i es) (p ++ b ∷ q) h in
    let o = offer_at i es p b q (tails (record { writer = i; ids = ids; bytes = bytes }) y (batches_offered i es) (p ++ b ∷ q) h) in
    record {
      before = Offers ids bytes ∷ o.before;
      after = o.after;
      split = ap (λ v. Offers ids bytes ∷ v) o.split;
      befores = ap (λ v. v ∷ batches_offered i o.before) first ∙ ap (λ v. y ∷ v) o.befores;
      writer = o.writer;
    }
offer_at i (x ∷ es) p b q h = offer_other i x es p b refl (offer_at i es p b q h)
