-- What is in lists of events.
use Rattle.std.proofs.Common.{◌≡◌, ◌∙◌, ◌==◌, ◌⊎◌, ℕ, Bool, true, false, List, [], ◌∷◌, ◌++◌, length, map, Option, Some, None, if◌then◌else◌, inl, inr, refl, sym, ap, subst}
use Rattle.std.specs.Prelude.{Contains}
use Rattle.std.proofs.lemmas.Bool.{eqb-true}
use Rattle.std.proofs.lemmas.List.{append_assoc, map-append}
use Rattle.std.proofs.lemmas.List.Concat.{flat_map-append}
use Rattle.server_clients.specs.ServerEvents.{ServerEvent}
use Rattle.pool_core.specs.Events.{InstanceEvent, PoolEvent}
use Rattle.pool_core.proofs.Lists.{contains_at, contains_get, contains_none, contains_same, contains_split, fits_or_more, get_back, get_from_split, get_front}
use Rattle.pool_backend.specs.Served.{events_in}
use Rattle.pool_laws.specs.Steps.{Step, events_of_step, parts_at, parts_in, pool_events}

module _ {X : Type 0} where
  pub contains_first : (xs ys : List X) (x : X) → Contains xs x → Contains (xs ++ ys) x
  contains_first xs ys x h =
      let s = contains_split xs x h in
      contains_same (xs ++ ys) (s.front ++ x ∷ (s.back ++ ys)) x (ap (λ (v : List X). v ++ ys) s.split ∙ append_assoc s.front (x ∷ s.back) ys) (contains_at s.front x (s.back ++ ys))

  pub contains_last : (xs ys : List X) (x : X) → Contains ys x → Contains (xs ++ ys) x
  contains_last xs ys x h =
      let s = contains_split ys x h in
      contains_same (xs ++ ys) ((xs ++ s.front) ++ x ∷ s.back) x (ap (λ (v : List X). xs ++ v) s.split ∙ sym (append_assoc xs s.front (x ∷ s.back))) (contains_at (xs ++ s.front) x s.back)

  pub contains_either : (xs ys : List X) (x : X) → Contains (xs ++ ys) x → Contains xs x ⊎ Contains ys x
  contains_either xs ys x h =
      let s = contains_split (xs ++ ys) x h in
      let there = get_from_split (xs ++ ys) h.0 x s in
      elim (fits_or_more (length xs) h.0) [
        | inl le ↦ inr (contains_get ys _ x (get_back xs ys h.0 x there le))
        | inr lt ↦ inl (contains_get xs h.0 x (get_front xs ys h.0 x there lt))
      ]

contains_map : {X Y : Type 0} (f : X → Y) (xs : List X) (x : X) → Contains xs x → Contains (map f xs) (f x)
contains_map f xs x h =
    let s = contains_split xs x h in
    contains_same (map f xs) (map f s.front ++ f x ∷ map f s.back) (f x) (ap (map f) s.split ∙ map-append f s.front (x ∷ s.back)) (contains_at (map f s.front) (f x) (map f s.back))

abbrev pub event_of : (i : ℕ) → InstanceEvent → PoolEvent
event_of i event = record { instance = i; event = event }

pub events_append : (xs ys : List (List InstanceEvent)) → events_in (xs ++ ys) ≡ events_in xs ++ events_in ys
events_append [] ys = refl
events_append (x ∷ xs) ys = ap (λ (v : List InstanceEvent). x ++ v) (events_append xs ys) ∙ sym (append_assoc x (events_in xs) (events_in ys))

in_event : (i : ℕ) (event : Option ServerEvent) (parts : List (List InstanceEvent)) (e : InstanceEvent) → Contains (events_in (parts_in event parts)) e → Contains (map (event_of i) (events_in parts)) (event_of i e)
in_event i None parts e h = contains_none e h
in_event i (Some event) parts e h = contains_map (event_of i) (events_in parts) e h

in_one : (i : ℕ) (step : Step) (e : InstanceEvent) (same : Bool) → (i == step.instance) ≡ same → Contains (events_in (if same then parts_in step.event step.parts else [])) e → Contains (events_of_step step) (event_of i e)
in_one i step e true is h =
    let name : i ≡ step.instance = eqb-true i step.instance is in
    subst (λ (n : ℕ). Contains (events_of_step step) (event_of n e)) (sym name) (in_event step.instance step.event step.parts e h)
in_one i step e false is h = contains_none e h

-- What an instance did while it served is among the events of the pool.
pub in_steps : (i : ℕ) (e : InstanceEvent) (steps : List Step) → Contains (events_in (parts_at i steps)) e → Contains (pool_events steps) (event_of i e)
in_steps i e [] h = contains_none e h
in_steps i e (step ∷ steps) h =
    let here = if i == step.instance then parts_in step.event step.parts else [] in
    elim (contains_either (events_in here) (events_in (parts_at i steps)) e (subst (λ (v : List InstanceEvent). Contains v e) (events_append here (parts_at i steps)) h)) [
      | inl one ↦ contains_first (events_of_step step) (pool_events steps) (event_of i e) (in_one i step e (i == step.instance) refl one)
      | inr more ↦ contains_last (events_of_step step) (pool_events steps) (event_of i e) (in_steps i e steps more)
    ]

pub pool_append : (first more : List Step) → pool_events (first ++ more) ≡ pool_events first ++ pool_events more
pool_append first more = flat_map-append events_of_step first more
