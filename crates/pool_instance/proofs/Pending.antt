-- Lemmas: the requests that wait, after one more event.
use Rattle.std.proofs.Common.{◌≡◌, ℕ, suc, ◌+◌, ◌<◌, ◌≤◌, ◌⊎◌, List, [], ◌∷◌, ◌++◌, map, Option, Some, None, refl, sym, ap, subst, ◌∙◌, arith, inl, inr}
use Rattle.std.specs.Prelude.{Contains}
use Rattle.std.specs.List.{flat_map}
use Rattle.std.proofs.lemmas.List.Concat.{flat_map-append}
use Rattle.std.proofs.lemmas.List.Elements.{All-contains, Contains-append_cases, Contains-append_left, Contains-append_right, Contains-push, Contains-push_cases}
use Rattle.policy_core.specs.declared.call.Call.{Call}
use Rattle.pool_core.specs.Events.{InstanceEvent, Receives}
use Rattle.pool_core.specs.Serves.{IsOpen, ended_in, ids_ended, ids_offered, offered_in, times}
use Rattle.pool_core.proofs.Lists.{contains_head, contains_none, contains_split}
use Rattle.pool_instance.specs.Parts.{ids_of, number_of, unsent_ids}
use Rattle.pool_instance.specs.Request.{call_of}
use Rattle.pool_instance.specs.State.{AreRequests, IsAtStage, IsHeld, IsWaiting}
use Rattle.pool_instance.specs.declared.waiting.Held.{Held}
use Rattle.pool_instance.specs.declared.waiting.Reading.{Reading}
use Rattle.pool_instance.specs.declared.waiting.Stage.{Stage}
use Rattle.pool_instance.specs.declared.waiting.Stage.TheVariants.{Fresh}
use Rattle.pool_instance.proofs.Steps.{IsNoReceipt, ended_more, held_more, offered_more, open_before, open_more, received_before, stage_more}
use Rattle.pool_instance.proofs.Times.{all_from_contains, contains_times, image_in, image_of, same_or_none, some_or_none, times_append, times_contains, times_one}

abbrev pub id_of_reading : Reading → ℕ
id_of_reading r = r.held.id

abbrev pub id_of_held : Held → ℕ
id_of_held h = h.id

-- ---- the numbers of requests

pub slot_number : (slots : List (Option ℕ)) (id : ℕ) → Contains slots (Some id) → Contains (flat_map number_of slots) id
slot_number slots id h =
    let s = contains_split slots (Some id) h in
    let all : flat_map number_of slots ≡ flat_map number_of s.front ++ id ∷ flat_map number_of s.back = ap (λ v. flat_map number_of v) s.split ∙ flat_map-append number_of s.front (Some id ∷ s.back) in
    subst (λ v. Contains v id) (sym all) (Contains-append_right (flat_map number_of s.front) (id ∷ flat_map number_of s.back) id (contains_head id (flat_map number_of s.back)))

number_here : (k : ℕ) (slots : List (Option ℕ)) (id : ℕ) → (id ≡ k) ⊎ (times id (k ∷ []) ≡ 0) → Contains (k ∷ []) id → Contains (Some k ∷ slots) (Some id)
number_here k slots id (inl e) h = subst (λ v. Contains (Some v ∷ slots) (Some id)) e (contains_head (Some id) slots)
number_here k slots id (inr none) h = absurd (omega (arith, none, contains_times id (k ∷ []) h))

number_case : (slot : Option ℕ) (slots : List (Option ℕ)) (id : ℕ) → (Contains (flat_map number_of slots) id → Contains slots (Some id)) → Contains (number_of slot ++ flat_map number_of slots) id → Contains (slot ∷ slots) (Some id)
number_case None slots id rest h = Contains-append_right (None ∷ []) slots (Some id) (rest h)
number_case (Some k) slots id rest h = elim (Contains-append_cases (k ∷ []) (flat_map number_of slots) id h) [
  | inl here ↦ number_here k slots id (same_or_none id k) here
  | inr there ↦ Contains-append_right (Some k ∷ []) slots (Some id) (rest there)
]

pub number_slot : (slots : List (Option ℕ)) (id : ℕ) → Contains (flat_map number_of slots) id → Contains slots (Some id)
number_slot [] id h = contains_none id h
number_slot (slot ∷ slots) id h = number_case slot slots id (λ k. number_slot slots id k) h

pub reading_id : (rs : List Reading) (hs : List Held) (slots : List (Option ℕ)) (r : Reading) → Contains rs r → 1 ≤ times r.held.id (ids_of rs hs slots)
reading_id rs hs slots r h =
    contains_times r.held.id (ids_of rs hs slots) (Contains-append_left (unsent_ids rs hs) (flat_map number_of slots) r.held.id
    (Contains-append_left (map id_of_reading rs) (map id_of_held hs) r.held.id (image_in id_of_reading rs r h)))

pub held_id : (rs : List Reading) (hs : List Held) (slots : List (Option ℕ)) (x : Held) → Contains hs x → 1 ≤ times x.id (ids_of rs hs slots)
held_id rs hs slots x h =
    contains_times x.id (ids_of rs hs slots) (Contains-append_left (unsent_ids rs hs) (flat_map number_of slots) x.id
    (Contains-append_right (map id_of_reading rs) (map id_of_held hs) x.id (image_in id_of_held hs x h)))

pub sent_id : (rs : List Reading) (hs : List Held) (slots : List (Option ℕ)) (id : ℕ) → Contains slots (Some id) → 1 ≤ times id (ids_of rs hs slots)
sent_id rs hs slots id h =
    contains_times id (ids_of rs hs slots) (Contains-append_right (unsent_ids rs hs) (flat_map number_of slots) id (slot_number slots id h))

pub ids_times : (k : ℕ) (rs : List Reading) (hs : List Held) (slots : List (Option ℕ)) → times k (ids_of rs hs slots) ≡ times k (map id_of_reading rs) + times k (map id_of_held hs) + times k (flat_map number_of slots)
ids_times k rs hs slots = times_append k (unsent_ids rs hs) (flat_map number_of slots) ∙ ap (λ v. v + times k (flat_map number_of slots)) (times_append k (map id_of_reading rs) (map id_of_held hs))

-- ---- requests that wait

module _ (events : List InstanceEvent) (rs : List Reading) (hs : List Held) (slots : List (Option ℕ)) (n : ℕ) (all : AreRequests events rs hs slots n) where
  pub waiting_at : (r : Reading) → Contains rs r → IsWaiting events r
  waiting_at r h = All-contains (IsWaiting events) rs r all.readings h

  pub held_at : (x : Held) → Contains hs x → IsHeld events x
  held_at x h = All-contains (IsHeld events) hs x all.unsent h

  open_contained : (id : ℕ) → Contains (ids_of rs hs slots) id → (call : Call) × IsOpen events id call
  open_contained id h = elim (Contains-append_cases (unsent_ids rs hs) (flat_map number_of slots) id h) [
    | inl l ↦ elim (Contains-append_cases (map id_of_reading rs) (map id_of_held hs) id l) [
      | inl r ↦ let o = image_of id_of_reading rs id r in (call_of o.one.held.request, subst (λ v. IsOpen events v (call_of o.one.held.request)) o.same (waiting_at o.one o.there).held.opens)
      | inr u ↦ let o = image_of id_of_held hs id u in (call_of o.one.request, subst (λ v. IsOpen events v (call_of o.one.request)) o.same (held_at o.one o.there).opens)
    ]
    | inr s ↦ all.sent id (number_slot slots id s)
  ]

  pub open_of : (id : ℕ) → 1 ≤ times id (ids_of rs hs slots) → (call : Call) × IsOpen events id call
  open_of id some = open_contained id (times_contains id (ids_of rs hs slots) some)

  pub below : (id : ℕ) → 1 ≤ times id (ids_of rs hs slots) → id < n
  below id some = let o = open_of id some in all.numbered id o.0 o.1.received

  -- The next number is that of no request, and of no event.
  pub none_next : times n (ids_of rs hs slots) ≡ 0
  none_next = elim (some_or_none (times n (ids_of rs hs slots))) [
    | inl some ↦ absurd (omega (arith, below n some))
    | inr none ↦ none
  ]

  pub none_ended : times n (ids_ended events) ≡ 0
  none_ended = elim (some_or_none (times n (ids_ended events))) [
    | inl some ↦ absurd (omega (arith, all.ended_below n some))
    | inr none ↦ none
  ]

  pub none_offered : times n (ids_offered events) ≡ 0
  none_offered = elim (some_or_none (times n (ids_offered events))) [
    | inl some ↦ absurd (omega (arith, all.offered_below n some))
    | inr none ↦ none
  ]

  pub none_received : (call : Call) → Contains events (Receives n call) → ⊥
  none_received call h = absurd (omega (arith, all.numbered n call h))

  -- ---- an event that ends or offers some

  module _ (e : InstanceEvent) (no : IsNoReceipt e) (rs' : List Reading) (hs' : List Held) (slots' : List (Option ℕ))
      (from_readings : (r : Reading) → Contains rs' r → (s : Reading) × Contains rs s × (r.held ≡ s.held) × (IsWaiting events s → IsAtStage (events ++ e ∷ []) s.held.id (call_of s.held.request) r.stage))
      (from_held : (h : Held) → Contains hs' h → Contains hs h)
      (ids : (k : ℕ) → times k (ids_of rs' hs' slots') + times k (ended_in e) ≡ times k (ids_of rs hs slots))
      (unoffered : (k : ℕ) → 1 ≤ times k (unsent_ids rs' hs') → times k (offered_in e) ≡ 0)
      (offered : (k : ℕ) → times k (ids_offered events) + times k (offered_in e) ≤ 1)
      (offered_from : (k : ℕ) → 1 ≤ times k (offered_in e) → 1 ≤ times k (ids_of rs hs slots)) where
    unended : (k : ℕ) → 1 ≤ times k (ids_of rs' hs' slots') → times k (ended_in e) ≡ 0
    unended k some = omega (arith, some, ids k, all.apart k)

    before : (k : ℕ) → 1 ≤ times k (ids_of rs' hs' slots') → 1 ≤ times k (ids_of rs hs slots)
    before k some = omega (arith, some, ids k)

    unsent_some : (k : ℕ) → 1 ≤ times k (unsent_ids rs' hs') → 1 ≤ times k (ids_of rs' hs' slots')
    unsent_some k some = omega (arith, some, times_append k (unsent_ids rs' hs') (flat_map number_of slots'))

    held_then : (h : Held) → IsHeld events h → 1 ≤ times h.id (unsent_ids rs' hs') → IsHeld (events ++ e ∷ []) h
    held_then h is some = held_more events e h is (unended h.id (unsent_some h.id some)) (unoffered h.id some)

    reading_unsent : (r : Reading) → Contains rs' r → 1 ≤ times r.held.id (unsent_ids rs' hs')
    reading_unsent r h = contains_times r.held.id (unsent_ids rs' hs') (Contains-append_left (map id_of_reading rs') (map id_of_held hs') r.held.id (image_in id_of_reading rs' r h))

    held_unsent : (x : Held) → Contains hs' x → 1 ≤ times x.id (unsent_ids rs' hs')
    held_unsent x h = contains_times x.id (unsent_ids rs' hs') (Contains-append_right (map id_of_reading rs') (map id_of_held hs') x.id (image_in id_of_held hs' x h))

    waits_then : (r : Reading) → Contains rs' r → IsWaiting (events ++ e ∷ []) r
    waits_then r h =
        let f = from_readings r h in
        let s = f.0 in
        let w = waiting_at s f.1 in
        let old : IsHeld events r.held = subst (λ (v : Held). IsHeld events v) (sym f.2) w.held in
        record {
          held = held_then r.held old (reading_unsent r h);
          stage = subst (λ (v : Held). IsAtStage (events ++ e ∷ []) v.id (call_of v.request) r.stage) (sym f.2) (f.3 w);
        }

    sent_then : (id : ℕ) → Contains slots' (Some id) → (call : Call) × IsOpen (events ++ e ∷ []) id call
    sent_then id h =
        let some = sent_id rs' hs' slots' id h in
        let o = open_of id (before id some) in
        (o.0, open_more events e id o.0 o.1 (unended id some))

    kept_then : (id : ℕ) (call : Call) → IsOpen (events ++ e ∷ []) id call → Contains (ids_of rs' hs' slots') id
    kept_then id call h =
        let old = contains_times id (ids_of rs hs slots) (all.kept id call (open_before events e id call no h)) in
        times_contains id (ids_of rs' hs' slots') (omega (arith, old, ids id, ended_more id events e, h.unended))

    ended_then : (id : ℕ) → 1 ≤ times id (ids_ended (events ++ e ∷ [])) → id < n
    ended_then id some = elim (some_or_none (times id (ended_in e))) [
      | inl now ↦ below id (omega (arith, now, ids id))
      | inr none ↦ all.ended_below id (omega (arith, some, none, ended_more id events e))
    ]

    offered_then : (id : ℕ) → 1 ≤ times id (ids_offered (events ++ e ∷ [])) → id < n
    offered_then id some = elim (some_or_none (times id (offered_in e))) [
      | inl now ↦ below id (offered_from id now)
      | inr none ↦ all.offered_below id (omega (arith, some, none, offered_more id events e))
    ]

    pub requests_then : AreRequests (events ++ e ∷ []) rs' hs' slots' n
    requests_then = record {
      readings = all_from_contains (IsWaiting (events ++ e ∷ [])) rs' waits_then;
      unsent = all_from_contains (IsHeld (events ++ e ∷ [])) hs' (λ x h. held_then x (held_at x (from_held x h)) (held_unsent x h));
      sent = sent_then;
      kept = kept_then;
      apart = λ id. omega (arith, ids id, all.apart id);
      offered = λ id. omega (arith, offered id, offered_more id events e);
      numbered = λ id call h. all.numbered id call (received_before events e id call no h);
      ended_below = ended_then;
      offered_below = offered_then;
    }

  -- ---- a request that is received

  -- Holds if a request that waits is the one that is received.
  pub record IsNext (call : Call) (h : Held) : Type 0 where
    pub id : h.id ≡ n
    pub asks : call_of h.request ≡ call

  module _ (call : Call) (rs' : List Reading) (hs' : List Held) (slots' : List (Option ℕ))
      (from_readings : (r : Reading) → Contains rs' r → Contains rs r ⊎ (IsNext call r.held × (r.stage ≡ Fresh)))
      (from_held : (h : Held) → Contains hs' h → Contains hs h ⊎ IsNext call h)
      (ids : (k : ℕ) → times k (ids_of rs' hs' slots') ≡ times k (ids_of rs hs slots) + times k (n ∷ [])) where
    abbrev after : List InstanceEvent
    after = events ++ Receives n call ∷ []

    next_open : IsOpen after n call
    next_open = record {
      received = Contains-push events (Receives n call);
      unended = omega (arith, ended_more n events (Receives n call), none_ended);
    }

    next_held : (h : Held) → IsNext call h → IsHeld after h
    next_held h is = record {
      opens = subst (λ (v : ℕ). IsOpen after v (call_of h.request)) (sym is.id) (subst (λ (v : Call). IsOpen after n v) (sym is.asks) next_open);
      unoffered = ap (λ v. times v (ids_offered after)) is.id ∙ omega (arith, offered_more n events (Receives n call), none_offered);
    }

    old_held : (h : Held) → IsHeld events h → IsHeld after h
    old_held h is = held_more events (Receives n call) h is refl refl

    old_waiting : (r : Reading) → IsWaiting events r → IsWaiting after r
    old_waiting r w = record {
      held = old_held r.held w.held;
      stage = stage_more events (Receives n call ∷ []) r.held.id (call_of r.held.request) r.stage w.stage;
    }

    waits_now : (r : Reading) → Contains rs' r → IsWaiting after r
    waits_now r h = elim (from_readings r h) [
      | inl old ↦ old_waiting r (waiting_at r old)
      | inr new ↦ record {
        held = next_held r.held new.0;
        stage = subst (λ (s : Stage). IsAtStage after r.held.id (call_of r.held.request) s) (sym new.1) tt;
      }
    ]

    held_now : (x : Held) → Contains hs' x → IsHeld after x
    held_now x h = elim (from_held x h) [
      | inl old ↦ old_held x (held_at x old)
      | inr new ↦ next_held x new
    ]

    open_now : (id : ℕ) → (id ≡ n) ⊎ (times id (n ∷ []) ≡ 0) → 1 ≤ times id (ids_of rs' hs' slots') → (c : Call) × IsOpen after id c
    open_now id (inl e) some = (call, subst (λ (v : ℕ). IsOpen after v call) (sym e) next_open)
    open_now id (inr none) some =
        let o = open_of id (omega (arith, some, none, ids id)) in
        (o.0, open_more events (Receives n call) id o.0 o.1 refl)

    receipt_same : (id : ℕ) (c : Call) → Receives n call ≡ Receives id c → id ≡ n
    receipt_same id c h = cc

    kept_now : (id : ℕ) (c : Call) → IsOpen after id c → Contains (ids_of rs' hs' slots') id
    kept_now id c h = elim (Contains-push_cases events (Receives n call) (Receives id c) h.received) [
      | inl old ↦
          let is : IsOpen events id c = record { received = old; unended = omega (arith, h.unended, ended_more id events (Receives n call)) } in
          times_contains id (ids_of rs' hs' slots') (omega (arith, contains_times id (ids_of rs hs slots) (all.kept id c is), ids id))
      | inr same ↦
          let e = receipt_same id c same in
          subst (λ (v : ℕ). Contains (ids_of rs' hs' slots') v) (sym e) (times_contains n (ids_of rs' hs' slots') (omega (arith, ids n, times_one n)))
    ]

    apart_case : (id : ℕ) → (id ≡ n) ⊎ (times id (n ∷ []) ≡ 0) → times id (ids_of rs' hs' slots') ≤ 1
    apart_case id (inl e) = subst (λ (v : ℕ). times v (ids_of rs' hs' slots') ≤ 1) (sym e) (omega (arith, ids n, times_one n, none_next))
    apart_case id (inr none) = omega (arith, ids id, none, all.apart id)

    numbered_now : (id : ℕ) (c : Call) → Contains after (Receives id c) → id < suc n
    numbered_now id c h = elim (Contains-push_cases events (Receives n call) (Receives id c) h) [
      | inl old ↦ omega (arith, all.numbered id c old)
      | inr same ↦ omega (arith, receipt_same id c same)
    ]

    pub requests_next : AreRequests after rs' hs' slots' (suc n)
    requests_next = record {
      readings = all_from_contains (IsWaiting after) rs' waits_now;
      unsent = all_from_contains (IsHeld after) hs' held_now;
      sent = λ id h. open_now id (same_or_none id n) (sent_id rs' hs' slots' id h);
      kept = kept_now;
      apart = λ id. apart_case id (same_or_none id n);
      offered = λ id. omega (arith, all.offered id, offered_more id events (Receives n call));
      numbered = numbered_now;
      ended_below = λ id some. omega (arith, all.ended_below id (omega (arith, some, ended_more id events (Receives n call))));
      offered_below = λ id some. omega (arith, all.offered_below id (omega (arith, some, offered_more id events (Receives n call))));
    }
