-- Lemmas: a request that ends, a question, its answer, and a batch.
use Rattle.std.proofs.Common.{◌≡◌, ◌==◌, ℕ, suc, ◌+◌, ◌≤◌, Bool, true, false, List, [], ◌∷◌, ◌++◌, map, Option, Some, None, refl, sym, ap, subst, ◌∙◌, arith, inl, inr}
use Rattle.std.specs.Prelude.{All, Contains, if◌then◌else◌}
use Rattle.std.specs.List.{flat_map}
use Rattle.std.proofs.lemmas.List.{map-append}
use Rattle.std.proofs.lemmas.List.Concat.{flat_map-append}
use Rattle.std.proofs.lemmas.List.Elements.{All-contains, Contains-append_cases, Contains-append_left, Contains-append_right}
use Rattle.policy_core.specs.declared.call.Call.{Call}
use Rattle.pool_core.specs.Acts.{Makes}
use Rattle.pool_core.specs.Events.{AsksForEnd, InstanceEvent, LearnsEnd, Offers}
use Rattle.pool_core.specs.Serves.{AreOpen, IsOpen, ended_in, ids_offered, offered_in, times}
use Rattle.pool_core.proofs.Lists.{contains_at, contains_head, contains_same}
use Rattle.pool_core.proofs.Projections.{same_number}
use Rattle.pool_instance.specs.Lists.{asked, told}
use Rattle.pool_instance.specs.Parts.{ids_of, is_number, is_unasked, number_of, stage_after, unsent_ids}
use Rattle.pool_instance.specs.Request.{call_of}
use Rattle.pool_instance.specs.State.{AreRequests, IsAtStage, IsHeld, IsWaiting}
use Rattle.pool_instance.specs.declared.waiting.Held.{Held}
use Rattle.pool_instance.specs.declared.waiting.Reading.{Reading}
use Rattle.pool_instance.specs.declared.waiting.Stage.{Stage}
use Rattle.pool_instance.specs.declared.waiting.Stage.TheVariants.{Asked, Fresh, Until}
use Rattle.pool_instance.proofs.Pending.{held_at, number_slot, id_of_held, id_of_reading, ids_times, requests_then}
use Rattle.pool_instance.proofs.Steps.{IsNoReceipt, asks_for, learns_for, stage_more}
use Rattle.pool_instance.proofs.Times.{both, image_in, contains_rest, image_of, some_or_none, times_append, times_cons, times_contains, times_rest}

same_ids : (f : Reading → Reading) → ((r : Reading) → (f r).held ≡ r.held) → (rs : List Reading) → map id_of_reading (map f rs) ≡ map id_of_reading rs
same_ids f keeps [] = refl
same_ids f keeps (r ∷ rs) = ap (λ (v : Held). v.id ∷ map id_of_reading (map f rs)) (keeps r) ∙ ap (λ v. r.held.id ∷ v) (same_ids f keeps rs)

-- ---- one request ends

module _ (events : List InstanceEvent) (e : InstanceEvent) (no : IsNoReceipt e) (none : offered_in e ≡ []) where
  none_of : (k : ℕ) → times k (offered_in e) ≡ 0
  none_of k = ap (λ v. times k v) none

  same_reading : (rs : List Reading) (r : Reading) → Contains rs r → (s : Reading) × Contains rs s × (r.held ≡ s.held) × (IsWaiting events s → IsAtStage (events ++ e ∷ []) s.held.id (call_of s.held.request) r.stage)
  same_reading rs r h = (r, h, refl, λ w. stage_more events (e ∷ []) r.held.id (call_of r.held.request) r.stage w.stage)

  pub reading_ends : (front : List Reading) (r : Reading) (back : List Reading) (hs : List Held) (slots : List (Option ℕ)) (n : ℕ) → AreRequests events (front ++ r ∷ back) hs slots n → ended_in e ≡ r.held.id ∷ []
      → AreRequests (events ++ e ∷ []) (front ++ back) hs slots n
  reading_ends front r back hs slots n all ends =
      requests_then events (front ++ r ∷ back) hs slots n all e no (front ++ back) hs slots
      (λ x h. same_reading (front ++ r ∷ back) x (contains_rest front r back x h))
      (λ x h. h)
      (λ k. omega (arith, ids_times k (front ++ back) hs slots, ids_times k (front ++ r ∷ back) hs slots, times_rest k id_of_reading front r back, ap (λ v. times k v) ends))
      (λ k some. none_of k)
      (λ k. omega (arith, all.offered k, none_of k))
      (λ k some. absurd (omega (arith, some, none_of k)))

  pub change_ends : (rs : List Reading) (front : List Held) (x : Held) (back : List Held) (slots : List (Option ℕ)) (n : ℕ) → AreRequests events rs (front ++ x ∷ back) slots n → ended_in e ≡ x.id ∷ []
      → AreRequests (events ++ e ∷ []) rs (front ++ back) slots n
  change_ends rs front x back slots n all ends =
      requests_then events rs (front ++ x ∷ back) slots n all e no rs (front ++ back) slots
      (λ r h. same_reading rs r h)
      (λ y h. contains_rest front x back y h)
      (λ k. omega (arith, ids_times k rs (front ++ back) slots, ids_times k rs (front ++ x ∷ back) slots, times_rest k id_of_held front x back, ap (λ v. times k v) ends))
      (λ k some. none_of k)
      (λ k. omega (arith, all.offered k, none_of k))
      (λ k some. absurd (omega (arith, some, none_of k)))

  slot_less : (k : ℕ) (front : List (Option ℕ)) (id : ℕ) (back : List (Option ℕ)) → times k (flat_map number_of (front ++ None ∷ back)) + times k (id ∷ []) ≡ times k (flat_map number_of (front ++ Some id ∷ back))
  slot_less k front id back =
      let less : times k (flat_map number_of (front ++ None ∷ back)) ≡ times k (flat_map number_of front) + times k (flat_map number_of back) =
      ap (λ v. times k v) (flat_map-append number_of front (None ∷ back)) ∙ times_append k (flat_map number_of front) (flat_map number_of back) in
      let all : times k (flat_map number_of (front ++ Some id ∷ back)) ≡ times k (flat_map number_of front) + times k (id ∷ flat_map number_of back) =
      ap (λ v. times k v) (flat_map-append number_of front (Some id ∷ back)) ∙ times_append k (flat_map number_of front) (id ∷ flat_map number_of back) in
      omega (arith, less, all, times_cons k id (flat_map number_of back))

  pub slot_ends : (rs : List Reading) (hs : List Held) (front : List (Option ℕ)) (id : ℕ) (back : List (Option ℕ)) (n : ℕ) → AreRequests events rs hs (front ++ Some id ∷ back) n → ended_in e ≡ id ∷ []
      → AreRequests (events ++ e ∷ []) rs hs (front ++ None ∷ back) n
  slot_ends rs hs front id back n all ends =
      requests_then events rs hs (front ++ Some id ∷ back) n all e no rs hs (front ++ None ∷ back)
      (λ r h. same_reading rs r h)
      (λ x h. h)
      (λ k. omega (arith, ids_times k rs hs (front ++ None ∷ back), ids_times k rs hs (front ++ Some id ∷ back), slot_less k front id back, ap (λ v. times k v) ends))
      (λ k some. none_of k)
      (λ k. omega (arith, all.offered k, none_of k))
      (λ k some. absurd (omega (arith, some, none_of k)))

  -- An event that ends no request.
  pub none_ends : (rs : List Reading) (hs : List Held) (slots : List (Option ℕ)) (n : ℕ) → AreRequests events rs hs slots n → ended_in e ≡ [] → AreRequests (events ++ e ∷ []) rs hs slots n
  none_ends rs hs slots n all ends =
      requests_then events rs hs slots n all e no rs hs slots
      (λ r h. same_reading rs r h)
      (λ x h. h)
      (λ k. omega (arith, ap (λ v. times k v) ends))
      (λ k some. none_of k)
      (λ k. omega (arith, all.offered k, none_of k))
      (λ k some. absurd (omega (arith, some, none_of k)))

  -- An event that changes what readings wait for.
  pub stages_then : (f : Reading → Reading) → ((r : Reading) → (f r).held ≡ r.held) → (rs : List Reading) (hs : List Held) (slots : List (Option ℕ)) (n : ℕ) → AreRequests events rs hs slots n → ended_in e ≡ []
      → ((r : Reading) → IsWaiting events r → IsAtStage (events ++ e ∷ []) r.held.id (call_of r.held.request) (f r).stage)
      → AreRequests (events ++ e ∷ []) (map f rs) hs slots n
  stages_then f keeps rs hs slots n all ends stage =
      requests_then events rs hs slots n all e no (map f rs) hs slots
      (λ r h.
      let o = image_of f rs r h in
      let same : r.held ≡ o.one.held = ap (λ (v : Reading). v.held) (sym o.same) ∙ keeps o.one in
      (o.one, o.there, same, λ w. subst (λ (v : Reading). IsAtStage (events ++ e ∷ []) o.one.held.id (call_of o.one.held.request) v.stage) o.same (stage o.one w)))
      (λ x h. h)
      (λ k. omega (arith, ids_times k (map f rs) hs slots, ids_times k rs hs slots, ap (λ v. times k v) (same_ids f keeps rs), ap (λ v. times k v) ends))
      (λ k some. none_of k)
      (λ k. omega (arith, all.offered k, none_of k))
      (λ k some. absurd (omega (arith, some, none_of k)))

-- ---- questions

asks_no_receipt : (q : ℕ) → IsNoReceipt (AsksForEnd q)
asks_no_receipt q id call h = cc

learns_no_receipt : (q count : ℕ) → IsNoReceipt (LearnsEnd q count)
learns_no_receipt q count id call h = cc

asked_at : (events : List InstanceEvent) (q id : ℕ) (call : Call) (asks : Bool) (s : Stage) → IsOpen events id call → IsAtStage events id call s → IsAtStage (events ++ AsksForEnd q ∷ []) id call (if asks then Asked q else s)
asked_at events q id call true s is h = asks_for events id call q is.received
asked_at events q id call false s is h = stage_more events (AsksForEnd q ∷ []) id call s h

pub asks_then : (f : Bool) (events : List InstanceEvent) (q : ℕ) (rs : List Reading) (hs : List Held) (slots : List (Option ℕ)) (n : ℕ) → AreRequests events rs hs slots n → AreRequests (events ++ AsksForEnd q ∷ []) (map (asked f q) rs) hs slots n
asks_then f events q rs hs slots n all =
    stages_then events (AsksForEnd q) (asks_no_receipt q) refl (asked f q) (λ r. refl) rs hs slots n all refl
    (λ r w. asked_at events q r.held.id (call_of r.held.request) (is_unasked f r) r.stage w.held.opens w.stage)

learned_case : (events : List InstanceEvent) (q count p id : ℕ) (call : Call) → IsAtStage events id call (Asked p) → (b : Bool) → (q == p) ≡ b → IsAtStage (events ++ LearnsEnd q count ∷ []) id call (if b then Until count else Asked p)
learned_case events q count p id call h true is =
    let e : q ≡ p = grind (arith, is) in
    learns_for events id call q count (subst (λ (v : ℕ). IsAtStage events id call (Asked v)) (sym e) h)
learned_case events q count p id call h false is = stage_more events (LearnsEnd q count ∷ []) id call (Asked p) h

learned_at : (events : List InstanceEvent) (q count id : ℕ) (call : Call) (s : Stage) → IsAtStage events id call s → IsAtStage (events ++ LearnsEnd q count ∷ []) id call (stage_after q count s)
learned_at events q count id call Fresh h = tt
learned_at events q count id call (Asked p) h = learned_case events q count p id call h (q == p) refl
learned_at events q count id call (Until c) h = stage_more events (LearnsEnd q count ∷ []) id call (Until c) h

pub learns_then : (events : List InstanceEvent) (q count : ℕ) (rs : List Reading) (hs : List Held) (slots : List (Option ℕ)) (n : ℕ) → AreRequests events rs hs slots n → AreRequests (events ++ LearnsEnd q count ∷ []) (map (told q count) rs) hs slots n
learns_then events q count rs hs slots n all =
    stages_then events (LearnsEnd q count) (learns_no_receipt q count) refl (told q count) (λ r. refl) rs hs slots n all refl
    (λ r w. learned_at events q count r.held.id (call_of r.held.request) r.stage w.stage)

-- ---- batches

offers_no_receipt : (ids bytes : List ℕ) → IsNoReceipt (Offers ids bytes)
offers_no_receipt ids bytes id call h = cc

abbrev pub slots_of : List Held → List (Option ℕ)
slots_of hs = map (λ (h : Held). Some h.id) hs

slots_ids : (hs : List Held) → flat_map number_of (slots_of hs) ≡ map id_of_held hs
slots_ids [] = refl
slots_ids (h ∷ hs) = ap (λ v. h.id ∷ v) (slots_ids hs)

module _ (events : List InstanceEvent) (rs : List Reading) (front back : List Held) (n : ℕ) (all : AreRequests events rs (front ++ back) [] n) where
  front_id : (k : ℕ) → 1 ≤ times k (map id_of_held front) → times k (ids_offered events) ≡ 0
  front_id k some =
      let o = image_of id_of_held front k (times_contains k (map id_of_held front) some) in
      let is = held_at events rs (front ++ back) [] n all o.one (Contains-append_left front back o.one o.there) in
      subst (λ (v : ℕ). times v (ids_offered events) ≡ 0) o.same is.unoffered

  ids_split : (k : ℕ) → times k (ids_of rs (front ++ back) []) ≡ times k (map id_of_reading rs) + times k (map id_of_held front) + times k (map id_of_held back)
  ids_split k =
      let held : times k (map id_of_held (front ++ back)) ≡ times k (map id_of_held front) + times k (map id_of_held back) = ap (λ v. times k v) (map-append id_of_held front back) ∙ times_append k (map id_of_held front) (map id_of_held back) in
      omega (arith, ids_times k rs (front ++ back) [], held)

  pub front_once : (k : ℕ) → times k (map id_of_held front) ≤ 1
  front_once k = omega (arith, ids_split k, all.apart k)

  pub offered_once : (k : ℕ) → times k (ids_offered events) + times k (map id_of_held front) ≤ 1
  offered_once k = elim (some_or_none (times k (map id_of_held front))) [
    | inl some ↦ omega (arith, front_id k some, front_once k)
    | inr none ↦ omega (arith, none, all.offered k)
  ]

  rest_unoffered : (k : ℕ) → 1 ≤ times k (unsent_ids rs back) → times k (map id_of_held front) ≡ 0
  rest_unoffered k some = omega (arith, some, times_append k (map id_of_reading rs) (map id_of_held back), ids_split k, all.apart k)

  -- The first changes are offered.
  pub offers_then : (bytes : List ℕ) → AreRequests (events ++ Offers (map id_of_held front) bytes ∷ []) rs back (slots_of front) n
  offers_then bytes =
      let e = Offers (map id_of_held front) bytes in
      requests_then events rs (front ++ back) [] n all e (offers_no_receipt (map id_of_held front) bytes) rs back (slots_of front)
      (λ r h. (r, h, refl, λ w. stage_more events (e ∷ []) r.held.id (call_of r.held.request) r.stage w.stage))
      (λ x h. Contains-append_right front back x h)
      (λ k. omega (arith, ids_times k rs back (slots_of front), ap (λ v. times k v) (slots_ids front), ids_split k))
      rest_unoffered
      offered_once
      (λ k some. omega (arith, some, ids_split k))

-- The calls of a batch are those of open requests.
pub calls_open : (events : List InstanceEvent) (hs : List Held) (now : ℕ) → All (IsHeld events) hs → AreOpen events (map id_of_held hs) (map (λ (h : Held). Makes (now, call_of h.request)) hs)
calls_open events [] now all = tt
calls_open events (h ∷ hs) now all = (
  (All-contains (IsHeld events) (h ∷ hs) h all (contains_head h hs)).opens,
  calls_open events hs now (λ k d lt. all (suc k) d (omega (arith, lt))),
)

-- ---- numbers that are there or not

pub unsent_reading : (rs : List Reading) (hs : List Held) (front : List Reading) (r : Reading) (back : List Reading) (id : ℕ) → rs ≡ front ++ r ∷ back → r.held.id ≡ id → Contains (unsent_ids rs hs) id
unsent_reading rs hs front r back id was number =
    Contains-append_left (map id_of_reading rs) (map id_of_held hs) id
    (subst (λ (v : ℕ). Contains (map id_of_reading rs) v) number (image_in id_of_reading rs r (contains_same rs (front ++ r ∷ back) r was (contains_at front r back))))

pub unsent_change : (rs : List Reading) (hs : List Held) (front : List Held) (x : Held) (back : List Held) (id : ℕ) → hs ≡ front ++ x ∷ back → x.id ≡ id → Contains (unsent_ids rs hs) id
unsent_change rs hs front x back id was number =
    Contains-append_right (map id_of_reading rs) (map id_of_held hs) id
    (subst (λ (v : ℕ). Contains (map id_of_held hs) v) number (image_in id_of_held hs x (contains_same hs (front ++ x ∷ back) x was (contains_at front x back))))

own_test : (n id : ℕ) → n ≡ id → (n == id) ≡ true
own_test n id e = subst (λ (v : ℕ). (v == id) ≡ true) (sym e) (same_number id)

pub none_there : (rs : List Reading) (hs : List Held) (slots : List (Option ℕ)) (id : ℕ) → All (λ (r : Reading). (r.held.id == id) ≡ false) rs → All (λ (h : Held). (h.id == id) ≡ false) hs → (Contains slots (Some id) → ⊥)
    → Contains (ids_of rs hs slots) id → ⊥
none_there rs hs slots id r h s c = elim (Contains-append_cases (unsent_ids rs hs) (flat_map number_of slots) id c) [
  | inl u ↦ elim (Contains-append_cases (map id_of_reading rs) (map id_of_held hs) id u) [
    | inl a ↦
        let o = image_of id_of_reading rs id a in
        both (o.one.held.id == id) (own_test o.one.held.id id o.same) (All-contains (λ (r : Reading). (r.held.id == id) ≡ false) rs o.one r o.there)
    | inr b ↦
        let o = image_of id_of_held hs id b in
        both (o.one.id == id) (own_test o.one.id id o.same) (All-contains (λ (h : Held). (h.id == id) ≡ false) hs o.one h o.there)
  ]
  | inr t ↦ s (number_slot slots id t)
]

pub no_slot : (slots : List (Option ℕ)) (id : ℕ) → All (λ (v : Option ℕ). is_number id v ≡ false) slots → Contains slots (Some id) → ⊥
no_slot slots id all h = both (id == id) (same_number id) (All-contains (λ (v : Option ℕ). is_number id v ≡ false) slots (Some id) all h)
