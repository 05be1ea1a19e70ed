-- While a class may be next, another one is picked a limited number of times.
use Rattle.std.proofs.Common.{◌≡◌, ◌∙◌, ◌==◌, ◌+◌, ◌*◌, ◌≤◌, ◌<◌, ℕ, zero, suc, Bool, true, false, List, [], ◌∷◌, Some, if◌then◌else◌, length, max, min, arith, refl, sym, ap, subst}
use Rattle.std.proofs.lemmas.Bool.{eqb-true}
use Rattle.std.proofs.lemmas.Option.{slice_get_within}
use Rattle.std.specs.List.{slice_get}
use Rattle.space_core.specs.Space.{max_count}
use Rattle.server_clients.specs.FairQueue.{IsCharged, IsPicked, NeverFalls, least_charge, time_in, time_of}
use Rattle.server_clients.specs.Waits.{Changes, Charges, IfSame, IsChargedEach, MayBeNext, OccurBeside, OccursBeside, Picks, QueueEvent, WaitsAtMost, picks_of}
use Rattle.server_clients.specs.declared.fair_queue.FairQueue.{FairQueue}
use Rattle.server_clients.specs.declared.fair_queue.UssClass.{UssClass}

never_in : (own : ℕ) (event : QueueEvent) (old new : FairQueue) → OccursBeside own event old new → NeverFalls old new
never_in own (Picks index key) old new h = h.2
never_in own (Charges index nanos) old new h = h.1
never_in own Changes old new h = h

never_over : (own : ℕ) (events : List QueueEvent) (old new : FairQueue) → OccurBeside own events old new → (index : ℕ) → time_of old index ≤ time_of new index
never_over own [] old new h index = subst (λ (q : FairQueue). time_of old index ≤ time_of q index) (sym h) (omega arith)
never_over own (event ∷ events) old new h index =
    let first = (never_in own event old h.0 h.1).1 index in
    let rest = never_over own events h.0 new h.2 index in
    omega (arith, first, rest)

-- A class that is picked has no later virtual time than one that may be next.
picked_first : (queue : FairQueue) (own index key : ℕ) → MayBeNext queue own → IsPicked queue index key → (time_of queue index ≤ time_of queue own) × (index < length queue.classes.items)
picked_first queue own index key may picked =
    let least = picked.3 own may.0 may.1 may.2 in
    let mine : time_of queue own ≡ may.0.virtual_time = ap time_in may.1 in
    let its : time_of queue index ≡ picked.0.virtual_time = ap time_in picked.1 in
    (omega (arith, least, mine, its), slice_get_within queue.classes.items index picked.0 picked.1)

-- What is known of a class that was picked and not charged.
abbrev Owes : (owes : Bool) → FairQueue → (index : ℕ) → Type 0
Owes false queue index = Unit {0}
Owes true queue index = index < length queue.classes.items

abbrev due : (owes : Bool) → ℕ
due false = 0
due true = least_charge

charged_more : (old new : FairQueue) (index nanos : ℕ) → IsCharged old index nanos new → index < length old.classes.items → time_of new index < max_count → time_of old index + least_charge ≤ time_of new index
charged_more old new index nanos h lt below =
    let least = h lt in
    omega (arith, least, below)

owes_more : (owes : Bool) (old new : FairQueue) (index : ℕ) → NeverFalls old new → Owes owes old index → Owes owes new index
owes_more false old new index never h = tt
owes_more true old new index never h = let kept = never.0 in omega (arith, kept, h)

no_pick : {P : Type 0} (n : ℕ) → zero ≡ suc n → P
no_pick n h = absurd cc

module _ (own other : ℕ) where
  abbrev Bound : (owes : Bool) → List QueueEvent → FairQueue → FairQueue → Type 0
  Bound owes events old new = (more : ℕ) → picks_of other events ≡ suc more → time_of old other + (due owes + more * least_charge) ≤ time_of new own

  -- The bound, from one state to the next.
  bound_before : (owes : Bool) (events : List QueueEvent) (old mid new : FairQueue) → NeverFalls old mid → Bound owes events mid new → Bound owes events old new
  bound_before owes events old mid new never h more is =
      let rest = h more is in
      let first = never.1 other in
      omega (arith, first, rest)

  bound_picked : (same : Bool) (owes : Bool) (index key : ℕ) (events : List QueueEvent) (old mid new : FairQueue) → (other == index) ≡ same → MayBeNext old own → IsPicked old index key → NeverFalls old mid → time_of old own ≤ time_of new own
      → IfSame same ((owes ≡ false) × IsChargedEach other true events) (IsChargedEach other owes events) → Owes owes old other
      → ((owes' : Bool) → IsChargedEach other owes' events → Owes owes' mid other → Bound owes' events mid new) → (more : ℕ) → (if same then suc (picks_of other events) else picks_of other events) ≡ suc more
      → time_of old other + (due owes + more * least_charge) ≤ time_of new own
  bound_picked false owes index key events old mid new is may picked never rises charged owed rest more h = bound_before owes events old mid new never (rest owes charged (owes_more owes old mid other never owed)) more h
  bound_picked true true index key events old mid new is may picked never rises charged owed rest more h = absurd (let no : true ≡ false = charged.0 in cc)
  bound_picked true false index key events old mid new is may picked never rises charged owed rest zero h =
      let first = picked_first old own index key may picked in
      let at : time_of old other ≡ time_of old index = ap (λ (n : ℕ). time_of old n) (eqb-true other index is) in
      let lower = first.0 in
      omega (arith, lower, at, rises)
  bound_picked true false index key events old mid new is may picked never rises charged owed rest (suc more) h =
      let first = picked_first old own index key may picked in
      let there : other < length old.classes.items = subst (λ (n : ℕ). n < length old.classes.items) (sym (eqb-true other index is)) first.1 in
      let left : picks_of other events ≡ suc more = omega (arith, h) in
      let later = rest true charged.1 (owes_more true old mid other never there) more left in
      let grows = never.1 other in
      omega (arith, later, grows)

  bound_charged : (same : Bool) (owes : Bool) (index nanos : ℕ) (events : List QueueEvent) (old mid new : FairQueue) → (other == index) ≡ same → IsCharged old index nanos mid → NeverFalls old mid → time_of new own < max_count
      → Owes owes old other → IsChargedEach other (if same then false else owes) events → ((owes' : Bool) → IsChargedEach other owes' events → Owes owes' mid other → Bound owes' events mid new) → Bound owes events old new
  bound_charged false owes index nanos events old mid new is charged never below owed each rest more h = bound_before owes events old mid new never (rest owes each (owes_more owes old mid other never owed)) more h
  bound_charged true false index nanos events old mid new is charged never below owed each rest more h = bound_before false events old mid new never (rest false each tt) more h
  bound_charged true true index nanos events old mid new is charged never below owed each rest more h =
      let later = rest false each tt more h in
      let under : time_of mid other < max_count = omega (arith, later, below) in
      let same : other ≡ index = eqb-true other index is in
      let more_time = charged_more old mid other nanos (subst (λ (n : ℕ). IsCharged old n nanos mid) (sym same) charged) owed under in
      omega (arith, later, more_time)

  bound : (owes : Bool) (events : List QueueEvent) (old new : FairQueue) → OccurBeside own events old new → IsChargedEach other owes events → Owes owes old other → time_of new own < max_count → Bound owes events old new
  bound owes [] old new h each owed below more is = no_pick more is
  bound owes (Picks index key ∷ events) old new h each owed below more is =
      bound_picked (other == index) owes index key events old h.0 new refl h.1.0 h.1.1 h.1.2 (never_over own (Picks index key ∷ events) old new h own) each owed
      (λ owes' each' owed'. bound owes' events h.0 new h.2 each' owed' below) more is
  bound owes (Charges index nanos ∷ events) old new h each owed below more is =
      bound_charged (other == index) owes index nanos events old h.0 new refl h.1.0 h.1.1 below owed each (λ owes' each' owed'. bound owes' events h.0 new h.2 each' owed' below) more is
  bound owes (Changes ∷ events) old new h each owed below more is =
      bound_before owes events old h.0 new h.1 (bound owes events h.0 new h.2 each (owes_more owes old h.0 other h.1 owed) below) more is

pub waits_at_most : WaitsAtMost
waits_at_most own other events old new more h each below is =
    let at_most = bound own other false events old new h each tt below more is in
    omega (arith, at_most)
