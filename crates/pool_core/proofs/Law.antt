-- Lemmas: the law of a pool, put together.
use Rattle.std.proofs.Common.{◌≡◌, ℕ, suc, ◌<◌, ◌≤◌, Bool, true, false, List, [], ◌∷◌, ◌++◌, length, map, take, drop, Some, slice_get, refl, sym, ap, subst, ◌∙◌, append_assoc, arith, inl, inr}
use Rattle.std.specs.Prelude.{Contains, count_by}
use Rattle.std.specs.List.{flat_map}
use Rattle.std.proofs.lemmas.Bool.{false≢true}
use Rattle.std.proofs.lemmas.List.{append-nil, length-take-le, take_at}
use Rattle.std.proofs.lemmas.List.Elements.{Contains-append_left}
use Rattle.entity_core.specs.Airspace.{Airspace}
use Rattle.service_step.specs.declared.reply.Reply.{Reply}
use Rattle.service_calls.specs.Run.{TimedCall}
use Rattle.pool_core.specs.Acts.{Act, Makes, airspace_by}
use Rattle.pool_core.specs.Events.{Answers, Basis, Batch, Drops, InstanceEvent, Offers, PoolEvent, Receives, entries_given, events_at}
use Rattle.pool_core.specs.OneList.{AnsweredBefore, FailedUnsent, IsOneList, ListedAct, PoolIsOneList, RequestName, Stands, StandsWith, at, listed_acts}
use Rattle.pool_core.specs.Pool.{IsPool, count_given, entry_of_batch}
use Rattle.pool_core.specs.Serves.{ServesPool, airspace_at, acts_in}
use Rattle.pool_core.proofs.Build.{at_slot, batch_acts, in_one, in_slot, listed_get, log_acts, tail_from, upto}
use Rattle.pool_core.proofs.Facts.{batch_fact, reading_fact}
use Rattle.pool_core.proofs.Given.{given_fits, given_take, most_more, state}
use Rattle.pool_core.proofs.Lists.{contains_at, contains_get, contains_split, counted, fits_or_more, get_from_split, get_front, get_more, one_position, some_same}
use Rattle.pool_core.proofs.Once.{list_bound}
use Rattle.pool_core.proofs.Order.{answer_stands, back, front, front_back, in_front, most_fits, not_in_front}
use Rattle.pool_core.proofs.Places.{list, list_cut, log_cut, state_upto}
use Rattle.pool_core.proofs.Projections.{at_append, at_split, contains_from_at, event_of}
use Rattle.pool_core.proofs.Readings.{Reading, is_request, most_given, readings, request_same, source}
use Rattle.pool_core.proofs.Served.{follows_at, never_used, used_once, uses}

acts_of_entries : (acts_of : List ℕ → List Act) (log : List Batch) → flat_map (λ b. acts_of b.bytes) log ≡ acts_in acts_of (map entry_of_batch log)
acts_of_entries acts_of [] = refl
acts_of_entries acts_of (b ∷ log) = ap (λ v. acts_of b.bytes ++ v) (acts_of_entries acts_of log)

module _ (acts_of : List ℕ → List Act) (salt : List ℕ) (start : Airspace) (events : List PoolEvent) (pool : IsPool events) (serves : ℕ → Bool)
    (served : (i : ℕ) → serves i ≡ true → ServesPool acts_of salt start i (events_at i events)) where
  abbrev these : List Reading
  these = readings serves [] events

  abbrev whole : List ListedAct
  whole = list acts_of salt start events pool serves served

  grow : (i : ℕ) (e : InstanceEvent) (p q : List PoolEvent) → events ≡ p ++ q → Contains (events_at i p) e → Contains events (event_of i e)
  grow i e p q split h =
      contains_from_at i e events (subst (λ v. Contains v e) (sym (ap (λ v. events_at i v) split ∙ at_append i p q)) (Contains-append_left (events_at i p) (events_at i q) e h))

  -- ---- the acts of the list

  others : (n : ℕ) (call : ListedAct) → slice_get whole n ≡ Some call → call.logged ≡ false
      → ((timed : TimedCall) × (call.act ≡ Makes timed)) × (x : RequestName) × (call.request ≡ Some x) × (serves x.instance ≡ true) × ((basis : Basis) × (reply : Reply) × Contains events (at x (Answers x.id basis reply)))
  others n call h unlogged = elim (in_one acts_of these 0 pool.log call (contains_get whole n call h)) [
    | inl slots ↦
        let o = in_slot slots.slot these call slots.among in
        let s = source serves [] events o.one o.among in
        let fact = reading_fact acts_of salt start events pool serves served o.one s in
        ((fact.timed, sym (ap (λ (v : ListedAct). v.act) o.call) ∙ fact.is_call), record { instance = s.instance; id = s.id }, sym (ap (λ (v : ListedAct). v.request) o.call) ∙ s.request, s.serves_it, (s.basis, s.reply, subst (λ v. Contains v (event_of s.instance (Answers s.id s.basis s.reply))) (sym s.split) (contains_at s.earlier (event_of s.instance (Answers s.id s.basis s.reply)) s.later)))
    | inr batch ↦
        let l = listed_get batch.batch.writer batch.batch.ids (acts_of batch.batch.bytes) batch.among.0 call (get_from_split (batch_acts acts_of these batch.batch) batch.among.0 call (contains_split (batch_acts acts_of these batch.batch) call batch.among)) in
        absurd (false≢true (sym unlogged ∙ l.logged))
  ]

  received_of : (call : ListedAct) → Contains whole call → (x : RequestName) → call.request ≡ Some x → serves x.instance ≡ true → (timed : TimedCall) × (call.act ≡ Makes timed) × Contains events (at x (Receives x.id timed.1))
  received_of call h x named s = elim (in_one acts_of these 0 pool.log call h) [
    | inl slots ↦
        let o = in_slot slots.slot these call slots.among in
        let src = source serves [] events o.one o.among in
        let fact = reading_fact acts_of salt start events pool serves served o.one src in
        let name : RequestName = record { instance = src.instance; id = src.id } in
        let same = some_same name x (sym src.request ∙ ap (λ (v : ListedAct). v.request) o.call ∙ named) in
        let found = grow src.instance (Receives src.id fact.timed.1) src.earlier (event_of src.instance (Answers src.id src.basis src.reply) ∷ src.later) src.split fact.received in
        (fact.timed, sym (ap (λ (v : ListedAct). v.act) o.call) ∙ fact.is_call, subst (λ (v : RequestName). Contains events (at v (Receives v.id fact.timed.1))) same found)
    | inr batch ↦
        let there = contains_split (batch_acts acts_of these batch.batch) call batch.among in
        let fact = batch_fact acts_of salt start events pool serves served batch.front batch.batch batch.back batch.split these batch.among.0 call (get_from_split (batch_acts acts_of these batch.batch) batch.among.0 call there) x named s in
        let found = grow batch.batch.writer (Receives x.id fact.timed.1) fact.offer.before (event_of batch.batch.writer (Offers batch.batch.ids batch.batch.bytes) ∷ fact.offer.after) fact.offer.split fact.received in
        (fact.timed, fact.is_call, subst (λ (v : ℕ). Contains events (event_of v (Receives x.id fact.timed.1))) (sym fact.writer) found)
  ]

  answered : (x : RequestName) (basis : Basis) (reply : Reply) → serves x.instance ≡ true → Contains events (at x (Answers x.id basis reply)) → StandsWith acts_of salt start whole x reply
  answered x basis reply s h =
      let c = contains_split events (at x (Answers x.id basis reply)) h in
      answer_stands acts_of salt start events pool serves served c.front c.back x basis reply s c.split

  -- ---- how often

  bound : (x : RequestName) → count_by (is_request x) whole ≤ uses x.id (events_at x.instance events)
  bound x = list_bound x serves acts_of events pool.log (pool.own x.instance).0 (pool.own x.instance).1

  once : (x : RequestName) → serves x.instance ≡ true → (n k : ℕ) → Stands whole x n → Stands whole x k → n ≡ k
  once x s n k a b =
      one_position (is_request x) whole n k a.listed b.listed (omega (arith, bound x, used_once acts_of salt start x.instance x.id (events_at x.instance events) (served x.instance s))) a.there b.there
      (request_same x a.listed a.of) (request_same x b.listed b.of)

  unsent : (x : RequestName) → serves x.instance ≡ true → FailedUnsent events x → (n : ℕ) → Stands whole x n → ⊥
  unsent x s f n a =
      let i = x.instance in
      let split : events_at i events ≡ events_at i f.before ++ Drops x.id ∷ events_at i f.after = ap (λ v. events_at i v) f.split ∙ at_split i (Drops x.id) f.before f.after in
      let none = never_used acts_of salt start i x.id (events_at i events) (events_at i f.before) (events_at i f.after) (served i s) split in
      omega (arith, none, bound x, counted (is_request x) whole n a.listed a.there (request_same x a.listed a.of))

  -- ---- order

  order : (x y : RequestName) → serves x.instance ≡ true → serves y.instance ≡ true → AnsweredBefore events x y → (n k : ℕ) → Stands whole x n → Stands whole y k → n < k
  order x y sx sy d n k a b =
      let answer = at x (Answers x.id d.basis d.reply) in
      let receive = at y (Receives y.id d.call) in
      let m = most_given d.before in
      let upto_answer = d.before ++ answer ∷ [] in
      let rest = receive ∷ d.after in
      let cut : events ≡ (upto_answer ++ d.between) ++ rest = d.split ∙ sym (append_assoc d.before (answer ∷ []) (d.between ++ rest)) ∙ sym (append_assoc upto_answer d.between rest) in
      let first : events ≡ upto_answer ++ (d.between ++ rest) = d.split ∙ sym (append_assoc d.before (answer ∷ []) (d.between ++ rest)) in
      let new = follows_at acts_of salt start y.instance (events_at y.instance events) (events_at y.instance (upto_answer ++ d.between)) (Receives y.id d.call) (events_at y.instance d.after) (served y.instance sy)
      (ap (λ v. events_at y.instance v) cut ∙ at_split y.instance (Receives y.id d.call) (upto_answer ++ d.between) d.after) in
      let fits = most_fits acts_of salt start events pool serves served d.before (answer ∷ (d.between ++ rest)) d.split in
      let grown : most_given (upto_answer ++ d.between) ≡ most_given (d.before ++ answer ∷ d.between) = ap (λ v. most_given v) (append_assoc d.before (answer ∷ []) d.between) in
      let le : m ≤ most_given (upto_answer ++ d.between) = omega (arith, grown, most_more d.before (answer ∷ d.between)) in
      let start_of = front acts_of salt start events pool serves served m upto_answer in
      let end_of = back acts_of salt start events pool serves served m upto_answer (d.between ++ rest) in
      let parts : whole ≡ start_of ++ end_of = front_back acts_of salt start events pool serves served m upto_answer (d.between ++ rest) first fits in
      let mine = in_front acts_of salt start events pool serves served d.before (d.between ++ rest) x d.basis d.reply sx d.split in
      let place = mine.there.0 in
      let here = get_from_split start_of place mine.call (contains_split start_of mine.call mine.there) in
      let stands : Stands whole x place = record { listed = mine.call; there = ap (λ v. slice_get v place) parts ∙ get_more start_of end_of place mine.call here; of = mine.named } in
      let same = once x sx n place a stands in
      elim (fits_or_more (suc k) (length start_of)) [
        | inl in_it ↦
            let other = get_front start_of end_of k b.listed (sym (ap (λ v. slice_get v k) parts) ∙ b.there) (omega (arith, in_it)) in
            absurd (not_in_front acts_of salt start events pool serves served m y upto_answer d.between rest cut sy new le fits (record { call = b.listed; there = contains_get start_of k b.listed other; named = b.of }))
        | inr behind ↦ omega (arith, same, mine.there.1, behind)
      ]

  -- ---- airspaces

  pub log_held : (count : ℕ) → count ≤ length pool.log → (n : ℕ) × (airspace_by salt start (listed_acts (take n whole)) ≡ state acts_of salt start events pool count)
  log_held count le =
      let xs = take count pool.log in
      let ys = drop count pool.log in
      let up = upto acts_of these 0 xs in
      let split = log_cut acts_of salt start events pool serves served count in
      let parts : take (length up) whole ≡ up = ap (λ v. take (length up) v) (list_cut acts_of salt start events pool serves served xs ys split) ∙ take_at up (at_slot (length xs) these ++ tail_from acts_of these (length xs) ys) (length up) refl in
      (length up, ap (λ v. airspace_by salt start (listed_acts v)) parts ∙ state_upto acts_of salt start events pool serves served xs ys split ∙ ap (λ v. state acts_of salt start events pool v) (length-take-le count pool.log le))

  held : (i count : ℕ) → count ≤ count_given i events → (n : ℕ) × (airspace_by salt start (listed_acts (take n whole)) ≡ airspace_at acts_of salt start (entries_given (events_at i events)) count)
  held i count le =
      let none : events ≡ events ++ [] = sym (append-nil events) in
      let h = log_held count (omega (arith, le, given_fits acts_of salt start events pool i events [] none)) in
      (h.0, h.1 ∙ ap (λ v. airspace_by salt start (acts_in acts_of v)) (sym (given_take acts_of salt start events pool i events [] none count le)))

  pub one_list_holds : IsOneList acts_of salt start serves events pool.log whole
  one_list_holds = record {
    logged = log_acts acts_of these 0 pool.log (λ r h. (source serves [] events r h).unlogged) ∙ acts_of_entries acts_of pool.log;
    others = others;
    received = λ x s n a. received_of a.listed (contains_get whole n a.listed a.there) x a.of s;
    answered = answered;
    once = once;
    unsent = unsent;
    order = order;
    held = held;
  }

pub pool_law : PoolIsOneList
pool_law acts_of salt start serves events pool served = (list acts_of salt start events pool serves served, one_list_holds acts_of salt start events pool serves served)
