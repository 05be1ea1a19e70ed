-- Lemmas: what was answered first stands first.
use Rattle.std.proofs.Common.{◌≡◌, ℕ, suc, ◌+◌, ◌-◌, ◌≤◌, ◌⊎◌, Bool, true, List, [], ◌∷◌, ◌++◌, length, take, drop, Some, refl, sym, ap, subst, ◌∙◌, append_assoc, arith, inl, inr, length-append}
use Rattle.std.specs.Prelude.{Contains, if◌then◌else◌}
use Rattle.std.proofs.lemmas.List.{append-nil, length-take-le}
use Rattle.std.proofs.lemmas.List.Elements.{Contains-append_cases, Contains-append_left, Contains-append_right}
use Rattle.entity_core.specs.Airspace.{Airspace}
use Rattle.policy_core.specs.declared.call.Call.{Call}
use Rattle.service_step.specs.declared.reply.Reply.{Reply}
use Rattle.pool_core.specs.Acts.{Act}
use Rattle.pool_core.specs.Events.{AfterFirst, Answers, AtOnce, Basis, InPlace, PoolEvent, Receives, events_at}
use Rattle.pool_core.specs.OneList.{ListedAct, RequestName, StandsWith, at}
use Rattle.pool_core.specs.Pool.{IsPool}
use Rattle.pool_core.specs.Serves.{IsReplyBy, ServesPool}
use Rattle.pool_core.proofs.Build.{InBatch, InSlot, InSlots, at_slot, batch_acts, batch_in_upto, contains_slot, in_slot, in_upto, slot_append, slot_in_upto, tail_from, upto}
use Rattle.pool_core.proofs.Facts.{batch_fact, batch_late, reading_fact, reading_late}
use Rattle.pool_core.proofs.Given.{given_fits, take_past}
use Rattle.pool_core.proofs.Lists.{contains_at, contains_get, contains_same, contains_split, fits_or_more, get_from_split, some_same}
use Rattle.pool_core.proofs.Places.{Place, ReadingAt, list, list_cut, listed_call, log_cut, place_listed, place_of, reading_split, stands_place, stands_reading}
use Rattle.pool_core.proofs.Projections.{at_append, at_split, event_of}
use Rattle.pool_core.proofs.Readings.{Reading, Source, given_most, most_given, most_least, reading, reading_in, readings, readings_append, source}
use Rattle.pool_core.proofs.Served.{follows_at}

module _ (acts_of : List ℕ → List Act) (salt : List ℕ) (start : Airspace) (events : List PoolEvent) (pool : IsPool events) (serves : ℕ → Bool)
    (served : (i : ℕ) → serves i ≡ true → ServesPool acts_of salt start i (events_at i events)) where
  -- ---- answers

  pub answer_by : (earlier later : List PoolEvent) (x : RequestName) (basis : Basis) (reply : Reply) → serves x.instance ≡ true → events ≡ earlier ++ at x (Answers x.id basis reply) ∷ later
      → IsReplyBy acts_of salt start x.instance (events_at x.instance earlier) x.id basis reply
  answer_by earlier later x basis reply s split =
      follows_at acts_of salt start x.instance (events_at x.instance events) (events_at x.instance earlier) (Answers x.id basis reply) (events_at x.instance later) (served x.instance s)
      (ap (λ v. events_at x.instance v) split ∙ at_split x.instance (Answers x.id basis reply) earlier later)

  -- A reading that stands behind entries that its instance had been given.
  pub record GivenReading (earlier later : List PoolEvent) (x : RequestName) (basis : Basis) (reply : Reply) : Type 0 where
    pub made : ReadingAt acts_of salt start events pool serves served earlier later x basis reply
    pub within : made.slot ≤ most_given earlier

  abbrev pub AnswerPlace : (earlier later : List PoolEvent) (x : RequestName) (basis : Basis) (reply : Reply) → Type 0
  AnswerPlace earlier later x basis reply = Place acts_of salt start events pool serves served earlier x reply ⊎ GivenReading earlier later x basis reply

  pub answer_place : (earlier later : List PoolEvent) (x : RequestName) (basis : Basis) (reply : Reply) → serves x.instance ≡ true → events ≡ earlier ++ at x (Answers x.id basis reply) ∷ later
      → IsReplyBy acts_of salt start x.instance (events_at x.instance earlier) x.id basis reply → AnswerPlace earlier later x basis reply
  answer_place earlier later x InPlace reply s split h =
      inl (place_of acts_of salt start events pool serves served earlier (at x (Answers x.id InPlace reply) ∷ later) x reply s split h.1)
  answer_place earlier later x (AfterFirst n t) reply s split h = inr (record {
    made = record { slot = n; timed = t; is_basis = (refl, refl); made = ap (λ b. if b then reading x.instance x.id n t ∷ [] else []) s };
    within = omega (arith, h.1.given, given_most x.instance earlier);
  })
  answer_place earlier later x (AtOnce t) reply s split h = inr (record {
    made = record { slot = most_given earlier; timed = t; is_basis = (refl, refl); made = ap (λ b. if b then reading x.instance x.id (most_given earlier) t ∷ [] else []) s };
    within = omega arith;
  })

  pub answer_stands : (earlier later : List PoolEvent) (x : RequestName) (basis : Basis) (reply : Reply) → serves x.instance ≡ true → events ≡ earlier ++ at x (Answers x.id basis reply) ∷ later
      → StandsWith acts_of salt start (list acts_of salt start events pool serves served) x reply
  answer_stands earlier later x basis reply s split = elim (answer_place earlier later x basis reply s split (answer_by earlier later x basis reply s split)) [
    | inl place ↦ stands_place acts_of salt start events pool serves served earlier x reply place
    | inr read ↦ stands_reading acts_of salt start events pool serves served earlier later x basis reply s split read.made
  ]

  -- ---- the front of the list, up to an answer

  abbrev pub these : List Reading
  these = readings serves [] events

  -- The acts of the first entries, and the readings behind them in a beginning of the events.
  abbrev pub front : (n : ℕ) → List PoolEvent → List ListedAct
  front n earlier = upto acts_of these 0 (take n pool.log) ++ at_slot n (readings serves [] earlier)

  abbrev pub back : (n : ℕ) → (earlier later : List PoolEvent) → List ListedAct
  back n earlier later = at_slot n (readings serves earlier later) ++ tail_from acts_of these n (drop n pool.log)

  pub front_back : (n : ℕ) (earlier later : List PoolEvent) → events ≡ earlier ++ later → n ≤ length pool.log → list acts_of salt start events pool serves served ≡ front n earlier ++ back n earlier later
  front_back n earlier later split le =
      let xs = take n pool.log in
      let ys = drop n pool.log in
      let long : length xs ≡ n = length-take-le n pool.log le in
      let slots : at_slot n these ≡ at_slot n (readings serves [] earlier) ++ at_slot n (readings serves earlier later) =
      ap (λ v. at_slot n (readings serves [] v)) split ∙ ap (λ v. at_slot n v) (readings_append serves [] earlier later) ∙ slot_append n (readings serves [] earlier) (readings serves earlier later) in
      list_cut acts_of salt start events pool serves served xs ys (log_cut acts_of salt start events pool serves served n)
      ∙ ap (λ v. upto acts_of these 0 xs ++ (at_slot v these ++ tail_from acts_of these v ys)) long
      ∙ ap (λ v. upto acts_of these 0 xs ++ (v ++ tail_from acts_of these n ys)) slots
      ∙ ap (λ v. upto acts_of these 0 xs ++ v) (append_assoc (at_slot n (readings serves [] earlier)) (at_slot n (readings serves earlier later)) (tail_from acts_of these n ys))
      ∙ sym (append_assoc (upto acts_of these 0 xs) (at_slot n (readings serves [] earlier)) (back n earlier later))

  pub most_fits : (earlier later : List PoolEvent) → events ≡ earlier ++ later → most_given earlier ≤ length pool.log
  most_fits earlier later split = most_least earlier (length pool.log) (λ j. given_fits acts_of salt start events pool j earlier later split)

  -- A call of a request in a list.
  pub record Among (calls : List ListedAct) (x : RequestName) : Type 0 where
    pub call : ListedAct
    pub there : Contains calls call
    pub named : call.request ≡ Some x

  front_place : (earlier later : List PoolEvent) (x : RequestName) (basis : Basis) (reply : Reply) → events ≡ earlier ++ at x (Answers x.id basis reply) ∷ later
      → (p : Place acts_of salt start events pool serves served earlier x reply) → Among (front (most_given earlier) (earlier ++ at x (Answers x.id basis reply) ∷ [])) x
  front_place earlier later x basis reply split p =
      let n = most_given earlier in
      let call = listed_call acts_of salt start events pool serves served x p.timed in
      let le : suc (length p.front) ≤ n = omega (arith, p.given, given_most x.instance earlier) in
      let taken : take n pool.log ≡ p.front ++ p.batch ∷ take (n - suc (length p.front)) p.back = ap (λ v. take n v) p.split ∙ take_past p.front p.batch p.back n le in
      let here = contains_get (batch_acts acts_of these p.batch) p.position call (place_listed acts_of salt start events pool serves served earlier x reply p) in
      record {
        call = call;
        there = Contains-append_left (upto acts_of these 0 (take n pool.log)) (at_slot n (readings serves [] (earlier ++ at x (Answers x.id basis reply) ∷ []))) call
            (subst (λ v. Contains (upto acts_of these 0 v) call) (sym taken) (batch_in_upto acts_of these 0 p.front p.batch (take (n - suc (length p.front)) p.back) call here));
        named = refl;
      }

  front_reading : (earlier later : List PoolEvent) (x : RequestName) (basis : Basis) (reply : Reply) → events ≡ earlier ++ at x (Answers x.id basis reply) ∷ later
      → (g : GivenReading earlier later x basis reply) → (suc g.made.slot ≤ most_given earlier) ⊎ (suc (most_given earlier) ≤ suc g.made.slot) → Among (front (most_given earlier) (earlier ++ at x (Answers x.id basis reply) ∷ [])) x
  front_reading earlier later x basis reply split g (inl below) =
      let n = most_given earlier in
      let r = reading x.instance x.id g.made.slot g.made.timed in
      let answer = at x (Answers x.id basis reply) in
      let whole = reading_split acts_of salt start events pool serves served earlier later x basis reply split g.made in
      let r1 = readings serves [] earlier in
      let r2 = readings serves (earlier ++ answer ∷ []) later in
      let there = contains_slot g.made.slot these r refl (contains_same these (r1 ++ r ∷ r2) r whole (contains_at r1 r r2)) in
      let long : length (take n pool.log) ≡ n = length-take-le n pool.log (most_fits earlier (answer ∷ later) split) in
      record {
        call = r.call;
        there = Contains-append_left (upto acts_of these 0 (take n pool.log)) (at_slot n (readings serves [] (earlier ++ answer ∷ []))) r.call
            (slot_in_upto acts_of these 0 (take n pool.log) g.made.slot r.call (omega arith) (omega (arith, below, long)) there);
        named = refl;
      }
  front_reading earlier later x basis reply split g (inr not_below) =
      let n = most_given earlier in
      let r = reading x.instance x.id g.made.slot g.made.timed in
      let answer = at x (Answers x.id basis reply) in
      let r1 = readings serves [] earlier in
      let here : readings serves [] (earlier ++ answer ∷ []) ≡ r1 ++ r ∷ [] =
      readings_append serves [] earlier (answer ∷ []) ∙ ap (λ v. r1 ++ v) (append-nil (reading_in serves earlier x.instance (Answers x.id basis reply))) ∙ ap (λ v. r1 ++ v) g.made.made in
      let same : r.slot ≡ n = omega (arith, g.within, not_below) in
      record {
        call = r.call;
        there = Contains-append_right (upto acts_of these 0 (take n pool.log)) (at_slot n (readings serves [] (earlier ++ answer ∷ []))) r.call
            (contains_slot n (readings serves [] (earlier ++ answer ∷ [])) r same (contains_same (readings serves [] (earlier ++ answer ∷ [])) (r1 ++ r ∷ []) r here (contains_at r1 r [])));
        named = refl;
      }

  -- A request that was answered is in the front of the list up to its answer.
  pub in_front : (earlier later : List PoolEvent) (x : RequestName) (basis : Basis) (reply : Reply) → serves x.instance ≡ true → events ≡ earlier ++ at x (Answers x.id basis reply) ∷ later
      → Among (front (most_given earlier) (earlier ++ at x (Answers x.id basis reply) ∷ [])) x
  in_front earlier later x basis reply s split = elim (answer_place earlier later x basis reply s split (answer_by earlier later x basis reply s split)) [
    | inl place ↦ front_place earlier later x basis reply split place
    | inr read ↦ front_reading earlier later x basis reply split read (fits_or_more (suc read.made.slot) (most_given earlier))
  ]

  -- ---- what was received later is not in the front

  abbrev pub NotReceived : RequestName → List PoolEvent → Type 0
  NotReceived y p = (c : Call) → Contains (events_at y.instance p) (Receives y.id c) → ⊥

  late_slots : (n : ℕ) (y : RequestName) (p q : List PoolEvent) → events ≡ p ++ q → NotReceived y p → n ≤ most_given p → n ≤ length pool.log → (call : ListedAct) → call.request ≡ Some y
      → InSlots acts_of these 0 (0 + length (take n pool.log)) call → ⊥
  late_slots n y p q cut new le fits call named s =
      let o = in_slot s.slot these call s.among in
      let src = source serves [] events o.one o.among in
      let name : RequestName = record { instance = src.instance; id = src.id } in
      let same = some_same name y (sym src.request ∙ ap (λ (v : ListedAct). v.request) o.call ∙ named) in
      let late = reading_late acts_of salt start events pool serves served o.one src p q cut (subst (λ (v : RequestName). NotReceived v p) (sym same) new) in
      omega (arith, late, o.slot, s.below, le, length-take-le n pool.log fits)

  late_batch : (n : ℕ) (y : RequestName) (p q : List PoolEvent) → events ≡ p ++ q → serves y.instance ≡ true → NotReceived y p → n ≤ most_given p → n ≤ length pool.log → (call : ListedAct) → call.request ≡ Some y
      → InBatch acts_of these (take n pool.log) call → ⊥
  late_batch n y p q cut s new le fits call named i =
      let rest = drop n pool.log in
      let split : pool.log ≡ i.front ++ i.batch ∷ (i.back ++ rest) = log_cut acts_of salt start events pool serves served n ∙ ap (λ v. v ++ rest) i.split ∙ append_assoc i.front (i.batch ∷ i.back) rest in
      let there = contains_split (batch_acts acts_of these i.batch) call i.among in
      let fact = batch_fact acts_of salt start events pool serves served i.front i.batch (i.back ++ rest) split these i.among.0 call (get_from_split (batch_acts acts_of these i.batch) i.among.0 call there) y named s in
      let late = batch_late acts_of salt start events pool serves served i.front i.batch (i.back ++ rest) split call y fact p q cut new in
      omega (arith, late, le, length-take-le n pool.log fits, ap (λ v. length v) i.split, length-append i.front (i.batch ∷ i.back))

  late_here : (n : ℕ) (y : RequestName) (earlier between q : List PoolEvent) → events ≡ (earlier ++ between) ++ q → NotReceived y (earlier ++ between) → (call : ListedAct) → call.request ≡ Some y
      → InSlot n (readings serves [] earlier) call → ⊥
  late_here n y earlier between q cut new call named o =
      let src = source serves [] earlier o.one o.among in
      let answer = event_of src.instance (Answers src.id src.basis src.reply) in
      let more : earlier ++ between ≡ src.earlier ++ answer ∷ (src.later ++ between) = ap (λ v. v ++ between) src.split ∙ append_assoc src.earlier (answer ∷ src.later) between in
      let all : events ≡ src.earlier ++ answer ∷ ((src.later ++ between) ++ q) = cut ∙ ap (λ v. v ++ q) more ∙ append_assoc src.earlier (answer ∷ (src.later ++ between)) q in
      let grown : Source serves [] events o.one = record {
        earlier = src.earlier;
        instance = src.instance;
        id = src.id;
        basis = src.basis;
        reply = src.reply;
        later = (src.later ++ between) ++ q;
        split = all;
        serves_it = src.serves_it;
        is_basis = src.is_basis;
        request = src.request;
        unlogged = src.unlogged;
      } in
      let fact = reading_fact acts_of salt start events pool serves served o.one grown in
      let name : RequestName = record { instance = src.instance; id = src.id } in
      let same = some_same name y (sym src.request ∙ ap (λ (v : ListedAct). v.request) o.call ∙ named) in
      let received : Contains (events_at src.instance (earlier ++ between)) (Receives src.id fact.timed.1) =
      contains_same (events_at src.instance (earlier ++ between)) (events_at src.instance src.earlier ++ events_at src.instance (answer ∷ (src.later ++ between))) (Receives src.id fact.timed.1)
      (ap (λ v. events_at src.instance v) more ∙ at_append src.instance src.earlier (answer ∷ (src.later ++ between)))
      (Contains-append_left (events_at src.instance src.earlier) (events_at src.instance (answer ∷ (src.later ++ between))) (Receives src.id fact.timed.1) fact.received) in
      (subst (λ (v : RequestName). NotReceived v (earlier ++ between)) (sym same) new) fact.timed.1 received

  pub not_in_front : (n : ℕ) (y : RequestName) (earlier between q : List PoolEvent) → events ≡ (earlier ++ between) ++ q → serves y.instance ≡ true → NotReceived y (earlier ++ between)
      → n ≤ most_given (earlier ++ between) → n ≤ length pool.log → Among (front n earlier) y → ⊥
  not_in_front n y earlier between q cut s new le fits a =
      elim (Contains-append_cases (upto acts_of these 0 (take n pool.log)) (at_slot n (readings serves [] earlier)) a.call a.there) [
        | inl up ↦ elim (in_upto acts_of these 0 (take n pool.log) a.call up) [
          | inl slots ↦ late_slots n y (earlier ++ between) q cut new le fits a.call a.named slots
          | inr batch ↦ late_batch n y (earlier ++ between) q cut s new le fits a.call a.named batch
        ]
        | inr here ↦ late_here n y earlier between q cut new a.call a.named (in_slot n (readings serves [] earlier) a.call here)
      ]
