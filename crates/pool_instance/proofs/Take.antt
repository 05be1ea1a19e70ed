-- Lemmas: an entry that is taken, and the replies to the own requests in it.
use Rattle.std.proofs.Common.{◌≡◌, ◌==◌, ℕ, zero, suc, ◌+◌, true, false, List, [], ◌∷◌, ◌++◌, length, map, take, Option, Some, None, slice_get, refl, sym, ap, subst, ◌∙◌, arith, inl, inr, append_assoc, length-append}
use Rattle.std.specs.Prelude.{Contains, count_by}
use Rattle.std.specs.List.{flat_map}
use Rattle.std.specs.declared.vec.Vec.{Vec}
use Rattle.std.proofs.lemmas.List.{append-nil, take_at}
use Rattle.std.proofs.lemmas.List.Concat.{flat_map-append}
use Rattle.std.proofs.lemmas.List.Elements.{Contains-append_cases, Contains-append_right}
use Rattle.entity_core.specs.Airspace.{Airspace}
use Rattle.service_step.specs.declared.reply.Reply.{Reply}
use Rattle.pool_core.specs.Acts.{Act, act_step, airspace_by, replies_by}
use Rattle.pool_core.specs.Events.{Answers, Batch, Gets, InPlace, InstanceEvent, batches_offered, entries_given, log_events}
use Rattle.pool_core.specs.Log.{LogEntry}
use Rattle.pool_core.specs.Serves.{AllMayFollow, IsReplyInPlace, acts_in}
use Rattle.pool_core.proofs.Acts.{after_append, replies_append}
use Rattle.pool_core.proofs.Lists.{contains_head, contains_none, contains_one, count_append, count_no, count_yes, get_at, some_same}
use Rattle.pool_core.proofs.Projections.{given_append, offered_append}
use Rattle.pool_entry.specs.Acts.{acts_of}
use Rattle.pool_instance.specs.Does.{in_place}
use Rattle.pool_instance.specs.Lists.{AreReplies, told_of}
use Rattle.pool_instance.specs.Parts.{number_of}
use Rattle.pool_instance.specs.State.{AreOfBatch, AreRequests, IsInFlight, count_own}
use Rattle.pool_instance.specs.Request.{call_of}
use Rattle.pool_instance.specs.declared.waiting.Held.{Held}
use Rattle.pool_instance.specs.declared.waiting.Reading.{Reading}
use Rattle.pool_instance.proofs.After.{AreQuiet, given_quiet, offered_quiet}
use Rattle.pool_instance.proofs.Pending.{ids_times, requests_then}
use Rattle.pool_instance.proofs.Steps.{IsNoReceipt, stage_more}
use Rattle.pool_instance.proofs.Times.{times_cons}

-- ---- the policy over acts

module _ (salt : List ℕ) where
  pub replies_long : (a : Airspace) (xs : List Act) → length (replies_by salt a xs) ≡ length xs
  replies_long a [] = refl
  replies_long a (x ∷ xs) = ap (λ v. suc v) (replies_long (act_step salt a x).0 xs)

get_some : {X : Type 0} (xs : List X) (ys : List (Option X)) (n : ℕ) (x : X) → slice_get xs n ≡ Some x → slice_get (map (λ v. Some v) xs ++ ys) n ≡ Some (Some x)
get_some [] ys n x h = absurd cc
get_some (y ∷ xs) ys zero x h = ap (λ v. Some (Some v)) (some_same y x h)
get_some (y ∷ xs) ys (suc n) x h = get_some xs ys n x h

-- A reply is at the position of its act.
reply_there : (replies : List Reply) (all : List (Option Reply)) (n : ℕ) (reply : Reply) → AreReplies replies all → slice_get replies n ≡ Some reply → slice_get all n ≡ Some (Some reply)
reply_there replies all n reply are h = ap (λ v. slice_get v n) are.are ∙ get_some replies are.others n reply h

pub get_behind : {X : Type 0} (xs ys : List X) (n m : ℕ) → length xs ≡ n → slice_get (xs ++ ys) (n + m) ≡ slice_get ys m
get_behind [] ys n m h = let e : n + m ≡ m = omega (arith, h) in ap (λ v. slice_get ys v) e
get_behind (x ∷ xs) ys zero m h = absurd (omega (arith, h))
get_behind (x ∷ xs) ys (suc n) m h = let e : suc n + m ≡ suc (n + m) = omega arith in ap (λ v. slice_get (x ∷ (xs ++ ys)) v) e ∙ get_behind xs ys n m (omega (arith, h))

-- ---- replies with numbers

-- A reply to a request of a batch is at the position of its number.
pub record ToldAt (slots : List (Option ℕ)) (ids : List ℕ) (replies : List Reply) (t : ℕ × Reply) : Type 0 where
  pub position : ℕ
  pub asked : slice_get ids position ≡ Some t.0
  pub reply : slice_get replies position ≡ Some t.1

told_behind : (slot : Option ℕ) (slots : List (Option ℕ)) (id : ℕ) (ids : List ℕ) (reply : Reply) (replies : List Reply) (t : ℕ × Reply) → ToldAt slots ids replies t → ToldAt (slot ∷ slots) (id ∷ ids) (reply ∷ replies) t
told_behind slot slots id ids reply replies t at = record { position = suc at.position; asked = at.asked; reply = at.reply }

pub told_at : (slots : List (Option ℕ)) (ids : List ℕ) (replies : List Reply) (t : ℕ × Reply) → AreOfBatch slots ids → Contains (told_of slots replies) t → ToldAt slots ids replies t
told_at [] ids replies t of h = contains_none t h
told_at (slot ∷ slots) ids [] t of h = contains_none t h
told_at (slot ∷ slots) [] (reply ∷ replies) t of h = absurd of
told_at (None ∷ slots) (id ∷ ids) (reply ∷ replies) t of h = told_behind None slots id ids reply replies t (told_at slots ids replies t of h)
told_at (Some k ∷ slots) (id ∷ ids) (reply ∷ replies) t of h = elim (Contains-append_cases ((k, reply) ∷ []) (told_of slots replies) t h) [
  | inl here ↦
      let same : (k, reply) ≡ t = contains_one (k, reply) t here in
      record {
        position = 0;
        asked = ap (λ v. Some v) (sym of.0 ∙ ap (λ (v : ℕ × Reply). v.0) same);
        reply = ap (λ (v : ℕ × Reply). Some v.1) same;
      }
  | inr there ↦ told_behind (Some k) slots id ids reply replies t (told_at slots ids replies t of.1 there)
]

-- Each number of a batch has a reply, if there are as many replies as requests.
pub told_ids : (slots : List (Option ℕ)) (replies : List Reply) → length slots ≡ length replies → map (λ (t : ℕ × Reply). t.0) (told_of slots replies) ≡ flat_map number_of slots
told_ids [] replies h = refl
told_ids (slot ∷ slots) [] h = absurd (omega (arith, h))
told_ids (None ∷ slots) (reply ∷ replies) h = told_ids slots replies (omega (arith, h))
told_ids (Some id ∷ slots) (reply ∷ replies) h = ap (λ v. id ∷ v) (told_ids slots replies (omega (arith, h)))

-- ---- answers in their place

pub answers_quiet : (me : ℕ) (told : List (ℕ × Reply)) → AreQuiet me (map in_place told)
answers_quiet me [] = record { given = refl; offered = refl }
answers_quiet me (t ∷ told) = let q = answers_quiet me told in record { given = q.given; offered = q.offered }

pub answers_unlogged : (told : List (ℕ × Reply)) → log_events (map in_place told) ≡ []
answers_unlogged [] = refl
answers_unlogged (t ∷ told) = answers_unlogged told

answer_no_receipt : (id : ℕ) (reply : Reply) → IsNoReceipt (Answers id InPlace reply)
answer_no_receipt id reply k call h = cc

module _ (rs : List Reading) (hs : List Held) (n : ℕ) where
  -- A request of the batch in flight that got its reply.
  pub answered_next : (events : List InstanceEvent) (id : ℕ) (slots : List (Option ℕ)) (reply : Reply) → AreRequests events rs hs (Some id ∷ slots) n → AreRequests (events ++ Answers id InPlace reply ∷ []) rs hs slots n
  answered_next events id slots reply all =
      requests_then events rs hs (Some id ∷ slots) n all (Answers id InPlace reply) (answer_no_receipt id reply) rs hs slots
      (λ r h. (r, h, refl, λ w. stage_more events (Answers id InPlace reply ∷ []) r.held.id (call_of r.held.request) r.stage w.stage))
      (λ x h. h)
      (λ k. omega (arith, ids_times k rs hs slots, ids_times k rs hs (Some id ∷ slots), times_cons k id (flat_map number_of slots)))
      (λ k some. refl)
      (λ k. omega (arith, all.offered k))
      (λ k some. absurd (omega (arith, some)))

  -- A number that is not there counts for nothing.
  pub slot_free : (events : List InstanceEvent) (slots : List (Option ℕ)) → AreRequests events rs hs (None ∷ slots) n → AreRequests events rs hs slots n
  slot_free events slots all = record {
    readings = all.readings;
    unsent = all.unsent;
    sent = λ id h. all.sent id (Contains-append_right (None ∷ []) slots (Some id) h);
    kept = all.kept;
    apart = all.apart;
    offered = all.offered;
    numbered = all.numbered;
    ended_below = all.ended_below;
    offered_below = all.offered_below;
  }

  answered_rest : (events : List InstanceEvent) (e : InstanceEvent) (more : List InstanceEvent) → AreRequests ((events ++ e ∷ []) ++ more) rs hs [] n → AreRequests (events ++ e ∷ more) rs hs [] n
  answered_rest events e more all = subst (λ (v : List InstanceEvent). AreRequests v rs hs [] n) (append_assoc events (e ∷ []) more) all

  -- All requests of the batch in flight got their replies.
  pub answered_all : (events : List InstanceEvent) (slots : List (Option ℕ)) (replies : List Reply) → length slots ≡ length replies → AreRequests events rs hs slots n → AreRequests (events ++ map in_place (told_of slots replies)) rs hs [] n
  answered_all events [] replies h all = subst (λ (v : List InstanceEvent). AreRequests v rs hs [] n) (sym (append-nil events)) all
  answered_all events (slot ∷ slots) [] h all = absurd (omega (arith, h))
  answered_all events (None ∷ slots) (reply ∷ replies) h all = answered_all events slots replies (omega (arith, h)) (slot_free events slots all)
  answered_all events (Some id ∷ slots) (reply ∷ replies) h all =
      answered_rest events (Answers id InPlace reply) (map in_place (told_of slots replies))
      (answered_all (events ++ Answers id InPlace reply ∷ []) slots replies (omega (arith, h)) (answered_next events id slots reply all))

  module _ (salt : List ℕ) (start : Airspace) (me : ℕ) where
    in_place_later : (events more : List InstanceEvent) (id : ℕ) (reply : Reply) → AreQuiet me more → IsReplyInPlace acts_of salt start me events id reply → IsReplyInPlace acts_of salt start me (events ++ more) id reply
    in_place_later events more id reply q h =
        let g = given_quiet me events more q in
        let o = offered_quiet me events more q in
        record {
          index = h.index;
          entry = h.entry;
          given = ap (λ (v : List LogEntry). slice_get v h.index) g ∙ h.given;
          own = h.own;
          batch = h.batch;
          offered =
              ap (λ (v : List LogEntry). slice_get (batches_offered me (events ++ more)) (count_by (λ entry. me == entry.writer) (take h.index v))) g
              ∙ ap (λ (v : List Batch). slice_get v (count_by (λ entry. me == entry.writer) (take h.index (entries_given events)))) o ∙ h.offered;
          position = h.position;
          asked = h.asked;
          is_policy =
              ap (λ (v : List LogEntry). slice_get (replies_by salt start (acts_in acts_of v)) (length (acts_in acts_of (take h.index v)) + h.position)) g ∙ h.is_policy;
        }

    -- The replies follow, each for a request that is open.
    pub answers_follow : (events : List InstanceEvent) (slots : List (Option ℕ)) (replies : List Reply) → AreRequests events rs hs slots n
        → ((t : ℕ × Reply) → Contains (told_of slots replies) t → IsReplyInPlace acts_of salt start me events t.0 t.1)
        → AllMayFollow acts_of salt start me events (map in_place (told_of slots replies))
    answers_follow events [] replies all h = tt
    answers_follow events (slot ∷ slots) [] all h = tt
    answers_follow events (None ∷ slots) (reply ∷ replies) all h = answers_follow events slots replies (slot_free events slots all) h
    answers_follow events (Some id ∷ slots) (reply ∷ replies) all h = (
      (all.sent id (contains_head (Some id) slots), h (id, reply) (contains_head (id, reply) (told_of slots replies))),
      answers_follow (events ++ Answers id InPlace reply ∷ []) slots replies (answered_next events id slots reply all)
          (λ t k. in_place_later events (Answers id InPlace reply ∷ []) t.0 t.1 (record { given = refl; offered = refl })
          (h t (Contains-append_right ((id, reply) ∷ []) (told_of slots replies) t k))),
    )

-- ---- an own entry

module _ (salt : List ℕ) (start : Airspace) (me : ℕ) (events : List InstanceEvent) (entry : LogEntry) where
  abbrev later : List InstanceEvent
  later = events ++ Gets entry ∷ []

  pub given_is : entries_given later ≡ entries_given events ++ entry ∷ []
  given_is = given_append events (Gets entry ∷ [])

  pub offered_is : batches_offered me later ≡ batches_offered me events
  offered_is = offered_append me events (Gets entry ∷ []) ∙ append-nil (batches_offered me events)

  pub calls_are : acts_in acts_of (entries_given later) ≡ acts_in acts_of (entries_given events) ++ acts_of entry.bytes
  calls_are =
      ap (λ (v : List LogEntry). acts_in acts_of v) given_is ∙ flat_map-append (λ (e : LogEntry). acts_of e.bytes) (entries_given events) (entry ∷ [])
      ∙ ap (λ v. acts_in acts_of (entries_given events) ++ v) (append-nil (acts_of entry.bytes))

  take_before : take (length (entries_given events)) (entries_given later) ≡ entries_given events
  take_before = ap (λ (v : List LogEntry). take (length (entries_given events)) v) given_is ∙ take_at (entries_given events) (entry ∷ []) (length (entries_given events)) refl

  -- The airspace after the entry.
  pub airspace_is : airspace_by salt start (acts_in acts_of (entries_given later)) ≡ airspace_by salt (airspace_by salt start (acts_in acts_of (entries_given events))) (acts_of entry.bytes)
  airspace_is = ap (λ (v : List Act). airspace_by salt start v) calls_are ∙ after_append salt start (acts_in acts_of (entries_given events)) (acts_of entry.bytes)

  -- The replies of the policy to the calls of the entry stand behind the others.
  pub reply_behind : (position : ℕ) → slice_get (replies_by salt start (acts_in acts_of (entries_given later))) (length (acts_in acts_of (entries_given events)) + position)
      ≡ slice_get (replies_by salt (airspace_by salt start (acts_in acts_of (entries_given events))) (acts_of entry.bytes)) position
  reply_behind position =
      let before = acts_in acts_of (entries_given events) in
      ap (λ (v : List Act). slice_get (replies_by salt start v) (length before + position)) calls_are
      ∙ ap (λ (v : List (Option Reply)). slice_get v (length before + position)) (replies_append salt start before (acts_of entry.bytes))
      ∙ get_behind (replies_by salt start before) (replies_by salt (airspace_by salt start before) (acts_of entry.bytes)) (length before) position (replies_long salt start before)

  module _ (own : entry.writer ≡ me) (earlier : List Batch) (batch : Batch) (offers : batches_offered me events ≡ earlier ++ batch ∷ []) (count : length earlier ≡ count_own me events)
      (slots : List (Option ℕ)) (of : AreOfBatch slots batch.ids) (replies : List Reply)
      (policy : AreReplies replies (replies_by salt (airspace_by salt start (acts_in acts_of (entries_given events))) (acts_of entry.bytes))) where
    -- Each reply to a request of the batch is in its place.
    pub told_in_place : (t : ℕ × Reply) → Contains (told_of slots replies) t → IsReplyInPlace acts_of salt start me later t.0 t.1
    told_in_place t h =
        let at = told_at slots batch.ids replies t of h in
        let before = entries_given events in
        record {
          index = length before;
          entry = entry;
          given = ap (λ (v : List LogEntry). slice_get v (length before)) given_is ∙ get_at before entry [];
          own = own;
          batch = batch;
          offered =
              ap (λ (v : List LogEntry). slice_get (batches_offered me later) (count_by (λ e. me == e.writer) v)) take_before
              ∙ ap (λ n. slice_get (batches_offered me later) n) (sym count)
              ∙ ap (λ (v : List Batch). slice_get v (length earlier)) (offered_is ∙ offers) ∙ get_at earlier batch [];
          position = at.position;
          asked = at.asked;
          is_policy =
              ap (λ (v : List LogEntry). slice_get (replies_by salt start (acts_in acts_of (entries_given later))) (length (acts_in acts_of v) + at.position)) take_before
              ∙ reply_behind at.position
              ∙ reply_there replies (replies_by salt (airspace_by salt start (acts_in acts_of (entries_given events))) (acts_of entry.bytes)) at.position t.1 policy at.reply;
        }

-- ---- the batch in flight

pub own_count : (me : ℕ) (events : List InstanceEvent) (entry : LogEntry) → count_own me (events ++ Gets entry ∷ []) ≡ count_own me events + count_by (λ (e : LogEntry). me == e.writer) (entry ∷ [])
own_count me events entry =
    ap (λ (v : List LogEntry). count_by (λ e. me == e.writer) v) (given_append events (Gets entry ∷ [])) ∙ count_append (λ (e : LogEntry). me == e.writer) (entries_given events) (entry ∷ [])

flight_by : {A : Type 0} (me : ℕ) (events then : List InstanceEvent) (f : Option (Vec (Option ℕ) A)) → count_own me then ≡ count_own me events → batches_offered me then ≡ batches_offered me events → IsInFlight me events f → IsInFlight me then f
flight_by me events then None none same h = ap (λ (v : List Batch). length v) same ∙ h ∙ sym none
flight_by me events then (Some sent) none same h = (h.0, (h.1.0, same ∙ h.1.1, h.1.2 ∙ sym none, h.1.3))

pub flight_other : {A : Type 0} (me : ℕ) (events : List InstanceEvent) (entry : LogEntry) (f : Option (Vec (Option ℕ) A)) → (me == entry.writer) ≡ false → IsInFlight me events f → IsInFlight me (events ++ Gets entry ∷ []) f
flight_other me events entry f other h =
    let none : count_own me (events ++ Gets entry ∷ []) ≡ count_own me events = omega (arith, own_count me events entry, count_no (λ (e : LogEntry). me == e.writer) entry [] other) in
    let same : batches_offered me (events ++ Gets entry ∷ []) ≡ batches_offered me events = offered_append me events (Gets entry ∷ []) ∙ append-nil (batches_offered me events) in
    flight_by me events (events ++ Gets entry ∷ []) f none same h

pub flight_taken : (me : ℕ) (events : List InstanceEvent) (entry : LogEntry) (earlier : List Batch) (batch : Batch) → batches_offered me events ≡ earlier ++ batch ∷ [] → length earlier ≡ count_own me events
    → (me == entry.writer) ≡ true → length (batches_offered me (events ++ Gets entry ∷ [])) ≡ count_own me (events ++ Gets entry ∷ [])
flight_taken me events entry earlier batch offers count own =
    let same : batches_offered me (events ++ Gets entry ∷ []) ≡ batches_offered me events = offered_append me events (Gets entry ∷ []) ∙ append-nil (batches_offered me events) in
    omega (
      arith,
      ap (λ (v : List Batch). length v) (same ∙ offers),
      length-append earlier (batch ∷ []),
      count,
      own_count me events entry,
      count_yes (λ (e : LogEntry). me == e.writer) entry [] own,
    )
