-- Lemmas: an instance that serves from a file serves from the beginning, if it is told as given the entries of the file at its start.
use Rattle.std.proofs.Common.{◌≡◌, ◌==◌, ℕ, suc, ◌+◌, ◌≤◌, cond, List, [], ◌∷◌, ◌++◌, length, map, take, slice_get, refl, sym, ap, subst, ◌∙◌, append_assoc, arith, inl, inr, length-append}
use Rattle.std.specs.Prelude.{Contains, count_by}
use Rattle.std.proofs.Math.Seq.{take-append-add}
use Rattle.std.proofs.lemmas.List.{append-nil, length-map, length-take-le, map-append}
use Rattle.std.proofs.lemmas.List.Concat.{flat_map-append}
use Rattle.std.proofs.lemmas.List.Elements.{Contains-append_cases, Contains-append_right}
use Rattle.std.proofs.lemmas.List.Sums.{length-filter}
use Rattle.entity_core.specs.Airspace.{Airspace}
use Rattle.policy_core.specs.declared.call.Call.{Call}
use Rattle.service_step.specs.declared.reply.Reply.{Reply}
use Rattle.service_step.specs.Step.{step}
use Rattle.service_calls.specs.Run.{TimedCall}
use Rattle.pool_core.specs.Acts.{Act, Makes, Purges, act_step, airspace_by, replies_by}
use Rattle.pool_core.specs.Events.{AfterFirst, Answers, AsksForEnd, AtOnce, Basis, Batch, Drops, Fails, Gets, InPlace, InstanceEvent, LearnsEnd, Offers, Receives, batches_offered, entries_given}
use Rattle.pool_core.specs.FromFiles.{file_of}
use Rattle.pool_core.specs.Log.{LogEntry}
use Rattle.pool_core.specs.Pool.{batches_by, entry_of_batch}
use Rattle.pool_core.specs.Serves.{AllMayFollow, AreOpen, IsOpen, IsReplyAfter, IsReplyBy, IsReplyInPlace, MayFollow, ReachesEnd, ServesPool, acts_in, airspace_at, ended_in, ids_ended, ids_offered, offered_in, times}
use Rattle.pool_core.proofs.Acts.{after_append, replies_append}
use Rattle.pool_core.proofs.Lists.{contains_at, contains_same, contains_split, count_append, count_cons, map_split}
use Rattle.pool_core.proofs.Projections.{given_append, offered_append}
use Rattle.pool_core.proofs.Retold.{from_receives, gets_all, given_all_shifted, given_gets, offered_all_shifted, offered_gets, shifted, shifted_basis}
use Rattle.pool_core.proofs.Served.{serves_then}

-- ---- lists

get_past : {X : Type 0} (xs ys : List X) (n : ℕ) → slice_get (xs ++ ys) (length xs + n) ≡ slice_get ys n
get_past [] ys n = let e : 0 + n ≡ n = omega arith in ap (λ v. slice_get ys v) e
get_past (x ∷ xs) ys n =
    let e : length (x ∷ xs) + n ≡ suc (length xs + n) = omega arith in
    ap (λ v. slice_get (x ∷ (xs ++ ys)) v) e ∙ get_past xs ys n

contains_map : {X Y : Type 0} (f : X → Y) (xs : List X) (x : X) → Contains xs x → Contains (map f xs) (f x)
contains_map f xs x h =
    let s = contains_split xs x h in
    contains_same (map f xs) (map f s.front ++ f x ∷ map f s.back) (f x) (ap (λ v. map f v) s.split ∙ map-append f s.front (x ∷ s.back)) (contains_at (map f s.front) (f x) (map f s.back))

replies_long : (salt : List ℕ) (a : Airspace) (xs : List Act) → length (replies_by salt a xs) ≡ length xs
replies_long salt a [] = refl
replies_long salt a (x ∷ xs) = omega (arith, replies_long salt (act_step salt a x).0 xs)

own_count : (w : ℕ) (xs : List Batch) → count_by (λ (e : LogEntry). w == e.writer) (map entry_of_batch xs) ≡ count_by (λ (b : Batch). w == b.writer) xs
own_count w [] = refl
own_count w (b ∷ xs) =
    count_cons (λ (e : LogEntry). w == e.writer) (entry_of_batch b) (map entry_of_batch xs)
    ∙ ap (λ v. cond (w == b.writer) 1 0 + v) (own_count w xs)
    ∙ sym (count_cons (λ (v : Batch). w == v.writer) b xs)

-- ---- what is read off events with other counts

offered_one : (n : ℕ) (e : InstanceEvent) → offered_in (shifted n e) ≡ offered_in e
offered_one n (Receives a b) = refl
offered_one n (Offers a b) = refl
offered_one n (Gets a) = refl
offered_one n (AsksForEnd a) = refl
offered_one n (LearnsEnd a b) = refl
offered_one n (Answers a b c) = refl
offered_one n (Fails a) = refl
offered_one n (Drops a) = refl

ended_one : (n : ℕ) (e : InstanceEvent) → ended_in (shifted n e) ≡ ended_in e
ended_one n (Receives a b) = refl
ended_one n (Offers a b) = refl
ended_one n (Gets a) = refl
ended_one n (AsksForEnd a) = refl
ended_one n (LearnsEnd a b) = refl
ended_one n (Answers a b c) = refl
ended_one n (Fails a) = refl
ended_one n (Drops a) = refl

offered_shift : (n : ℕ) (es : List InstanceEvent) → ids_offered (map (shifted n) es) ≡ ids_offered es
offered_shift n [] = refl
offered_shift n (e ∷ es) = ap (λ v. v ++ ids_offered (map (shifted n) es)) (offered_one n e) ∙ ap (λ v. offered_in e ++ v) (offered_shift n es)

ended_shift : (n : ℕ) (es : List InstanceEvent) → ids_ended (map (shifted n) es) ≡ ids_ended es
ended_shift n [] = refl
ended_shift n (e ∷ es) = ap (λ v. v ++ ids_ended (map (shifted n) es)) (ended_one n e) ∙ ap (λ v. ended_in e ++ v) (ended_shift n es)

pub offered_none : (batches : List Batch) → ids_offered (gets_all batches) ≡ []
offered_none [] = refl
offered_none (b ∷ batches) = offered_none batches

ended_none : (batches : List Batch) → ids_ended (gets_all batches) ≡ []
ended_none [] = refl
ended_none (b ∷ batches) = ended_none batches

module _ (log : List Batch) (offset : ℕ) where
  abbrev first : List Batch
  first = take offset log

  abbrev entries : List LogEntry
  entries = map entry_of_batch first

  -- The events, told so.
  abbrev pub told : List InstanceEvent → List InstanceEvent
  told es = gets_all first ++ map (shifted offset) es

  pub ids_offered_told : (es : List InstanceEvent) → ids_offered (told es) ≡ ids_offered es
  ids_offered_told es =
      flat_map-append offered_in (gets_all first) (map (shifted offset) es)
      ∙ ap (λ v. v ++ ids_offered (map (shifted offset) es)) (offered_none first) ∙ offered_shift offset es

  pub ids_ended_told : (es : List InstanceEvent) → ids_ended (told es) ≡ ids_ended es
  ids_ended_told es =
      flat_map-append ended_in (gets_all first) (map (shifted offset) es)
      ∙ ap (λ v. v ++ ids_ended (map (shifted offset) es)) (ended_none first) ∙ ended_shift offset es

  given_told : (es : List InstanceEvent) → entries_given (told es) ≡ entries ++ entries_given es
  given_told es =
      given_append (gets_all first) (map (shifted offset) es)
      ∙ ap (λ v. v ++ entries_given (map (shifted offset) es)) (given_gets first)
      ∙ ap (λ v. entries ++ v) (given_all_shifted offset es)

  offered_told : (me : ℕ) (es : List InstanceEvent) → batches_offered me (told es) ≡ batches_offered me es
  offered_told me es =
      offered_append me (gets_all first) (map (shifted offset) es)
      ∙ ap (λ v. v ++ batches_offered me (map (shifted offset) es)) (offered_gets me first)
      ∙ offered_all_shifted me offset es

  contains_told : (es : List InstanceEvent) (e : InstanceEvent) → Contains es e → Contains (told es) (shifted offset e)
  contains_told es e h = Contains-append_right (gets_all first) (map (shifted offset) es) (shifted offset e) (contains_map (shifted offset) es e h)

  pub no_receipt : (batches : List Batch) (id : ℕ) (call : Call) → Contains (gets_all batches) (Receives id call) → ⊥
  no_receipt batches id call h =
      let s = contains_split (gets_all batches) (Receives id call) h in
      let m = map_split (λ b. Gets (entry_of_batch b)) batches s.front (Receives id call) s.back s.split in
      let clash : Gets (entry_of_batch m.one) ≡ Receives id call = m.same in
      absurd cc

  receipt_shift : (es : List InstanceEvent) (id : ℕ) (call : Call) → Contains (map (shifted offset) es) (Receives id call) → Contains es (Receives id call)
  receipt_shift es id call h =
      let s = contains_split (map (shifted offset) es) (Receives id call) h in
      let m = map_split (shifted offset) es s.front (Receives id call) s.back s.split in
      let same = from_receives offset m.one id call m.same in
      contains_same es (m.front ++ Receives id call ∷ m.back) (Receives id call) (m.split ∙ ap (λ v. m.front ++ v ∷ m.back) same) (contains_at m.front (Receives id call) m.back)

  pub receipt_told : (es : List InstanceEvent) (id : ℕ) (call : Call) → Contains (told es) (Receives id call) → Contains es (Receives id call)
  receipt_told es id call h = elim (Contains-append_cases (gets_all first) (map (shifted offset) es) (Receives id call) h) [
    | inl gift ↦ absurd (no_receipt first id call gift)
    | inr own ↦ receipt_shift es id call own
  ]

  open_told : (es : List InstanceEvent) (id : ℕ) (call : Call) → IsOpen es id call → IsOpen (told es) id call
  open_told es id call h = record { received = contains_told es (Receives id call) h.received; unended = ap (λ v. times id v) (ids_ended_told es) ∙ h.unended }

  are_open_told : (es : List InstanceEvent) (ids : List ℕ) (acts : List Act) → AreOpen es ids acts → AreOpen (told es) ids acts
  are_open_told es [] [] h = tt
  are_open_told es [] (Makes timed ∷ acts) h = h
  are_open_told es [] (Purges until ∷ acts) h = are_open_told es [] acts h
  are_open_told es (id ∷ ids) [] h = h
  are_open_told es (id ∷ ids) (Makes timed ∷ acts) h = (open_told es id timed.1 h.0, are_open_told es ids acts h.1)
  are_open_told es (id ∷ ids) (Purges until ∷ acts) h = h

  end_told : (es : List InstanceEvent) (id : ℕ) (call : Call) (count : ℕ) → ReachesEnd es id call count → ReachesEnd (told es) id call (offset + count)
  end_told es id call count h =
      let s = shifted offset in
      let learn = LearnsEnd h.question (offset + h.end) in
      let last = map s h.asking ++ learn ∷ map s h.later in
      let middle = map s h.waiting ++ AsksForEnd h.question ∷ last in
      record {
        earlier = told h.earlier;
        waiting = map s h.waiting;
        asking = map s h.asking;
        later = map s h.later;
        question = h.question;
        end = offset + h.end;
        events = ap (λ v. gets_all first ++ map s v) h.events
            ∙ ap (λ v. gets_all first ++ v) (map-append s h.earlier (Receives id call ∷ (h.waiting ++ AsksForEnd h.question ∷ (h.asking ++ LearnsEnd h.question h.end ∷ h.later))))
            ∙ ap (λ v. gets_all first ++ (map s h.earlier ++ Receives id call ∷ v)) (map-append s h.waiting (AsksForEnd h.question ∷ (h.asking ++ LearnsEnd h.question h.end ∷ h.later)))
            ∙ ap (λ v. gets_all first ++ (map s h.earlier ++ Receives id call ∷ (map s h.waiting ++ AsksForEnd h.question ∷ v))) (map-append s h.asking (LearnsEnd h.question h.end ∷ h.later))
            ∙ sym (append_assoc (gets_all first) (map s h.earlier) (Receives id call ∷ middle));
        reached = omega (arith, h.reached);
      }

  module _ (acts_of : List ℕ → List Act) (salt : List ℕ) (start : Airspace) (fits : offset ≤ length log) where
    long : length entries ≡ offset
    long = omega (arith, length-map first entry_of_batch, length-take-le offset log fits)

    abbrev acts : List LogEntry → List Act
    acts es = acts_in acts_of es

    abbrev file : Airspace
    file = file_of acts_of salt start log offset

    acts_more : (more : List LogEntry) → acts (entries ++ more) ≡ acts entries ++ acts more
    acts_more more = flat_map-append (λ (e : LogEntry). acts_of e.bytes) entries more

    taken : (es : List InstanceEvent) (count : ℕ) → take (offset + count) (entries_given (told es)) ≡ entries ++ take count (entries_given es)
    taken es count =
        ap (λ v. take (offset + count) v) (given_told es)
        ∙ ap (λ v. take (v + count) (entries ++ entries_given es)) (sym long)
        ∙ take-append-add entries (entries_given es) count

    airspace_told : (es : List InstanceEvent) (count : ℕ) → airspace_at acts_of salt start (entries_given (told es)) (offset + count) ≡ airspace_at acts_of salt file (entries_given es) count
    airspace_told es count =
        ap (λ v. airspace_by salt start (acts v)) (taken es count)
        ∙ ap (λ v. airspace_by salt start v) (acts_more (take count (entries_given es)))
        ∙ after_append salt start (acts entries) (acts (take count (entries_given es)))

    module _ (me : ℕ) (fresh : length (batches_by me (take offset log)) ≡ 0) where
      no_own : count_by (λ (e : LogEntry). me == e.writer) entries ≡ 0
      no_own = own_count me first ∙ sym (length-filter (λ (b : Batch). me == b.writer) first) ∙ fresh

      in_place_told : (es : List InstanceEvent) (id : ℕ) (reply : Reply) → IsReplyInPlace acts_of salt file me es id reply → IsReplyInPlace acts_of salt start me (told es) id reply
      in_place_told es id reply h =
          let own = λ (e : LogEntry). me == e.writer in
          let given = entries_given es in
          let counted : count_by own (take (offset + h.index) (entries_given (told es))) ≡ count_by own (take h.index given) =
          ap (λ v. count_by own v) (taken es h.index) ∙ count_append own entries (take h.index given) ∙ omega (arith, no_own) in
          let first_replies = replies_by salt start (acts entries) in
          let replies : replies_by salt start (acts (entries_given (told es))) ≡ first_replies ++ replies_by salt file (acts given) =
          ap (λ v. replies_by salt start (acts v)) (given_told es) ∙ ap (λ v. replies_by salt start v) (acts_more given) ∙ replies_append salt start (acts entries) (acts given) in
          let past : length (acts (take (offset + h.index) (entries_given (told es)))) ≡ length (acts entries) + length (acts (take h.index given)) =
          ap (λ v. length (acts v)) (taken es h.index) ∙ ap (λ v. length v) (acts_more (take h.index given)) ∙ length-append (acts entries) (acts (take h.index given)) in
          let place : length (acts (take (offset + h.index) (entries_given (told es)))) + h.position ≡ length first_replies + (length (acts (take h.index given)) + h.position) =
          omega (arith, past, replies_long salt start (acts entries)) in
          record {
            index = offset + h.index;
            entry = h.entry;
            given = ap (λ v. slice_get v (offset + h.index)) (given_told es) ∙ ap (λ v. slice_get (entries ++ given) (v + h.index)) (sym long) ∙ get_past entries given h.index ∙ h.given;
            own = h.own;
            batch = h.batch;
            offered = ap (λ v. slice_get v (count_by own (take (offset + h.index) (entries_given (told es))))) (offered_told me es) ∙ ap (λ v. slice_get (batches_offered me es) v) counted ∙ h.offered;
            position = h.position;
            asked = h.asked;
            is_policy = ap (λ v. slice_get v (length (acts (take (offset + h.index) (entries_given (told es)))) + h.position)) replies
                ∙ ap (λ v. slice_get (first_replies ++ replies_by salt file (acts given)) v) place
                ∙ get_past first_replies (replies_by salt file (acts given)) (length (acts (take h.index given)) + h.position)
                ∙ h.is_policy;
          }

      after_told : (es : List InstanceEvent) (id count : ℕ) (timed : TimedCall) (reply : Reply) → IsReplyAfter acts_of salt file me es id count timed reply → IsReplyAfter acts_of salt start me (told es) id (offset + count) timed reply
      after_told es id count timed reply h =
          record {
            unoffered = ap (λ v. times id v) (ids_offered_told es) ∙ h.unoffered;
            given = omega (arith, h.given, ap (λ v. length v) (given_told es), length-append entries (entries_given es), long);
            end = end_told es id timed.1 count h.end;
            is_policy = subst (λ v. step salt v timed.0 timed.1 ≡ (v, reply)) (sym (airspace_told es count)) h.is_policy;
          }

      reply_told : (es : List InstanceEvent) (id : ℕ) (basis : Basis) (reply : Reply) → IsReplyBy acts_of salt file me es id basis reply → IsReplyBy acts_of salt start me (told es) id (shifted_basis offset basis) reply
      reply_told es id InPlace reply h = ((h.0.0, open_told es id h.0.0 h.0.1), in_place_told es id reply h.1)
      reply_told es id (AfterFirst count timed) reply h = (open_told es id timed.1 h.0, after_told es id count timed reply h.1)
      reply_told es id (AtOnce timed) reply h = (
        open_told es id timed.1 h.0,
        record { unoffered = ap (λ v. times id v) (ids_offered_told es) ∙ h.1.unoffered; is_policy = h.1.is_policy },
      )

      follow_told : (es : List InstanceEvent) (e : InstanceEvent) → MayFollow acts_of salt file me es e → MayFollow acts_of salt start me (told es) (shifted offset e)
      follow_told es (Receives id call) h = λ other there. h other (receipt_told es id other there)
      follow_told es (Offers ids bytes) h = record {
        calls = are_open_told es ids (acts_of bytes) h.calls;
        once = λ id. subst (λ v. times id (v ++ ids) ≤ 1) (sym (ids_offered_told es)) (h.once id);
      }
      follow_told es (Gets entry) h = tt
      follow_told es (AsksForEnd question) h = tt
      follow_told es (LearnsEnd question count) h = tt
      follow_told es (Answers id basis reply) h = reply_told es id basis reply h
      follow_told es (Fails id) h = (h.0, open_told es id h.0 h.1)
      follow_told es (Drops id) h = ((h.0.0, open_told es id h.0.0 h.0.1), ap (λ v. times id v) (ids_offered_told es) ∙ h.1)

      told_more : (es : List InstanceEvent) (e : InstanceEvent) → told (es ++ e ∷ []) ≡ told es ++ shifted offset e ∷ []
      told_more es e = ap (λ v. gets_all first ++ v) (map-append (shifted offset) es (e ∷ [])) ∙ sym (append_assoc (gets_all first) (map (shifted offset) es) (shifted offset e ∷ []))

      all_told : (before es : List InstanceEvent) → AllMayFollow acts_of salt file me before es → AllMayFollow acts_of salt start me (told before) (map (shifted offset) es)
      all_told before [] h = tt
      all_told before (e ∷ es) h = (
        follow_told before e h.0,
        subst (λ v. AllMayFollow acts_of salt start me v (map (shifted offset) es)) (told_more before e) (all_told (before ++ e ∷ []) es h.1),
      )

      gifts_follow : (before : List InstanceEvent) (batches : List Batch) → AllMayFollow acts_of salt start me before (gets_all batches)
      gifts_follow before [] = tt
      gifts_follow before (b ∷ batches) = (tt, gifts_follow (before ++ Gets (entry_of_batch b) ∷ []) batches)

      pub serves_told : (es : List InstanceEvent) → ServesPool acts_of salt file me es → ServesPool acts_of salt start me (told es)
      serves_told es h =
          serves_then acts_of salt start me (gets_all first) (map (shifted offset) es) (gifts_follow [] first)
          (subst (λ v. AllMayFollow acts_of salt start me v (map (shifted offset) es)) (append-nil (gets_all first)) (all_told [] es h))
