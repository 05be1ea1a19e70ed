-- Lemmas: a request that waited for the end of the log and was answered, or not.
use Rattle.std.proofs.Common.{◌≡◌, ◌==◌, ◌&&◌, ℕ, Bool, true, false, List, [], ◌∷◌, ◌++◌, Option, Some, Ok, get_or, refl, sym, ap, subst, ◌∙◌, arith}
use Rattle.std.specs.Prelude.{Contains}
use Rattle.std.specs.List.{flat_map, remove}
use Rattle.std.proofs.lemmas.List.{append-nil, get_or_at}
use Rattle.std.proofs.lemmas.List.Elements.{Contains-append_left}
use Rattle.space_core.specs.declared.space.Space as spaces
use Rattle.service_step.specs.declared.reply.Reply.{Reply}
use Rattle.service_step.specs.declared.reply.Reply.TheVariants.{Done, Denied, Fault, Stopped}
use Rattle.service_step.specs.Reply.{is_stopped}
use Rattle.service_step.specs.Step.{IsDoneOrDenied}
use Rattle.service_calls.specs.Held.{Stays}
use Rattle.service_calls.specs.Run.{IsReplyTo}
use Rattle.service_calls.specs.declared.service.Service.{Service}
use Rattle.pool_core.specs.declared.log.Log as logs
use Rattle.pool_core.proofs.Lists.{contains_at, contains_same}
use Rattle.pool_instance.specs.Does.{HasOutcome, StoppedSo}
use Rattle.pool_instance.specs.Effects.{with_end}
use Rattle.pool_instance.specs.Evaluate.{ChangesNothing}
use Rattle.pool_instance.specs.Parts.{count_taken, heard_in, ids_of, is_due, is_due_as, is_ended, log_of, number_of, readings_in, retention_in, sent_in, unsent_ids, unsent_in}
use Rattle.pool_instance.specs.Request.{call_of}
use Rattle.pool_instance.specs.declared.fault.InstanceFault.TheVariants.{Ended}
use Rattle.pool_instance.specs.declared.instance.Instance.{Instance}
use Rattle.pool_instance.specs.declared.outcome.Outcome.TheVariants.{Failed, Replied}
use Rattle.pool_instance.specs.declared.waiting.Held.{Held}
use Rattle.pool_instance.specs.declared.waiting.Reading.{Reading}
use Rattle.pool_core.proofs.Histories.{continues_same}
use Rattle.pool_instance.proofs.After.{Stayed, requests_same}
use Rattle.pool_instance.proofs.Did.{did_end}
use Rattle.pool_instance.proofs.Ends.{unsent_reading}
use Rattle.pool_instance.proofs.Entries.{did_answer, did_fail}
use Rattle.pool_instance.proofs.Places.{Found}
use Rattle.pool_instance.proofs.Times.{both, remove_split}

pub final_reply : (r : Reply) → (r ≡ Fault → ⊥) → is_stopped r ≡ false → IsDoneOrDenied r
final_reply (Done a) h s = tt
final_reply (Denied p m) h s = tt
final_reply Fault h s = absurd (h refl)
final_reply Stopped h s = absurd (both true refl s)

-- The element at the place that was found.
pub found_is : {X : Type 0} (p : X → Bool) (xs : List X) (n : ℕ) (x : X) → (f : Found p xs n) → x ≡ get_or xs n x → f.one ≡ x
found_is p xs n x f read = sym (read ∙ ap (λ v. get_or v n x) f.split.split ∙ get_or_at f.split.front f.one f.split.back x n f.split.at)

-- The reading with a number that can be answered is one that can be answered, and has that number.
pub both_true : (a b : Bool) → a && b ≡ true → (a ≡ true) × (b ≡ true)
both_true true true h = (refl, refl)
both_true true false h = absurd cc
both_true false b h = absurd cc

abbrev pub due_as : (id taken : ℕ) (xs : List Reading) (n : ℕ) → Found (is_due_as id taken) xs n → Found (is_due taken) xs n
due_as id taken xs n f = record { one = f.one; split = f.split; passes = (both_true (f.one.held.id == id) (is_due taken f.one) f.passes).1 }

-- It is among the requests that have no reply.
pub reading_waits : (id taken : ℕ) (xs : List Reading) (hs : List Held) (slots : List (Option ℕ)) (n : ℕ) → Found (is_due_as id taken) xs n → Contains (ids_of xs hs slots) id
reading_waits id taken xs hs slots n f =
    let same : f.one.held.id ≡ id = (let e = (both_true (f.one.held.id == id) (is_due taken f.one) f.passes).0 in grind (arith, e)) in
    let w = unsent_reading xs hs f.split.front f.one f.split.back id f.split.split same in
    Contains-append_left (unsent_ids xs hs) (flat_map number_of slots) id w

pub id_due_as : (id taken : ℕ) (xs : List Reading) (n : ℕ) → (f : Found (is_due_as id taken) xs n) → f.one.held.id ≡ id
id_due_as id taken xs n f = let same = (both_true (f.one.held.id == id) (is_due taken f.one) f.passes).0 in grind (arith, same)

module _ {L S : Type 0} (gl : logs.Ghosts L) (gs : spaces.Ghosts S) where
  -- The service stopped.
  pub answer_stops : (old : Instance L S) (s : Service S) → Stays gs old.service s → StoppedSo gl gs old (with_end (record old { service = s })) Ended
  answer_stops old s stays =
      let new : Instance L S = with_end (record old { service = s }) in
      let stayed : Stayed gl gs old new [] = record { history = continues_same (gl.history (log_of old)) (gl.history (log_of old)) refl; writer = refl; salt = stays.salt; retention = refl; sound = stays.sound } in (
        refl,
        refl,
        did_end gl gs old new [] stayed refl refl refl refl refl refl refl refl (λ start events. tt)
            (λ events all.
            requests_same events (events ++ []) (readings_in old) (readings_in old) (unsent_in old) (unsent_in old) (sent_in old) (sent_in old) old.received old.received (append-nil events) refl refl refl refl all),
      )

  module _ (old new : Instance L S) (now : ℕ) (i : ℕ) (reply : Reply) (f : Found (is_due (count_taken old)) (readings_in old) i) (going : is_ended old ≡ false)
      (asked : IsReplyTo gs old.service new.service now (call_of f.one.held.request) reply) (plain : ChangesNothing (call_of f.one.held.request) reply) (log : log_of new ≡ log_of old) (less : readings_in new ≡ remove (readings_in old) i) (same_hs : unsent_in new ≡ unsent_in old)
      (same : new.in_flight ≡ old.in_flight) (taken : count_taken new ≡ count_taken old) (n : new.received ≡ old.received) (ended : is_ended new ≡ is_ended old) (goes : is_stopped reply ≡ false)
      (retained : retention_in new ≡ retention_in old) (heard : heard_in new ≡ heard_in old) where
    removed : readings_in new ≡ f.split.front ++ f.split.back
    removed = less ∙ ap (λ (v : List Reading). remove v i) f.split.split ∙ remove_split f.split.front f.one f.split.back i f.split.at

    pub answered_fault : reply ≡ Fault → HasOutcome gl gs now old new (Failed f.one.held.id)
    answered_fault is = (
      did_fail gl gs old new now f.split.front f.one f.split.back reply going f.split.split asked plain log removed same_hs same taken n ended goes retained heard,
      (
        f.one,
        contains_same (readings_in old) (f.split.front ++ f.one ∷ f.split.back) f.one f.split.split (contains_at f.split.front f.one f.split.back),
        refl,
        subst (λ (r : Reply). IsReplyTo gs old.service new.service now (call_of f.one.held.request) r) is asked,
      ),
    )

    pub answered_reply : IsDoneOrDenied reply → HasOutcome gl gs now old new (Replied f.one.held.id reply)
    answered_reply final = (
      call_of f.one.held.request,
      did_answer gl gs old new now f.split.front f.one f.split.back reply going f.split.split asked plain log removed same_hs same taken n ended goes retained heard f.passes final,
    )
