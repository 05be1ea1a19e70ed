-- The calls of acts.
use Rattle.std.proofs.Common.{◌≡◌, ◌∙◌, ℕ, Bool, List, [], ◌∷◌, ◌++◌, map, Option, refl, sym, ap, append_assoc, append-nil, inl, inr}
use Rattle.std.specs.List.{flat_map}
use Rattle.std.proofs.lemmas.List.Concat.{flat_map-append}
use Rattle.policy_core.specs.declared.call.Call.{Call}
use Rattle.service_calls.specs.Batches.{Batch, CallRecord, all_timed, timed_in, uncommitted}
use Rattle.service_calls.specs.Purged.{Segment}
use Rattle.service_calls.specs.Run.{TimedCall}
use Rattle.server_backend.specs.BackendEvent.{Advances, Announces, Answers, BackendEvent, Forgets, Gives, GivesNone, Receives, Settles, Stops}
use Rattle.server_backend.specs.declared.outcome.Received.{Received}
use Rattle.server_backend.specs.declared.outcome.Received.TheVariants as came
use Rattle.database_backend.specs.Batches.{Act, AreActsOf, Commits, IsActOf, IsCallAct, IsCommitAct, IsPurgeAct, Makes, Sweeps, acts_of_batch, acts_of_calls, acts_of_segment}
use Rattle.database_laws.specs.Serve.{all_timed_in}
use Rattle.database_laws.proofs.Asked.{called_in}

abbrev made_in : Act → List TimedCall
made_in (Makes made) = made.timed ∷ []
made_in (Commits outcome) = []
made_in (Sweeps until) = []

abbrev timed_made : List Act → List TimedCall
timed_made acts = flat_map made_in acts

-- ---- the acts of segments

of_calls : (calls : List CallRecord) → timed_made (acts_of_calls calls) ≡ map (λ it. it.timed) calls
of_calls [] = refl
of_calls (it ∷ calls) = ap (λ v. it.timed ∷ v) (of_calls calls)

of_batch : (x : Batch) → timed_made (acts_of_batch x) ≡ timed_in x
of_batch x = flat_map-append made_in (acts_of_calls x.calls) (Commits x.settled ∷ []) ∙ append-nil (timed_made (acts_of_calls x.calls)) ∙ of_calls x.calls

of_batches : (batches : List Batch) → timed_made (flat_map acts_of_batch batches) ≡ all_timed batches
of_batches [] = refl
of_batches (x ∷ batches) =
    flat_map-append made_in (acts_of_batch x) (flat_map acts_of_batch batches)
    ∙ ap (λ v. v ++ timed_made (flat_map acts_of_batch batches)) (of_batch x)
    ∙ ap (λ v. timed_in x ++ v) (of_batches batches)

of_segment : (x : Segment) → timed_made (acts_of_segment x) ≡ all_timed x.batches
of_segment x =
    flat_map-append made_in (flat_map acts_of_batch x.batches) (Sweeps x.until ∷ []) ∙ append-nil (timed_made (flat_map acts_of_batch x.batches)) ∙ of_batches x.batches

abbrev timed_of : Segment → List TimedCall
timed_of x = all_timed x.batches

of_segments : (segments : List Segment) → timed_made (flat_map acts_of_segment segments) ≡ flat_map timed_of segments
of_segments [] = refl
of_segments (x ∷ segments) =
    flat_map-append made_in (acts_of_segment x) (flat_map acts_of_segment segments)
    ∙ ap (λ v. v ++ timed_made (flat_map acts_of_segment segments)) (of_segment x)
    ∙ ap (λ v. timed_of x ++ v) (of_segments segments)

of_all : (segments : List Segment) (batches : List Batch) (calls : List CallRecord)
    → timed_made (flat_map acts_of_segment segments ++ (flat_map acts_of_batch batches ++ acts_of_calls calls)) ≡ all_timed_in segments batches ++ map (λ it. it.timed) calls
of_all segments batches calls =
    flat_map-append made_in (flat_map acts_of_segment segments) (flat_map acts_of_batch batches ++ acts_of_calls calls)
    ∙ ap (λ v. v ++ timed_made (flat_map acts_of_batch batches ++ acts_of_calls calls)) (of_segments segments)
    ∙ ap (λ v. flat_map timed_of segments ++ v) (flat_map-append made_in (flat_map acts_of_batch batches) (acts_of_calls calls)
    ∙ ap (λ v. v ++ timed_made (acts_of_calls calls)) (of_batches batches) ∙ ap (λ v. all_timed batches ++ v) (of_calls calls))
    ∙ sym (append_assoc (flat_map timed_of segments) (all_timed batches) (map (λ it. it.timed) calls))

-- The calls after the last commit, as a batch that is not committed.
with_calls : (segments : List Segment) (batches : List Batch) (calls : List CallRecord)
    → all_timed_in segments (batches ++ uncommitted calls ∷ []) ≡ all_timed_in segments batches ++ map (λ it. it.timed) calls
with_calls segments batches calls =
    ap (λ v. flat_map timed_of segments ++ v) (flat_map-append timed_in batches (uncommitted calls ∷ [])
    ∙ ap (λ v. all_timed batches ++ v) (append-nil (map (λ it. it.timed) calls)))
    ∙ sym (append_assoc (flat_map timed_of segments) (all_timed batches) (map (λ it. it.timed) calls))

-- ---- the acts of events

call_made : (moment : ℕ) (call : Call) (received : Received) (these : List Act) → IsCallAct moment call received these → timed_made these ≡ (moment, call) ∷ []
call_made moment call (came.Answered reply) these h = ap (λ (v : List Act). timed_made v) h
call_made moment call (came.Drafted ticket reply) these h = ap (λ (v : List Act). timed_made v) h
call_made moment call (came.Waits ticket) these h = absurd h
call_made moment call (came.Refused reason) these h = absurd h

commit_made : (these : List Act) → IsCommitAct these → timed_made these ≡ []
commit_made these h =
    elim h [
      | inl none ↦ ap (λ (v : List Act). timed_made v) none
      | inr p ↦ ap (λ (v : List Act). timed_made v) p.1
    ]

purge_made : (retention moment : Option ℕ) (held : Bool) (these : List Act) → IsPurgeAct retention moment held these → timed_made these ≡ []
purge_made retention moment held these h =
    elim h [
      | inl none ↦ ap (λ (v : List Act). timed_made v) none
      | inr p ↦ ap (λ (v : List Act). timed_made v) p.5
    ]

event_made : (retention : Option ℕ) (event : BackendEvent) (these : List Act) → IsActOf retention event these → timed_made these ≡ called_in event
event_made retention (Receives moment call received) these h = call_made moment call received these h
event_made retention Settles these h = commit_made these h
event_made retention (Advances moment held now) these h = purge_made retention moment held these h
event_made retention (Gives ticket outcome) these h = ap (λ (v : List Act). timed_made v) h
event_made retention GivesNone these h = ap (λ (v : List Act). timed_made v) h
event_made retention (Announces ticket) these h = ap (λ (v : List Act). timed_made v) h
event_made retention (Answers moment ticket outcome) these h = absurd h
event_made retention (Forgets ticket) these h = ap (λ (v : List Act). timed_made v) h
event_made retention Stops these h = ap (λ (v : List Act). timed_made v) h

events_made : (retention : Option ℕ) (events : List BackendEvent) (acts : List Act) → AreActsOf retention events acts → timed_made acts ≡ flat_map called_in events
events_made retention [] acts h = ap (λ (v : List Act). timed_made v) h
events_made retention (event ∷ events) acts h =
    ap (λ (v : List Act). timed_made v) h.2 ∙ flat_map-append made_in h.0 h.1 ∙ ap (λ v. v ++ timed_made h.1) (event_made retention event h.0 h.3)
    ∙ ap (λ v. called_in event ++ v) (events_made retention events h.1 h.4)

-- The calls in segments and batches, and those after the last commit, are those of the events.
pub timed_are : (retention : Option ℕ) (events : List BackendEvent) (segments : List Segment) (batches : List Batch) (calls : List CallRecord)
    → AreActsOf retention events (flat_map acts_of_segment segments ++ (flat_map acts_of_batch batches ++ acts_of_calls calls))
    → all_timed_in segments (batches ++ uncommitted calls ∷ []) ≡ flat_map called_in events
timed_are retention events segments batches calls h =
    with_calls segments batches calls ∙ sym (of_all segments batches calls)
    ∙ events_made retention events (flat_map acts_of_segment segments ++ (flat_map acts_of_batch batches ++ acts_of_calls calls)) h

-- No call is left after the last commit.
pub all_timed_are : (segments : List Segment) (batches : List Batch) (calls : List CallRecord) → calls ≡ []
    → all_timed_in segments batches ≡ all_timed_in segments (batches ++ uncommitted calls ∷ [])
all_timed_are segments batches calls none =
    sym (append-nil (all_timed_in segments batches)) ∙ ap (λ (v : List CallRecord). all_timed_in segments batches ++ map (λ it. it.timed) v) (sym none) ∙ sym (with_calls segments batches calls)
