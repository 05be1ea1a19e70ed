-- The times of purge chunks.
use Rattle.std.proofs.Common.{◌≡◌, ◌∙◌, ◌-◌, ℕ, Bool, true, false, List, [], ◌∷◌, ◌++◌, map, Option, Some, None, refl, sym, ap, subst, append-nil, inl, inr}
use Rattle.std.specs.List.{flat_map}
use Rattle.std.proofs.lemmas.List.Concat.{flat_map-append}
use Rattle.service_calls.specs.Batches.{Batch, CallRecord}
use Rattle.service_calls.specs.Purged.{Segment}
use Rattle.space_core.specs.declared.group_commit.GroupCommit as commits
use Rattle.space_core.specs.declared.space.Space as spaces
use Rattle.server_backend.specs.BackendEvent.{Advances, Announces, Answers, BackendEvent, Forgets, Gives, GivesNone, Receives, Settles, Stops}
use Rattle.server_backend.specs.declared.outcome.Received.{Received}
use Rattle.server_backend.specs.declared.outcome.Received.TheVariants as came
use Rattle.policy_core.specs.declared.call.Call.{Call}
use Rattle.database_backend.specs.Batches.{Act, AreActsOf, Commits, IsCallAct, IsCommitAct, IsPurgeAct, Makes, Sweeps, acts_of_batch, acts_of_calls, acts_of_segment}
use Rattle.database_backend.specs.Policy.{AreAmong, PurgesArePlausible, PurgesAreDue, time_at, times_of}

-- The times up to which acts purge.
abbrev sweep_in : Act → List ℕ
sweep_in (Makes made) = []
sweep_in (Commits outcome) = []
sweep_in (Sweeps until) = until ∷ []

abbrev sweeps : List Act → List ℕ
sweeps acts = flat_map sweep_in acts

abbrev untils : List Segment → List ℕ
untils segments = map (λ segment. segment.until) segments

-- ---- the acts of segments

of_calls : (calls : List CallRecord) → sweeps (acts_of_calls calls) ≡ []
of_calls [] = refl
of_calls (made ∷ calls) = of_calls calls

of_batches : (batches : List Batch) → sweeps (flat_map acts_of_batch batches) ≡ []
of_batches [] = refl
of_batches (b ∷ batches) =
    flat_map-append sweep_in (acts_of_batch b) (flat_map acts_of_batch batches)
    ∙ ap (λ v. v ++ sweeps (flat_map acts_of_batch batches)) (flat_map-append sweep_in (acts_of_calls b.calls) (Commits b.settled ∷ []) ∙ ap (λ v. v ++ []) (of_calls b.calls))
    ∙ of_batches batches

of_segment : (x : Segment) → sweeps (acts_of_segment x) ≡ x.until ∷ []
of_segment x = flat_map-append sweep_in (flat_map acts_of_batch x.batches) (Sweeps x.until ∷ []) ∙ ap (λ v. v ++ x.until ∷ []) (of_batches x.batches)

of_segments : (segments : List Segment) → sweeps (flat_map acts_of_segment segments) ≡ untils segments
of_segments [] = refl
of_segments (x ∷ segments) =
    flat_map-append sweep_in (acts_of_segment x) (flat_map acts_of_segment segments)
    ∙ ap (λ v. v ++ sweeps (flat_map acts_of_segment segments)) (of_segment x)
    ∙ ap (λ v. x.until ∷ v) (of_segments segments)

of_all : (segments : List Segment) (batches : List Batch) (calls : List CallRecord)
    → sweeps (flat_map acts_of_segment segments ++ (flat_map acts_of_batch batches ++ acts_of_calls calls)) ≡ untils segments ++ []
of_all segments batches calls =
    flat_map-append sweep_in (flat_map acts_of_segment segments) (flat_map acts_of_batch batches ++ acts_of_calls calls)
    ∙ ap (λ v. v ++ sweeps (flat_map acts_of_batch batches ++ acts_of_calls calls)) (of_segments segments)
    ∙ ap (λ v. untils segments ++ v) (flat_map-append sweep_in (flat_map acts_of_batch batches) (acts_of_calls calls)
    ∙ ap (λ v. v ++ sweeps (acts_of_calls calls)) (of_batches batches) ∙ of_calls calls)

-- ---- the acts of events

among_more : (numbers all : List ℕ) (number : ℕ) → AreAmong numbers all → AreAmong numbers (number ∷ all)
among_more [] all number h = tt
among_more (x ∷ numbers) all number h = (number ∷ h.0, h.1, ap (λ v. number ∷ v) h.2, h.3)

-- The times up to which events purge, without a retention and with one.
abbrev AreDue : (retention : Option ℕ) → (times untils : List ℕ) → Type 0
AreDue None times untils = untils ≡ []
AreDue (Some seconds) times untils = (due : List ℕ) × AreAmong due times × (untils ≡ map (λ time. time - seconds) due)

due_moved : (retention : Option ℕ) (times untils more : List ℕ) → untils ≡ more → AreDue retention times more → AreDue retention times untils
due_moved retention times untils more same h = subst (λ (v : List ℕ). AreDue retention times v) (sym same) h

due_more : (retention moment : Option ℕ) (held : Bool) (times untils : List ℕ) → AreDue retention times untils → AreDue retention (time_at moment held ++ times) untils
due_more retention None held times untils h = h
due_more retention (Some time) true times untils h = h
due_more None (Some time) false times untils h = h
due_more (Some seconds) (Some time) false times untils h = (h.0, among_more h.0 times time h.1, h.2)

-- A chunk purges up to a time less the retention.
chunk_due : (retention moment : Option ℕ) (held : Bool) (these : List Act) (times untils : List ℕ) (time seconds : ℕ) → moment ≡ Some time → retention ≡ Some seconds → held ≡ false
    → these ≡ Sweeps (time - seconds) ∷ [] → AreDue retention times untils → AreDue retention (time_at moment held ++ times) (sweeps these ++ untils)
chunk_due retention moment held these times untils time seconds m r n acts rest =
    let h : AreDue (Some seconds) times untils = subst (λ (v : Option ℕ). AreDue v times untils) r rest in
    let due : AreDue (Some seconds) (time ∷ times) ((time - seconds) ∷ untils) =
    (time ∷ h.0, ([], times, refl, h.1), ap (λ v. (time - seconds) ∷ v) h.2) in
    let at : time_at moment held ≡ time ∷ [] = ap (λ (v : Option ℕ). time_at v held) m ∙ ap (λ (v : Bool). time_at (Some time) v) n in
    let gone : sweeps these ++ untils ≡ (time - seconds) ∷ untils = ap (λ (v : List Act). sweeps v ++ untils) acts in
    subst (λ (v : Option ℕ). AreDue v (time_at moment held ++ times) (sweeps these ++ untils)) (sym r)
    (subst (λ (v : List ℕ). AreDue (Some seconds) (v ++ times) (sweeps these ++ untils)) (sym at)
    (subst (λ (v : List ℕ). AreDue (Some seconds) (time ∷ times) v) (sym gone) due))

-- An event purges nothing, or up to its time.
purge_due : (retention moment : Option ℕ) (held : Bool) (these : List Act) (times untils : List ℕ) → IsPurgeAct retention moment held these → AreDue retention times untils
    → AreDue retention (time_at moment held ++ times) (sweeps these ++ untils)
purge_due retention moment held these times untils h rest =
    elim h [
      | inl none ↦ due_moved retention (time_at moment held ++ times) (sweeps these ++ untils) untils (ap (λ (v : List Act). sweeps v ++ untils) none)
          (due_more retention moment held times untils rest)
      | inr p ↦ chunk_due retention moment held these times untils p.0 p.1 p.2 p.3 p.4 p.5 rest
    ]

call_sweeps : (moment : ℕ) (call : Call) (received : Received) (these : List Act) → IsCallAct moment call received these → sweeps these ≡ []
call_sweeps moment call (came.Answered reply) these h = ap (λ (v : List Act). sweeps v) h
call_sweeps moment call (came.Drafted ticket reply) these h = ap (λ (v : List Act). sweeps v) h
call_sweeps moment call (came.Waits ticket) these h = absurd h
call_sweeps moment call (came.Refused reason) these h = absurd h

commit_sweeps : (these : List Act) → IsCommitAct these → sweeps these ≡ []
commit_sweeps these h =
    elim h [
      | inl none ↦ ap (λ (v : List Act). sweeps v) none
      | inr p ↦ ap (λ (v : List Act). sweeps v) p.1
    ]

-- Acts without a chunk, and those after them.
no_chunk : (retention : Option ℕ) (times : List ℕ) (acts these more : List Act) → acts ≡ these ++ more → sweeps these ≡ [] → AreDue retention times (sweeps more)
    → AreDue retention times (sweeps acts)
no_chunk retention times acts these more split none rest =
    due_moved retention times (sweeps acts) (sweeps more)
    (ap (λ (v : List Act). sweeps v) split ∙ flat_map-append sweep_in these more ∙ ap (λ v. v ++ sweeps more) none) rest

events_due : (retention : Option ℕ) (events : List BackendEvent) (acts : List Act) → AreActsOf retention events acts → AreDue retention (times_of events) (sweeps acts)
events_due None [] acts h = ap (λ (v : List Act). sweeps v) h
events_due (Some seconds) [] acts h = ([], tt, ap (λ (v : List Act). sweeps v) h)
events_due retention (Receives moment call received ∷ events) acts h =
    no_chunk retention (times_of events) acts h.0 h.1 h.2 (call_sweeps moment call received h.0 h.3) (events_due retention events h.1 h.4)
events_due retention (Settles ∷ events) acts h =
    no_chunk retention (times_of events) acts h.0 h.1 h.2 (commit_sweeps h.0 h.3) (events_due retention events h.1 h.4)
events_due retention (Advances moment held now ∷ events) acts h =
    due_moved retention (time_at moment held ++ times_of events) (sweeps acts) (sweeps h.0 ++ sweeps h.1)
    (ap (λ (v : List Act). sweeps v) h.2 ∙ flat_map-append sweep_in h.0 h.1)
    (purge_due retention moment held h.0 (times_of events) (sweeps h.1) h.3 (events_due retention events h.1 h.4))
events_due retention (Gives ticket outcome ∷ events) acts h =
    no_chunk retention (times_of events) acts h.0 h.1 h.2 (ap (λ (v : List Act). sweeps v) h.3) (events_due retention events h.1 h.4)
events_due retention (GivesNone ∷ events) acts h =
    no_chunk retention (times_of events) acts h.0 h.1 h.2 (ap (λ (v : List Act). sweeps v) h.3) (events_due retention events h.1 h.4)
events_due retention (Announces ticket ∷ events) acts h =
    no_chunk retention (times_of events) acts h.0 h.1 h.2 (ap (λ (v : List Act). sweeps v) h.3) (events_due retention events h.1 h.4)
events_due retention (Answers moment ticket outcome ∷ events) acts h = absurd h.3
events_due retention (Forgets ticket ∷ events) acts h =
    no_chunk retention (times_of events) acts h.0 h.1 h.2 (ap (λ (v : List Act). sweeps v) h.3) (events_due retention events h.1 h.4)
events_due retention (Stops ∷ events) acts h =
    no_chunk retention (times_of events) acts h.0 h.1 h.2 (ap (λ (v : List Act). sweeps v) h.3) (events_due retention events h.1 h.4)

-- ---- the law

none_left : (segments : List Segment) → untils segments ≡ [] → segments ≡ []
none_left [] h = refl
none_left (x ∷ segments) h = cc

due_purges : (retention : Option ℕ) (times : List ℕ) (segments : List Segment) → AreDue retention times (untils segments) → PurgesAreDue retention times segments
due_purges None times segments h = none_left segments h
due_purges (Some seconds) times segments h = h

module _ {S : Type 0} (g : spaces.Ghosts S) (k : commits.Ghosts S) where
  pub are_plausible : PurgesArePlausible g k
  are_plausible retention events old new cut =
      due_purges retention (times_of events) cut.segments
      (due_moved retention (times_of events) (untils cut.segments) (sweeps (flat_map acts_of_segment cut.segments ++ (flat_map acts_of_batch cut.batches ++ acts_of_calls cut.calls)))
      (sym (of_all cut.segments cut.batches cut.calls ∙ append-nil (untils cut.segments)))
      (events_due retention events (flat_map acts_of_segment cut.segments ++ (flat_map acts_of_batch cut.batches ++ acts_of_calls cut.calls)) cut.acts))
