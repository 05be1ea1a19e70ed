-- A client is sent the same bytes in executions that are alike to its USS.
use Rattle.std.proofs.Common.{◌≡◌, ◌∙◌, ◌==◌, ◌&&◌, ℕ, zero, suc, Bool, true, false, List, [], ◌∷◌, ◌++◌, drop, take, length, map, if◌then◌else◌, refl, sym, ap, subst}
use Rattle.std.specs.List.{AllByRecursion, concat, flat_map}
use Rattle.std.proofs.lemmas.List.{append_assoc, length-map, map-append}
use Rattle.entity_core.specs.Airspace.{Airspace}
use Rattle.policy_core.specs.Blind.{is_by}
use Rattle.service_calls.specs.Batches.{Batch, all_timed}
use Rattle.service_calls.specs.Blind.{replies_to}
use Rattle.service_calls.specs.Purged.{Segment}
use Rattle.service_calls.specs.Run.{TimedCall, answered_calls, delivered_replies, has_stopped, replies_of}
use Rattle.service_calls.proofs.Blinds.{run_blind}
use Rattle.service_purge.specs.Segments.{all_timed_in as timed_purged}
use Rattle.service_step.specs.Step.{step}
use Rattle.service_step.specs.declared.reply.Reply.{Reply}
use Rattle.service_step.specs.declared.reply.Reply.TheVariants.{Done, Denied, Fault, Stopped}
use Rattle.space_core.specs.declared.group_commit.GroupCommit as settles
use Rattle.wire_http.specs.Text.{end_texts, noted_text}
use Rattle.wire_http.specs.Wire.{RequestCall, timed}
use Rattle.wire_http.specs.declared.end.End.{End}
use Rattle.wire_http.specs.declared.explaining.Explaining.{Explaining}
use Rattle.wire_http.specs.declared.explaining.Explaining.TheVariants.{Off}
use Rattle.wire_http.specs.declared.moments.Moments as moments
use Rattle.server_watch.specs.declared.token_watch.TokenSource as sources
use Rattle.server_backend.specs.declared.backend.Backend as backends
use Rattle.server_clients.specs.ClientState.{slot_for}
use Rattle.server_clients.specs.ServerEvents.{ServerEvent}
use Rattle.server_clients.specs.Texts.{no_texts}
use Rattle.database_backend.specs.declared.database.Database.{Database}
use Rattle.database_laws.specs.Requests.{all_requests}
use Rattle.database_laws.specs.Responses.{AreTextsTo, Cause, Finishes, IsResponse, Requests, all_causes}
use Rattle.database_laws.specs.Serve.{all_timed_in}
use Rattle.client_laws.specs.Blind.{AreAlike, AreSame, ClientsAreBlind, Ends, IsBy, IsPlain, Other, Own, Seen, all_seen_by, has_failed}
use Rattle.client_laws.specs.Executions.{Client, Execution, bytes_for, calls_in, place_of, replies_in, salt_in, sent_of}
use Rattle.client_laws.proofs.Requests.{asked_by, asked_in, parted}

-- ---- replies to the USS

-- Replies to the same calls that are equal where the USS made the call.
abbrev Agree : (uss : List ℕ) → List TimedCall → List Reply → List Reply → Type 0
Agree uss [] rs ss = Unit {0}
Agree uss (c ∷ cs) [] ss = Unit {0}
Agree uss (c ∷ cs) (r ∷ rs) [] = Unit {0}
Agree uss (c ∷ cs) (r ∷ rs) (s ∷ ss) = (is_by uss c.1 ≡ true → r ≡ s) × Agree uss cs rs ss

abbrev first_or : Reply → List Reply → Reply
first_or r [] = r
first_or r (s ∷ ss) = s

abbrev rest_of : List Reply → List Reply
rest_of [] = []
rest_of (r ∷ rs) = rs

heads : (own : Bool) (r s : Reply) (rs ss : List Reply) → (if own then r ∷ rs else rs) ≡ (if own then s ∷ ss else ss) → (own ≡ true → r ≡ s) × (rs ≡ ss)
heads true r s rs ss h = ((λ is. ap (λ (v : List Reply). first_or r v) h), ap (λ (v : List Reply). rest_of v) h)
heads false r s rs ss h = ((λ is. absurd (let no : false ≡ true = is in cc)), h)

agree_of : (salt uss : List ℕ) (cs : List TimedCall) (a b : Airspace) → replies_to uss cs (replies_of salt a cs) ≡ replies_to uss cs (replies_of salt b cs) → Agree uss cs (replies_of salt a cs) (replies_of salt b cs)
agree_of salt uss [] a b h = tt
agree_of salt uss (c ∷ cs) a b h =
    let these = heads (is_by uss c.1) (step salt a c.0 c.1).1 (step salt b c.0 c.1).1 (replies_to uss cs (replies_of salt (step salt a c.0 c.1).0 cs)) (replies_to uss cs (replies_of salt (step salt b c.0 c.1).0 cs)) h in
    (these.0, agree_of salt uss cs (step salt a c.0 c.1).0 (step salt b c.0 c.1).0 these.1)

-- ---- calls that failed

abbrev flag_or : Bool → List Bool → Bool
flag_or f [] = f
flag_or f (g ∷ gs) = g

abbrev other_flags : List Bool → List Bool
other_flags [] = []
other_flags (f ∷ fs) = fs

first_flag : (f g : Bool) (fs gs : List Bool) → f ∷ fs ≡ g ∷ gs → f ≡ g
first_flag f g fs gs h = ap (λ (v : List Bool). flag_or f v) h

more_flags : (f g : Bool) (fs gs : List Bool) → f ∷ fs ≡ g ∷ gs → fs ≡ gs
more_flags f g fs gs h = ap (λ (v : List Bool). other_flags v) h

no_flag : (f : Bool) (fs : List Bool) → f ∷ fs ≡ [] → ⊥
no_flag f fs h = cc

no_flags : (f : Bool) (fs : List Bool) → [] ≡ f ∷ fs → ⊥
no_flags f fs h = cc

abbrev flags_of : List Reply → List Bool
flags_of rs = map has_failed rs

differ : {P : Type 0} → false ≡ true → P
differ h = absurd (let is : false ≡ true = h in cc)

-- What was answered, if nothing stopped, follows from which calls failed.
abbrev kept_calls : List TimedCall → List Bool → List TimedCall
kept_calls [] fs = []
kept_calls (c ∷ cs) [] = []
kept_calls (c ∷ cs) (true ∷ fs) = kept_calls cs fs
kept_calls (c ∷ cs) (false ∷ fs) = c ∷ kept_calls cs fs

answered_kept : (cs : List TimedCall) (rs : List Reply) → has_stopped rs ≡ false → answered_calls cs rs ≡ kept_calls cs (flags_of rs)
answered_kept [] rs goes = refl
answered_kept (c ∷ cs) [] goes = refl
answered_kept (c ∷ cs) (Done answer ∷ rs) goes = ap (λ (v : List TimedCall). c ∷ v) (answered_kept cs rs goes)
answered_kept (c ∷ cs) (Denied _ _ ∷ rs) goes = ap (λ (v : List TimedCall). c ∷ v) (answered_kept cs rs goes)
answered_kept (c ∷ cs) (Fault ∷ rs) goes = answered_kept cs rs goes
answered_kept (c ∷ cs) (Stopped ∷ rs) goes = differ (sym goes)

-- Replies agree if those of the calls that did not fail do.
spread : (uss : List ℕ) (cs : List TimedCall) (rs ss : List Reply) → has_stopped rs ≡ false → has_stopped ss ≡ false → flags_of rs ≡ flags_of ss → Agree uss (answered_calls cs rs) (delivered_replies rs) (delivered_replies ss)
    → Agree uss cs rs ss
spread uss [] rs ss goes goes' same h = tt
spread uss (c ∷ cs) [] ss goes goes' same h = tt
spread uss (c ∷ cs) (r ∷ rs) [] goes goes' same h = tt
spread uss (c ∷ cs) (Done x ∷ rs) (Done y ∷ ss) goes goes' same h = (h.0, spread uss cs rs ss goes goes' (more_flags false false (flags_of rs) (flags_of ss) same) h.1)
spread uss (c ∷ cs) (Done x ∷ rs) (Denied y z ∷ ss) goes goes' same h = (h.0, spread uss cs rs ss goes goes' (more_flags false false (flags_of rs) (flags_of ss) same) h.1)
spread uss (c ∷ cs) (Denied x z ∷ rs) (Done y ∷ ss) goes goes' same h = (h.0, spread uss cs rs ss goes goes' (more_flags false false (flags_of rs) (flags_of ss) same) h.1)
spread uss (c ∷ cs) (Denied x z ∷ rs) (Denied y w ∷ ss) goes goes' same h = (h.0, spread uss cs rs ss goes goes' (more_flags false false (flags_of rs) (flags_of ss) same) h.1)
spread uss (c ∷ cs) (Fault ∷ rs) (Fault ∷ ss) goes goes' same h = ((λ is. refl), spread uss cs rs ss goes goes' (more_flags true true (flags_of rs) (flags_of ss) same) h)
spread uss (c ∷ cs) (Done x ∷ rs) (Fault ∷ ss) goes goes' same h = differ (first_flag false true (flags_of rs) (flags_of ss) same)
spread uss (c ∷ cs) (Denied x z ∷ rs) (Fault ∷ ss) goes goes' same h = differ (first_flag false true (flags_of rs) (flags_of ss) same)
spread uss (c ∷ cs) (Fault ∷ rs) (Done y ∷ ss) goes goes' same h = differ (sym (first_flag true false (flags_of rs) (flags_of ss) same))
spread uss (c ∷ cs) (Fault ∷ rs) (Denied y w ∷ ss) goes goes' same h = differ (sym (first_flag true false (flags_of rs) (flags_of ss) same))
spread uss (c ∷ cs) (Stopped ∷ rs) (s ∷ ss) goes goes' same h = differ (sym goes)
spread uss (c ∷ cs) (Done x ∷ rs) (Stopped ∷ ss) goes goes' same h = differ (sym goes')
spread uss (c ∷ cs) (Denied x z ∷ rs) (Stopped ∷ ss) goes goes' same h = differ (sym goes')
spread uss (c ∷ cs) (Fault ∷ rs) (Stopped ∷ ss) goes goes' same h = differ (sym goes')

-- ---- parts of lists

agree_none : (uss : List ℕ) (cs : List TimedCall) (ss : List Reply) → Agree uss cs [] ss
agree_none uss [] ss = tt
agree_none uss (c ∷ cs) ss = tt

agree_nothing : (uss : List ℕ) (cs : List TimedCall) (rs : List Reply) → Agree uss cs rs []
agree_nothing uss [] rs = tt
agree_nothing uss (c ∷ cs) [] = tt
agree_nothing uss (c ∷ cs) (r ∷ rs) = tt

agree_behind : (uss : List ℕ) (before cs : List TimedCall) (rs ss : List Reply) → Agree uss (before ++ cs) rs ss → Agree uss cs (drop (length before) rs) (drop (length before) ss)
agree_behind uss [] cs rs ss h = h
agree_behind uss (c ∷ before) cs [] ss h = agree_none uss cs (drop (length (c ∷ before)) ss)
agree_behind uss (c ∷ before) cs (r ∷ rs) [] h = agree_nothing uss cs (drop (length before) rs)
agree_behind uss (c ∷ before) cs (r ∷ rs) (s ∷ ss) h = agree_behind uss before cs rs ss h.1

agree_first : (uss : List ℕ) (cs more : List TimedCall) (n m : ℕ) (rs ss : List Reply) → Agree uss (cs ++ more) rs ss → Agree uss cs (take n rs) (take m ss)
agree_first uss [] more n m rs ss h = tt
agree_first uss (c ∷ cs) more zero m rs ss h = tt
agree_first uss (c ∷ cs) more (suc n) m [] ss h = tt
agree_first uss (c ∷ cs) more (suc n) zero (r ∷ rs) ss h = tt
agree_first uss (c ∷ cs) more (suc n) (suc m) (r ∷ rs) [] h = tt
agree_first uss (c ∷ cs) more (suc n) (suc m) (r ∷ rs) (s ∷ ss) h = (h.0, agree_first uss cs more n m rs ss h.1)

-- ---- what one client sees

-- The texts for the client, by what it sees of their causes.
abbrev AreTextsSeen : Explaining → List Seen → List Reply → List (List ℕ) → Type 0
AreTextsSeen explaining [] replies texts = (replies ≡ []) × (texts ≡ [])
AreTextsSeen explaining (Own asked responds ∷ more) [] texts = ⊥
AreTextsSeen explaining (Own asked responds ∷ more) (reply ∷ replies) texts =
    (these : List (List ℕ)) × (later : List (List ℕ)) × (texts ≡ these ++ later) × IsResponse explaining responds asked reply these × AreTextsSeen explaining more replies later
AreTextsSeen explaining (Other ∷ more) [] texts = ⊥
AreTextsSeen explaining (Other ∷ more) (reply ∷ replies) texts = AreTextsSeen explaining more replies texts
AreTextsSeen explaining (Ends end ∷ more) replies texts = (later : List (List ℕ)) × (texts ≡ end_texts end ++ later) × AreTextsSeen explaining more replies later

own_or_other : (explaining : Explaining) (own responds : Bool) (asked : RequestCall) (reply : Reply) (more : List Seen) (replies : List Reply) (texts these later : List (List ℕ)) → texts ≡ these ++ later
    → IsResponse explaining (own && responds) asked reply these → AreTextsSeen explaining more replies later → AreTextsSeen explaining ((if own then Own asked responds ∷ [] else Other ∷ []) ++ more) (reply ∷ replies) texts
own_or_other explaining true responds asked reply more replies texts these later p response h = (these, later, p, response, h)
own_or_other explaining false responds asked reply more replies texts these later p response h =
    subst (λ (v : List (List ℕ)). AreTextsSeen explaining more replies v) (sym (p ∙ ap (λ (v : List (List ℕ)). v ++ later) response)) h

end_or_none : (explaining : Explaining) (own : Bool) (end : End) (more : List Seen) (replies : List Reply) (texts later : List (List ℕ)) → texts ≡ (if own then end_texts end else []) ++ later
    → AreTextsSeen explaining more replies later → AreTextsSeen explaining ((if own then Ends end ∷ [] else []) ++ more) replies texts
end_or_none explaining true end more replies texts later p h = (later, p, h)
end_or_none explaining false end more replies texts later p h = subst (λ (v : List (List ℕ)). AreTextsSeen explaining more replies v) (sym p) h

to_seen : (explaining : Explaining) (key : ℕ) (causes : List Cause) (replies : List Reply) (texts : List (List ℕ)) → AreTextsTo explaining key causes replies texts → AreTextsSeen explaining (all_seen_by key causes) replies texts
to_seen explaining key [] replies texts h = h
to_seen explaining key (Requests other asked responds ∷ more) [] texts h = absurd h
to_seen explaining key (Requests other asked responds ∷ more) (reply ∷ replies) texts h =
    own_or_other explaining (key == other) responds asked reply (all_seen_by key more) replies texts h.0 h.1 h.2 h.3 (to_seen explaining key more replies h.1 h.4)
to_seen explaining key (Finishes other end ∷ more) replies texts h = end_or_none explaining (key == other) end (all_seen_by key more) replies texts h.0 h.1 (to_seen explaining key more replies h.0 h.2)

-- Replies that are equal where the client made the request.
abbrev AgreeSeen : List Seen → List Reply → List Reply → Type 0
AgreeSeen [] rs ss = Unit {0}
AgreeSeen (Own asked responds ∷ more) [] ss = Unit {0}
AgreeSeen (Own asked responds ∷ more) (r ∷ rs) [] = Unit {0}
AgreeSeen (Own asked responds ∷ more) (r ∷ rs) (s ∷ ss) = (r ≡ s) × AgreeSeen more rs ss
AgreeSeen (Other ∷ more) [] ss = Unit {0}
AgreeSeen (Other ∷ more) (r ∷ rs) [] = Unit {0}
AgreeSeen (Other ∷ more) (r ∷ rs) (s ∷ ss) = AgreeSeen more rs ss
AgreeSeen (Ends end ∷ more) rs ss = AgreeSeen more rs ss

-- The same for a list of causes whose first one is a request.
request_agrees : (uss : List ℕ) (own responds : Bool) (asked : RequestCall) (more : List Seen) (r s : Reply) (rs ss : List Reply) → (is_by uss asked.call ≡ true → r ≡ s)
    → AllByRecursion (IsBy uss) ((if own then Own asked responds ∷ [] else Other ∷ []) ++ more) → (AllByRecursion (IsBy uss) more → AgreeSeen more rs ss)
    → AgreeSeen ((if own then Own asked responds ∷ [] else Other ∷ []) ++ more) (r ∷ rs) (s ∷ ss)
request_agrees uss true responds asked more r s rs ss same by rest = (same by.0, rest by.1)
request_agrees uss false responds asked more r s rs ss same by rest = rest by.1

no_replies : (own responds : Bool) (asked : RequestCall) (more : List Seen) (ss : List Reply) → AgreeSeen ((if own then Own asked responds ∷ [] else Other ∷ []) ++ more) [] ss
no_replies true responds asked more ss = tt
no_replies false responds asked more ss = tt

no_others : (own responds : Bool) (asked : RequestCall) (more : List Seen) (r : Reply) (rs : List Reply) → AgreeSeen ((if own then Own asked responds ∷ [] else Other ∷ []) ++ more) (r ∷ rs) []
no_others true responds asked more r rs = tt
no_others false responds asked more r rs = tt

end_agrees : (uss : List ℕ) (own : Bool) (end : End) (more : List Seen) (rs ss : List Reply) → AllByRecursion (IsBy uss) ((if own then Ends end ∷ [] else []) ++ more) → (AllByRecursion (IsBy uss) more → AgreeSeen more rs ss)
    → AgreeSeen ((if own then Ends end ∷ [] else []) ++ more) rs ss
end_agrees uss true end more rs ss by rest = rest by.1
end_agrees uss false end more rs ss by rest = rest by

agree_seen : (uss : List ℕ) (key : ℕ) (causes : List Cause) (rs ss : List Reply) → AllByRecursion (IsBy uss) (all_seen_by key causes) → Agree uss (map timed (asked_in causes)) rs ss → AgreeSeen (all_seen_by key causes) rs ss
agree_seen uss key [] rs ss by h = tt
agree_seen uss key (Requests other asked responds ∷ more) [] ss by h = no_replies (key == other) responds asked (all_seen_by key more) ss
agree_seen uss key (Requests other asked responds ∷ more) (r ∷ rs) [] by h = no_others (key == other) responds asked (all_seen_by key more) r rs
agree_seen uss key (Requests other asked responds ∷ more) (r ∷ rs) (s ∷ ss) by h =
    request_agrees uss (key == other) responds asked (all_seen_by key more) r s rs ss h.0 by (λ rest. agree_seen uss key more rs ss rest h.1)
agree_seen uss key (Finishes other end ∷ more) rs ss by h = end_agrees uss (key == other) end (all_seen_by key more) rs ss by (λ rest. agree_seen uss key more rs ss rest h)

-- ---- the same texts

same_response : (responds : Bool) (asked : RequestCall) (r s : Reply) (these those : List (List ℕ)) → r ≡ s → IsResponse Off responds asked r these → IsResponse Off responds asked s those → those ≡ these
same_response false asked r s these those same h h' = h' ∙ sym h
same_response true asked r s these those same h h' =
    let slot = slot_for asked no_texts in
    let text : h.0 ≡ noted_text [] slot.endpoint slot.closing r = h.2.2 ∙ ap (λ (v : List (List ℕ)). noted_text v slot.endpoint slot.closing r) h.2.1 in
    let other : h'.0 ≡ noted_text [] slot.endpoint slot.closing s = h'.2.2 ∙ ap (λ (v : List (List ℕ)). noted_text v slot.endpoint slot.closing s) h'.2.1 in
    let equal : h'.0 ≡ h.0 = other ∙ ap (λ (v : Reply). noted_text [] slot.endpoint slot.closing v) (sym same) ∙ sym text in
    h'.1 ∙ ap (λ (v : List ℕ). v ∷ []) equal ∙ sym h.1

joined : (these those later rest : List (List ℕ)) → those ≡ these → rest ≡ later → those ++ rest ≡ these ++ later
joined these those later rest p q = ap (λ (v : List (List ℕ)). v ++ rest) p ∙ ap (λ (v : List (List ℕ)). these ++ v) q

same_texts : (seen : List Seen) (rs ss : List Reply) (texts others : List (List ℕ)) → AreTextsSeen Off seen rs texts → AreTextsSeen Off seen ss others → AgreeSeen seen rs ss → others ≡ texts
same_texts [] rs ss texts others h h' agree = h'.1 ∙ sym h.1
same_texts (Own asked responds ∷ more) [] ss texts others h h' agree = absurd h
same_texts (Own asked responds ∷ more) (r ∷ rs) [] texts others h h' agree = absurd h'
same_texts (Own asked responds ∷ more) (r ∷ rs) (s ∷ ss) texts others h h' agree =
    h'.2 ∙ joined h.0 h'.0 h.1 h'.1 (same_response responds asked r s h.0 h'.0 agree.0 h.3 h'.3) (same_texts more rs ss h.1 h'.1 h.4 h'.4 agree.1) ∙ sym h.2
same_texts (Other ∷ more) [] ss texts others h h' agree = absurd h
same_texts (Other ∷ more) (r ∷ rs) [] texts others h h' agree = absurd h'
same_texts (Other ∷ more) (r ∷ rs) (s ∷ ss) texts others h h' agree = same_texts more rs ss texts others h h' agree
same_texts (Ends end ∷ more) rs ss texts others h h' agree =
    h'.1 ∙ joined (end_texts end) (end_texts end) h.0 h'.0 refl (same_texts more rs ss h.0 h'.0 h.2 h'.2 agree) ∙ sym h.1

-- ---- executions

same_timed : (segments : List Segment) (batches : List Batch) → all_timed_in segments batches ≡ timed_purged segments batches
same_timed [] batches = refl
same_timed (segment ∷ segments) batches =
    append_assoc (all_timed segment.batches) (flat_map (λ (it : Segment). all_timed it.batches) segments) (all_timed batches) ∙ ap (λ (v : List TimedCall). all_timed segment.batches ++ v) (same_timed segments batches)

module _ {S M T : Type 0} (k : settles.Ghosts S) (b : backends.Ghosts (Database S)) (m : moments.Ghosts M) (t : sources.Ghosts T) where
  -- The replies of an execution whose purges are not visible.
  told : (run : Execution k b m t) → IsPlain k b m t run
      → delivered_replies (replies_in k b m t run) ≡ replies_of (salt_in k b m t run) run.start (answered_calls (calls_in k b m t run) (replies_in k b m t run))
  told run plain =
      (run.policy.unseen plain.valid plain.goes plain.ahead).told
      ∙ ap (λ (v : List TimedCall). replies_of (salt_in k b m t run) run.start (answered_calls v (replies_in k b m t run))) (sym (same_timed run.policy.segments run.policy.batches) ∙ run.policy.calls)

  module _ (uss : List ℕ) (one two : Execution k b m t) (alike : AreAlike k b m t uss one two) (first : IsPlain k b m t one) (second : IsPlain k b m t two) where
    same_answered : answered_calls (calls_in k b m t two) (replies_in k b m t two) ≡ answered_calls (calls_in k b m t one) (replies_in k b m t one)
    same_answered =
        answered_kept (calls_in k b m t two) (replies_in k b m t two) second.goes ∙ ap (λ (v : List TimedCall). kept_calls v (flags_of (replies_in k b m t two))) alike.calls
        ∙ ap (λ (v : List Bool). kept_calls (calls_in k b m t one) v) alike.failed ∙ sym (answered_kept (calls_in k b m t one) (replies_in k b m t one) first.goes)

    all_agree : Agree uss (calls_in k b m t one) (replies_in k b m t one) (replies_in k b m t two)
    all_agree =
        let salt = salt_in k b m t one in
        let calls = answered_calls (calls_in k b m t one) (replies_in k b m t one) in
        let agree = agree_of salt uss calls one.start two.start (run_blind salt uss calls one.start two.start alike.start alike.known).0 in
        let other : delivered_replies (replies_in k b m t two) ≡ replies_of salt two.start calls =
        told two second ∙ ap (λ (v : List ℕ). replies_of v two.start (answered_calls (calls_in k b m t two) (replies_in k b m t two))) alike.salt ∙ ap (λ (v : List TimedCall). replies_of salt two.start v) same_answered in
        spread uss (calls_in k b m t one) (replies_in k b m t one) (replies_in k b m t two) first.goes second.goes (sym alike.failed)
        (subst (λ (v : List Reply). Agree uss calls v (delivered_replies (replies_in k b m t two))) (sym (told one first)) (subst (λ (v : List Reply). Agree uss calls (replies_of salt one.start calls) v) (sym other) agree))

    module _ (c : Client k b m t one) (d : Client k b m t two) (same : AreSame k b m t uss c d) where
      -- The calls before the client was accepted, in its time, and after it.
      parts : calls_in k b m t one ≡ map timed (all_requests c.before) ++ (map timed (all_requests c.during) ++ map timed (all_requests c.rest))
      parts =
          ap (λ (v : List ServerEvent). map timed (all_requests v)) c.split ∙ ap (λ (v : List RequestCall). map timed v) (parted c.before c.during c.rest c.key c.name)
          ∙ map-append timed (all_requests c.before) (all_requests c.during ++ all_requests c.rest)
          ∙ ap (λ (v : List TimedCall). map timed (all_requests c.before) ++ v) (map-append timed (all_requests c.during) (all_requests c.rest))

      -- The replies from its acceptance on.
      agree_there : Agree uss (map timed (all_requests c.during) ++ map timed (all_requests c.rest)) (drop (place_of k b m t one c) (replies_in k b m t one)) (drop (place_of k b m t two d) (replies_in k b m t two))
      agree_there =
          let before = map timed (all_requests c.before) in
          let now = map timed (all_requests c.during) ++ map timed (all_requests c.rest) in
          let all = agree_behind uss before now (replies_in k b m t one) (replies_in k b m t two) (subst (λ (v : List TimedCall). Agree uss v (replies_in k b m t one) (replies_in k b m t two)) parts all_agree) in
          let at : length before ≡ place_of k b m t one c = length-map (all_requests c.before) timed in
          subst (λ (n : ℕ). Agree uss now (drop (place_of k b m t one c) (replies_in k b m t one)) (drop n (replies_in k b m t two))) (sym same.place)
          (subst (λ (n : ℕ). Agree uss now (drop n (replies_in k b m t one)) (drop n (replies_in k b m t two))) at all)

      same_bytes : bytes_for k b m t two d ≡ bytes_for k b m t one c
      same_bytes =
          let sent = (sent_of k b m t one c).sent in
          let other = (sent_of k b m t two d).sent in
          let rs = take (length (all_requests c.during)) (drop (place_of k b m t one c) (replies_in k b m t one)) in
          let ss = take (length (all_requests d.during)) (drop (place_of k b m t two d) (replies_in k b m t two)) in
          let seen = all_seen_by c.key (all_causes c.during) in
          let agree = agree_first uss (map timed (all_requests c.during)) (map timed (all_requests c.rest)) (length (all_requests c.during)) (length (all_requests d.during))
          (drop (place_of k b m t one c) (replies_in k b m t one)) (drop (place_of k b m t two d) (replies_in k b m t two)) agree_there in
          let agree_then = agree_seen uss c.key (all_causes c.during) rs ss same.own (subst (λ (v : List RequestCall). Agree uss (map timed v) rs ss) (sym (asked_by c.during)) agree) in
          let texts = subst (λ (v : Explaining). AreTextsSeen v seen rs sent.texts) first.brief (to_seen one.setup.explaining c.key (all_causes c.during) rs sent.texts sent.are_texts) in
          let those = subst (λ (v : List Seen). AreTextsSeen Off v ss other.texts) same.seen
          (subst (λ (v : Explaining). AreTextsSeen v (all_seen_by d.key (all_causes d.during)) ss other.texts) second.brief (to_seen two.setup.explaining d.key (all_causes d.during) ss other.texts other.are_texts)) in
          other.sent ∙ ap (λ (v : List (List ℕ)). concat v) (same_texts seen rs ss sent.texts other.texts texts those agree_then) ∙ sym sent.sent

  pub are_blind : ClientsAreBlind k b m t
  are_blind uss one two c d alike first second same = same_bytes uss one two alike first second c d same
