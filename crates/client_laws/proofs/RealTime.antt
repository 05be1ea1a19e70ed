-- The order of the list of calls is the order that clients can observe.
use Rattle.std.proofs.Common.{◌≡◌, ◌∙◌, ◌+◌, ◌<◌, ◌≤◌, ◌==◌, ◌&&◌, ℕ, Bool, true, false, List, [], ◌∷◌, ◌++◌, drop, length, map, Option, Some, None, IfSome, if◌then◌else◌, refl, sym, ap, subst}
use native.Mathlib.Omega.{arith}
use Rattle.std.specs.List.{AllByRecursion}
use Rattle.std.proofs.lemmas.List.{length-append}
use Rattle.service_step.specs.declared.reply.Reply.{Reply}
use Rattle.space_core.specs.declared.group_commit.GroupCommit as settles
use Rattle.wire_http.specs.Text.{end_texts}
use Rattle.wire_http.specs.Wire.{RequestCall, timed}
use Rattle.wire_http.specs.declared.end.End.{End}
use Rattle.wire_http.specs.declared.end.End.TheVariants as ends
use Rattle.wire_http.specs.declared.explaining.Explaining.{Explaining}
use Rattle.wire_http.specs.declared.moments.Moments as moments
use Rattle.server_watch.specs.declared.token_watch.TokenSource as sources
use Rattle.server_backend.specs.declared.backend.Backend as backends
use Rattle.database_backend.specs.declared.database.Database.{Database}
use Rattle.database_laws.specs.Requests.{all_requests}
use Rattle.database_laws.specs.Responses.{AreTextsTo, Cause, Finishes, IsResponse, Requests, all_causes}
use Rattle.client_laws.specs.Executions.{Client, Execution, count_up_to, place_of, sent_of}
use Rattle.client_laws.specs.RealTime.{IsInRealTime, ResponsesAreInRealTime, places_to}
use Rattle.client_laws.proofs.Requests.{asked_by, asked_in, drop_two, parted}

same_lengths : {X Y : Type 0} (xs more : List X) (ys rest : List Y) → length xs ≡ length ys → length more ≡ length rest → length (xs ++ more) ≡ length (ys ++ rest)
same_lengths xs more ys rest p q = length-append xs more ∙ ap (λ (n : ℕ). n + length more) p ∙ ap (λ (n : ℕ). length ys + n) q ∙ sym (length-append ys rest)

one_response : (explaining : Explaining) (from : ℕ) (responds : Bool) (asked : RequestCall) (reply : Reply) (these : List (List ℕ)) → IsResponse explaining responds asked reply these
    → length these ≡ length (if responds then Some from ∷ [] else [])
one_response explaining from true asked reply these h = ap (λ (v : List (List ℕ)). length v) h.1
one_response explaining from false asked reply these h = ap (λ (v : List (List ℕ)). length v) h

-- The places of the text that ends a stream.
abbrev no_places : End → List (Option ℕ)
no_places end = map (λ text. None) (end_texts end)

one_end : (own : Bool) (end : End) → length (if own then end_texts end else []) ≡ length (if own then no_places end else [])
one_end true (ends.Wire rule) = refl
one_end true ends.End = refl
one_end true ends.Cut = refl
one_end true ends.Close = refl
one_end false end = refl

-- Each text has its place.
one_each : (explaining : Explaining) (key from : ℕ) (causes : List Cause) (replies : List Reply) (texts : List (List ℕ)) → AreTextsTo explaining key causes replies texts → length texts ≡ length (places_to key from causes)
one_each explaining key from [] replies texts h = ap (λ (v : List (List ℕ)). length v) h.1
one_each explaining key from (Requests other asked responds ∷ more) [] texts h = absurd h
one_each explaining key from (Requests other asked responds ∷ more) (reply ∷ replies) texts h =
    ap (λ (v : List (List ℕ)). length v) h.2
    ∙ same_lengths h.0 h.1 (if key == other && responds then Some from ∷ [] else []) (places_to key (from + 1) more) (one_response explaining from (key == other && responds) asked reply h.0 h.3)
    (one_each explaining key (from + 1) more replies h.1 h.4)
one_each explaining key from (Finishes other end ∷ more) replies texts h =
    ap (λ (v : List (List ℕ)). length v) h.1
    ∙ same_lengths (if key == other then end_texts end else []) h.0 (if key == other then no_places end else []) (places_to key from more) (one_end (key == other) end)
    (one_each explaining key from more replies h.0 h.2)

abbrev IsBefore : (bound : ℕ) → Option ℕ → Type 0
IsBefore bound place = IfSome place (λ n. n < bound)

request_before : (bound from : ℕ) (has : Bool) (more : List (Option ℕ)) → from < bound → AllByRecursion (IsBefore bound) more → AllByRecursion (IsBefore bound) ((if has then Some from ∷ [] else []) ++ more)
request_before bound from true more lt h = (lt, h)
request_before bound from false more lt h = h

end_before : (bound : ℕ) (own : Bool) (end : End) (more : List (Option ℕ)) → AllByRecursion (IsBefore bound) more
    → AllByRecursion (IsBefore bound) ((if own then no_places end else []) ++ more)
end_before bound true (ends.Wire rule) more h = (tt, h)
end_before bound true ends.End more h = h
end_before bound true ends.Cut more h = h
end_before bound true ends.Close more h = h
end_before bound false end more h = h

-- Each place is that of one of the requests.
all_before : (bound key from : ℕ) (causes : List Cause) → from + length (asked_in causes) ≤ bound → AllByRecursion (IsBefore bound) (places_to key from causes)
all_before bound key from [] le = tt
all_before bound key from (Requests other asked responds ∷ more) le =
    let lt : from < bound = omega arith in
    let next : (from + 1) + length (asked_in more) ≤ bound = omega arith in
    request_before bound from (key == other && responds) (places_to key (from + 1) more) lt (all_before bound key (from + 1) more next)
all_before bound key from (Finishes other end ∷ more) le = end_before bound (key == other) end (places_to key from more) (all_before bound key from more le)

module _ {S M T : Type 0} (k : settles.Ghosts S) (b : backends.Ghosts (Database S)) (m : moments.Ghosts M) (t : sources.Ghosts T) where
  is_in_real_time : (run : Execution k b m t) (client : Client k b m t run) → IsInRealTime k b m t run client
  is_in_real_time run client =
      let sent = (sent_of k b m t run client).sent in
      let from = place_of k b m t run client in
      let most = count_up_to k b m t run client in
      let le : from + length (asked_in (all_causes client.during)) ≤ most =
      subst (λ (v : List RequestCall). from + length v ≤ most) (sym (asked_by client.during)) (omega arith) in
      record {
        places = places_to client.key from (all_causes client.during);
        places_are = refl;
        one_each = one_each run.setup.explaining client.key from (all_causes client.during) _ sent.texts sent.are_texts;
        earlier = all_before most client.key from (all_causes client.during) le;
        later = ap (λ (v : List RequestCall). drop most (map timed v)) (ap all_requests client.split ∙ parted client.before client.during client.rest client.key client.name)
            ∙ drop_two timed (all_requests client.before) (all_requests client.during) (all_requests client.rest);
      }

  pub are_in_real_time : ResponsesAreInRealTime k b m t
  are_in_real_time run client = is_in_real_time run client
