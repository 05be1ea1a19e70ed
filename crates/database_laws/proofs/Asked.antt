-- The backend's events with the call of each request in place of the one that was made for it.
use Rattle.std.proofs.Common.{◌≡◌, ℕ, Bool, true, false, List, [], ◌∷◌, ◌++◌, map, refl, sym, ap, subst, ◌∙◌}
use Rattle.std.specs.List.{flat_map}
use Rattle.std.proofs.lemmas.List.{map-append}
use Rattle.std.proofs.lemmas.List.Concat.{flat_map-append}
use Rattle.policy_core.specs.declared.call.Call.{Call}
use Rattle.service_calls.specs.Run.{TimedCall}
use Rattle.service_step.specs.declared.reply.Reply.{Reply}
use Rattle.space_core.specs.declared.group_commit.GroupCommit as settles
use Rattle.space_core.specs.declared.space.Space as spaces
use Rattle.token_conf.specs.TokenFile.{TokenFile}
use Rattle.wire_http.specs.Unread.{IsMadeFor}
use Rattle.wire_http.specs.Wire.{timed}
use Rattle.wire_http.specs.declared.moments.Moments as moments
use Rattle.wire_http.proofs.Unread.{reply_for}
use Rattle.server_watch.specs.declared.token_watch.TokenSource as sources
use Rattle.server_backend.specs.BackendEvent.{Advances, Announces, Answers, BackendEvent, Forgets, Gives, GivesNone, Receives, Settles, Stops as StopsBackend, is_own}
use Rattle.server_backend.specs.Does.{DoesAll}
use Rattle.server_backend.specs.Phase.{Phase, phase_after, phase_at_end}
use Rattle.server_backend.specs.declared.backend.Backend as backends
use Rattle.server_backend.specs.declared.outcome.Received.{Received}
use Rattle.server_backend.specs.declared.outcome.Received.TheVariants as came
use Rattle.server_clients.specs.Backends.{all_backend_events}
use Rattle.server_clients.specs.ClientEvents.{Asks, ClientEvent, EndsStream, Occurs, ReadsClock, ServedClient, Steps}
use Rattle.server_clients.specs.ServerEvents.{Accepts, Acts, Closes, Confirms, FollowAll, Follows, Looks, Moves, ReadsFor, Refuses, ServerEvent, ServerState, Setup, Stops, Tells, Works}
use Rattle.database_backend.specs.Database.{MakesCall, ReceivesAs, StepsAs, service_of}
use Rattle.database_backend.specs.declared.database.Database.{Database}
use Rattle.database_laws.specs.Requests.{all_requests, requests_in}

abbrev pub asked_by : ClientEvent → List BackendEvent
asked_by (Steps step) = []
asked_by (Asks asked made received texts lost) = Receives asked.moment asked.call received ∷ []
asked_by (EndsStream end) = []
asked_by (ReadsClock moment) = []

abbrev pub asked_in : ServerEvent → List BackendEvent
asked_in (Accepts key name) = []
asked_in (Refuses name) = []
asked_in (Acts key name event) = asked_by event
asked_in (Tells event ticket outcome lost) = event ∷ []
asked_in (Works event) = event ∷ []
asked_in (Moves moment held now) = Advances moment held now ∷ []
asked_in (Looks now found) = []
asked_in Confirms = []
asked_in Stops = []
asked_in (Closes key) = []

abbrev pub asked_events : List ServerEvent → List BackendEvent
asked_events events = flat_map asked_in events

-- ---- the phase

pub same_phase : (events : List ServerEvent) (phase : Phase) → phase_at_end (asked_events events) phase ≡ phase_at_end (all_backend_events events) phase
same_phase [] phase = refl
same_phase (Accepts key name ∷ events) phase = same_phase events phase
same_phase (Refuses name ∷ events) phase = same_phase events phase
same_phase (Acts key name (Steps step) ∷ events) phase = same_phase events phase
same_phase (Acts key name (Asks asked made received texts lost) ∷ events) phase = same_phase events (phase_after (Receives asked.moment made received) phase)
same_phase (Acts key name (EndsStream end) ∷ events) phase = same_phase events phase
same_phase (Acts key name (ReadsClock moment) ∷ events) phase = same_phase events phase
same_phase (Tells event ticket outcome lost ∷ events) phase = same_phase events (phase_after event phase)
same_phase (Works event ∷ events) phase = same_phase events (phase_after event phase)
same_phase (Moves moment held now ∷ events) phase = same_phase events phase
same_phase (Looks now found ∷ events) phase = same_phase events phase
same_phase (Confirms ∷ events) phase = same_phase events phase
same_phase (Stops ∷ events) phase = same_phase events phase
same_phase (Closes key ∷ events) phase = same_phase events phase

-- ---- calls

abbrev pub called_in : BackendEvent → List TimedCall
called_in (Receives moment call received) = (moment, call) ∷ []
called_in Settles = []
called_in (Advances moment held now) = []
called_in (Gives ticket outcome) = []
called_in GivesNone = []
called_in (Announces ticket) = []
called_in (Answers moment ticket outcome) = []
called_in (Forgets ticket) = []
called_in StopsBackend = []

-- An event without a call.
pub own_calls : (event : BackendEvent) → is_own event ≡ true → called_in event ≡ []
own_calls (Receives moment call received) h = let no : false ≡ true = h in absurd cc
own_calls Settles h = refl
own_calls (Advances moment held now) h = refl
own_calls (Gives ticket outcome) h = refl
own_calls GivesNone h = refl
own_calls (Announces ticket) h = refl
own_calls (Answers moment ticket outcome) h = refl
own_calls (Forgets ticket) h = refl
own_calls StopsBackend h = refl

module _ {M : Type 0} (m : moments.Ghosts M) where
  pub told_calls : (event : BackendEvent) (clock clock' : M) → ReadsFor m event clock clock' → called_in event ≡ []
  told_calls (Receives moment call received) clock clock' h = absurd h
  told_calls Settles clock clock' h = refl
  told_calls (Advances moment held now) clock clock' h = refl
  told_calls (Gives ticket outcome) clock clock' h = refl
  told_calls GivesNone clock clock' h = refl
  told_calls (Announces ticket) clock clock' h = refl
  told_calls (Answers moment ticket outcome) clock clock' h = refl
  told_calls (Forgets ticket) clock clock' h = refl
  told_calls StopsBackend clock clock' h = refl

single_calls : (event : BackendEvent) → called_in event ≡ [] → flat_map called_in (event ∷ []) ≡ []
single_calls event h = ap (λ (v : List TimedCall). v ++ []) h

-- ---- the database

module _ {S : Type 0} (g : spaces.Ghosts S) (k : settles.Ghosts S) where
  makes_for : (moment : ℕ) (made call : Call) (reply : Reply) (waits : Bool) (count : ℕ) (d d' : Database S) → IsMadeFor made call → MakesCall g k moment made reply waits count d d' → MakesCall g k moment call reply waits count d d'
  makes_for moment made call reply waits count d d' for h =
      record { is_reply = reply_for g (service_of d) (service_of d') moment made call reply for h.is_reply; waits_is = h.waits_is; same = h.same }

  -- A database that receives a call that is made for another one does what it does for the other.
  receives_for : (moment : ℕ) (made call : Call) (received : Received) (d d' : Database S) → IsMadeFor made call → ReceivesAs g k moment made received d d' → ReceivesAs g k moment call received d d'
  receives_for moment made call (came.Answered reply) d d' for h = makes_for moment made call reply _ _ d d' for h
  receives_for moment made call (came.Drafted ticket reply) d d' for h = (h.0, makes_for moment made call reply _ _ d d' for h.1)
  receives_for moment made call (came.Waits ticket) d d' for h = absurd h
  receives_for moment made call (came.Refused reason) d d' for h = absurd h

  from : (events : List BackendEvent) (x y n : Database S) → y ≡ x → DoesAll (StepsAs g k) events y n → DoesAll (StepsAs g k) events x n
  from events x y n same h = subst (λ (v : Database S). DoesAll (StepsAs g k) events v n) same h

module _ {S M T : Type 0} (g : spaces.Ghosts S) (k : settles.Ghosts S) (b : backends.Ghosts (Database S)) (m : moments.Ghosts M) (t : sources.Ghosts T)
    (is : (d : Database S) (event : BackendEvent) (d' : Database S) → b.steps d event d' → StepsAs g k d event d') (setup : Setup) where
  acted : (table : TokenFile) (event : ClientEvent) (events : List BackendEvent) (old new : ServedClient (Database S) M) (n : Database S) → Occurs b m setup.explaining table event old new
      → DoesAll (StepsAs g k) events new.backend n → DoesAll (StepsAs g k) (asked_by event ++ events) old.backend n
  acted table (Steps step) events old new n h rest = from g k events old.backend new.backend n (ap (λ (s : ServedClient (Database S) M). s.backend) h.2) rest
  acted table (Asks asked made received texts lost) events old new n h rest = (
    h.2,
    receives_for g k asked.moment made asked.call received old.backend h.2 h.3.made_for (is old.backend (Receives asked.moment made received) h.2 h.4),
    from g k events h.2 new.backend n (ap (λ (s : ServedClient (Database S) M). s.backend) h.5) rest,
  )
  acted table (EndsStream end) events old new n h rest = from g k events old.backend new.backend n (ap (λ (s : ServedClient (Database S) M). s.backend) h.3) rest
  acted table (ReadsClock moment) events old new n h rest = from g k events old.backend new.backend n (ap (λ (s : ServedClient (Database S) M). s.backend) h.2) rest

  one : (event : ServerEvent) (events : List BackendEvent) (old mid : ServerState (Database S) M T) (n : Database S) → Follows b m t setup event old mid
      → DoesAll (StepsAs g k) events mid.backend n → DoesAll (StepsAs g k) (asked_in event ++ events) old.backend n
  one (Accepts key name) events old mid n h rest = from g k events old.backend mid.backend n (ap (λ (s : ServerState (Database S) M T). s.backend) h.1) rest
  one (Refuses name) events old mid n h rest = from g k events old.backend mid.backend n (ap (λ (s : ServerState (Database S) M T). s.backend) h) rest
  one (Acts key name event) events old mid n h rest =
      acted old.table event events _ h.3 n h.4 (from g k events h.3.backend mid.backend n (ap (λ (s : ServerState (Database S) M T). s.backend) h.5) rest)
  one (Tells event ticket outcome lost) events old mid n h rest =
      (h.0, is old.backend event h.0 h.4, from g k events h.0 mid.backend n (ap (λ (s : ServerState (Database S) M T). s.backend) h.5) rest)
  one (Works event) events old mid n h rest = (h.0, is old.backend event h.0 h.2, from g k events h.0 mid.backend n (ap (λ (s : ServerState (Database S) M T). s.backend) h.3) rest)
  one (Moves moment held now) events old mid n h rest =
      (h.0, is old.backend (Advances moment held now) h.0 h.6, from g k events h.0 mid.backend n (ap (λ (s : ServerState (Database S) M T). s.backend) h.7) rest)
  one (Looks now found) events old mid n h rest = from g k events old.backend mid.backend n (ap (λ (s : ServerState (Database S) M T). s.backend) h.3) rest
  one Confirms events old mid n h rest = from g k events old.backend mid.backend n (ap (λ (s : ServerState (Database S) M T). s.backend) h.3) rest
  one Stops events old mid n h rest = from g k events old.backend mid.backend n (ap (λ (s : ServerState (Database S) M T). s.backend) h.1) rest
  one (Closes key) events old mid n h rest = from g k events old.backend mid.backend n (ap (λ (s : ServerState (Database S) M T). s.backend) h.3) rest

  -- The asked calls lead from one database to the other.
  pub all_asked : (events : List ServerEvent) (old new : ServerState (Database S) M T) → FollowAll b m t setup events old new
      → DoesAll (StepsAs g k) (asked_events events) old.backend new.backend
  all_asked [] old new h = ap (λ (s : ServerState (Database S) M T). s.backend) h
  all_asked (event ∷ events) old new h = one event (asked_events events) old h.0 new.backend h.1 (all_asked events h.0 new h.2)

  -- ---- the calls of requests

  calls_of : (event : ServerEvent) (old mid : ServerState (Database S) M T) → Follows b m t setup event old mid → flat_map called_in (asked_in event) ≡ map timed (requests_in event)
  calls_of (Accepts key name) old mid h = refl
  calls_of (Refuses name) old mid h = refl
  calls_of (Acts key name (Steps step)) old mid h = refl
  calls_of (Acts key name (Asks asked made received texts lost)) old mid h = refl
  calls_of (Acts key name (EndsStream end)) old mid h = refl
  calls_of (Acts key name (ReadsClock moment)) old mid h = refl
  calls_of (Tells event ticket outcome lost) old mid h = single_calls event (told_calls m event old.clock h.1 h.3)
  calls_of (Works event) old mid h = single_calls event (own_calls event h.1)
  calls_of (Moves moment held now) old mid h = refl
  calls_of (Looks now found) old mid h = refl
  calls_of Confirms old mid h = refl
  calls_of Stops old mid h = refl
  calls_of (Closes key) old mid h = refl

  pub calls_asked : (events : List ServerEvent) (old new : ServerState (Database S) M T) → FollowAll b m t setup events old new
      → flat_map called_in (asked_events events) ≡ map timed (all_requests events)
  calls_asked [] old new h = refl
  calls_asked (event ∷ events) old new h =
      flat_map-append called_in (asked_in event) (asked_events events)
      ∙ ap (λ (v : List TimedCall). v ++ flat_map called_in (asked_events events)) (calls_of event old h.0 h.1)
      ∙ ap (λ (v : List TimedCall). map timed (requests_in event) ++ v) (calls_asked events h.0 new h.2)
      ∙ sym (map-append timed (requests_in event) (all_requests events))
