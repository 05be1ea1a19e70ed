-- What the clients of a server over a database are sent: the texts of the replies of the policy.
use Rattle.std.specs.Prelude.{◌≡◌, ◌==◌, ◌&&◌, ℕ, Bool, true, false, not, List, [], ◌∷◌, ◌++◌, length, drop, map, take, Some, if◌then◌else◌}
use Rattle.std.specs.List.{concat}
use Rattle.entity_core.specs.Airspace.{Airspace, IsAirspace}
use Rattle.service_calls.specs.Batches.{Batch}
use Rattle.service_calls.specs.Held.{salt_of}
use Rattle.service_calls.specs.Purged.{RunsPurged, Segment, all_delivered_in}
use Rattle.service_calls.specs.Run.{has_stopped}
use Rattle.service_purge.specs.Segments.{AreUnseen, LookAheadOncePurged}
use Rattle.service_step.specs.declared.reply.Reply.{Reply}
use Rattle.space_core.specs.declared.group_commit.GroupCommit as settles
use Rattle.space_core.specs.declared.space.Space as spaces
use Rattle.wire_http.specs.Text.{end_texts}
use Rattle.wire_http.specs.Wire.{RequestCall, timed}
use Rattle.wire_http.specs.declared.end.End.{End}
use Rattle.wire_http.specs.declared.explaining.Explaining.{Explaining}
use Rattle.wire_http.specs.declared.moments.Moments as moments
use Rattle.server_watch.specs.declared.token_watch.TokenSource as sources
use Rattle.server_backend.specs.declared.backend.Backend as backends
use Rattle.server_backend.specs.declared.outcome.Received.{Received}
use Rattle.server_backend.specs.declared.outcome.Received.TheVariants as came
use Rattle.server_clients.specs.ClientEvents.{Asks, ClientEvent, EndsStream, ReadsClock, Steps}
use Rattle.server_clients.specs.ClientState.{ClientState, slot_for}
use Rattle.server_clients.specs.Clients.{StaysOpen, sent_to}
use Rattle.server_clients.specs.Replies.{IsTextOf}
use Rattle.server_clients.specs.ServerEvents.{Accepts, Acts, Closes, Confirms, FollowAll, Looks, Moves, Refuses, ServerEvent, ServerState, Setup, Stops, Tells, Works}
use Rattle.server_clients.specs.Texts.{no_texts}
use Rattle.database_backend.specs.Database.{IsQuiet, service_of}
use Rattle.database_backend.specs.Policy.{RunsFrom}
use Rattle.database_backend.specs.declared.database.Database.{Database}
use Rattle.database_laws.specs.Requests.{all_requests}
use Rattle.database_laws.specs.Serve.{all_timed_in}

-- Returns true if the backend gave an outcome under a ticket, and memory did not run out for the
-- text of the first one.
abbrev pub is_told : (ticket : ℕ) → List ServerEvent → Bool
is_told ticket [] = false
is_told ticket (Tells event other outcome lost ∷ events) =
    if ticket == other then not lost else is_told ticket events
is_told ticket (Accepts key name ∷ events) = is_told ticket events
is_told ticket (Refuses name ∷ events) = is_told ticket events
is_told ticket (Acts key name event ∷ events) = is_told ticket events
is_told ticket (Works event ∷ events) = is_told ticket events
is_told ticket (Moves moment held now ∷ events) = is_told ticket events
is_told ticket (Looks now found ∷ events) = is_told ticket events
is_told ticket (Confirms ∷ events) = is_told ticket events
is_told ticket (Stops ∷ events) = is_told ticket events
is_told ticket (Closes key ∷ events) = is_told ticket events

-- Returns true if a request has the text of its reply, given the events after its receipt. A text
-- is missing only if memory ran out for it, and as long as no outcome was given.
abbrev pub has_text : Received → (after : List ServerEvent) → Bool
has_text (came.Answered reply) after = true
has_text (came.Drafted ticket reply) after = is_told ticket after
has_text (came.Waits ticket) after = is_told ticket after
has_text (came.Refused reason) after = false

-- What causes a response to the client under a key: a request, if its reply has a text, or the end
-- of the stream.
pub data Cause : Type 0 where
  Requests : (key : ℕ) → (asked : RequestCall) → (responds : Bool) → Cause
  Finishes : (key : ℕ) → (end : End) → Cause

abbrev pub causes_by : (key : ℕ) → ClientEvent → (after : List ServerEvent) → List Cause
causes_by key (Steps step) after = []
causes_by key (Asks asked made received texts lost) after =
    Requests key asked (not lost && has_text received after) ∷ []
causes_by key (EndsStream end) after = Finishes key end ∷ []
causes_by key (ReadsClock moment) after = []

-- What causes the responses to all clients, in order.
abbrev pub all_causes : List ServerEvent → List Cause
all_causes [] = []
all_causes (Acts key name event ∷ events) = causes_by key event events ++ all_causes events
all_causes (Accepts key name ∷ events) = all_causes events
all_causes (Refuses name ∷ events) = all_causes events
all_causes (Tells event ticket outcome lost ∷ events) = all_causes events
all_causes (Works event ∷ events) = all_causes events
all_causes (Moves moment held now ∷ events) = all_causes events
all_causes (Looks now found ∷ events) = all_causes events
all_causes (Confirms ∷ events) = all_causes events
all_causes (Stops ∷ events) = all_causes events
all_causes (Closes key ∷ events) = all_causes events

-- Holds if these are the texts of the response to a request with this reply: that of the reply, if
-- there is a response.
abbrev pub IsResponse : Explaining → (responds : Bool) → RequestCall → Reply → List (List ℕ)
    → Type 0
IsResponse explaining false asked reply texts = texts ≡ []
IsResponse explaining true asked reply texts = (text : List ℕ) × (texts ≡ text ∷ [])
    × IsTextOf explaining (slot_for asked no_texts) reply text

-- Holds if these are the texts for the client under a key, in the order of its requests, given the
-- replies to the requests of all clients. Each reply is at the place of its request.
abbrev pub AreTextsTo : Explaining → (key : ℕ) → List Cause → List Reply → List (List ℕ) → Type 0
AreTextsTo explaining key [] replies texts = (replies ≡ []) × (texts ≡ [])
AreTextsTo explaining key (Requests other asked responds ∷ more) [] texts = ⊥
AreTextsTo explaining key (Requests other asked responds ∷ more) (reply ∷ replies) texts =
    (these : List (List ℕ)) × (later : List (List ℕ)) × (texts ≡ these ++ later)
    × IsResponse explaining (key == other && responds) asked reply these
    × AreTextsTo explaining key more replies later
AreTextsTo explaining key (Finishes other end ∷ more) replies texts = (later : List (List ℕ))
    × (texts ≡ (if key == other then end_texts end else []) ++ later)
    × AreTextsTo explaining key more replies later

-- Holds if what the client under a key was sent in these events, and what may be sent, is the texts
-- for it. The client was accepted just before them. The replies are those to their requests.
pub record IsSentReplies {B M T : Type 0} (explaining : Explaining) (key name : ℕ)
    (events : List ServerEvent) (replies : List Reply) (new : ServerState B M T) : Type 0 where
  pub client : ClientState
  pub client_is : new.clients key ≡ Some client
  pub name_is : client.name ≡ name
  pub texts : List (List ℕ)
  pub are_texts : AreTextsTo explaining key (all_causes events) replies texts
  pub sent : sent_to key events ++ client.ready ≡ concat texts

module _ {B M T : Type 0} (b : backends.Ghosts B) (m : moments.Ghosts M) (t : sources.Ghosts T)
    (setup : Setup) (old : ServerState B M T) (replies : List Reply) where
  -- Holds if the client that was accepted under a key after the events `before` was sent the texts
  -- for it in the events `during`. Its replies are at the places of its requests.
  pub record IsSentUpTo (before during : List ServerEvent) (key name : ℕ) : Type 0 where
    pub mid : ServerState B M T
    pub follow : FollowAll b m t setup (before ++ Accepts key name ∷ during) old mid
    pub sent : IsSentReplies setup.explaining key name during
        (take (length (all_requests during)) (drop (length (all_requests before)) replies)) mid

  -- Holds if each client was sent the texts of these replies at the places of its requests, from
  -- its acceptance on, up to each event until it is closed.
  abbrev pub EachIsSent : List ServerEvent → Type 0
  EachIsSent events = (before during rest : List ServerEvent) (key name : ℕ)
      → events ≡ before ++ Accepts key name ∷ (during ++ rest) → StaysOpen key during
      → IsSentUpTo before during key name

module _ {S M T : Type 0} (k : settles.Ghosts S) (b : backends.Ghosts (Database S))
    (m : moments.Ghosts M) (t : sources.Ghosts T) where
  -- Holds if one list of calls explains what all clients were sent. It is that of their requests.
  -- The delivered replies and the durable airspace are those of the policy, over what the purges
  -- between the batches left. If no reply was `Stopped`, and each call is forward-looking from the
  -- purges before it, they are those of the policy without purges. Each client was sent the texts
  -- of the delivered replies at the places of its requests.
  pub record IsSentThePolicy (setup : Setup) (a : Airspace) (events : List ServerEvent)
      (old new : ServerState (Database S) M T) : Type 0 where
    pub segments : List Segment
    pub batches : List Batch
    pub calls : all_timed_in segments batches ≡ map timed (all_requests events)
    pub runs : RunsPurged k (salt_of (service_of old.backend)) a segments batches
        (service_of new.backend)
    pub unseen : IsAirspace a → has_stopped (all_delivered_in segments batches) ≡ false
        → LookAheadOncePurged (salt_of (service_of old.backend)) a segments batches
        → AreUnseen k (salt_of (service_of old.backend)) a segments batches (service_of new.backend)
    pub clients : EachIsSent b m t setup old (all_delivered_in segments batches) events

-- ---- the law

module _ {S M T : Type 0} (g : spaces.Ghosts S) (k : settles.Ghosts S)
    (b : backends.Ghosts (Database S)) (m : moments.Ghosts M) (t : sources.Ghosts T) where
  -- States that what all clients were sent, and what may be sent, is the texts of the replies of
  -- the policy. Calls after the last commit are in a batch that is not committed: each draft of
  -- them counts as a failure.
  abbrev pub ClientsGetThePolicy : Type 0
  ClientsGetThePolicy = (setup : Setup) (events : List ServerEvent)
      (old new : ServerState (Database S) M T) (a : Airspace)
      → FollowAll b m t setup events old new → IsQuiet old.backend
      → RunsFrom g k a (service_of old.backend) (service_of new.backend)
      → IsSentThePolicy k b m t setup a events old new
