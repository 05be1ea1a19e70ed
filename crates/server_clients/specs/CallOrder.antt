-- Which requests the bytes of a client represent.
use Rattle.std.specs.Prelude.{◌≡◌, ◌==◌, ℕ, zero, suc, min, Bool, true, false, List, [], ◌∷◌, ◌++◌, Some, if◌then◌else◌, unwrap_or}
use Rattle.std.specs.List.{flat_map}
use Rattle.token_conf.specs.TokenFile.{Callers, TokenFile, callers_of}
use Rattle.wire_http.specs.Count.{max_requests}
use Rattle.wire_http.specs.Moments.{AnyMoment}
use Rattle.wire_http.specs.Wire.{AsksCall, RequestCall, left_after}
use Rattle.wire_http.specs.declared.moments.Moments as moments
use Rattle.server_watch.specs.declared.token_watch.TokenSource as sources
use Rattle.server_backend.specs.declared.backend.Backend as backends
use Rattle.server_clients.specs.ClientEvents.{Asks, ClientEvent, EndsStream, ReadsClock, Steps}
use Rattle.server_clients.specs.ClientState.{Aborts, ClientState, ClientStep, Discards, Limits, Receives, ReceivesEnd, Sends, new_client}
use Rattle.server_clients.specs.Clients.{StaysOpen}
use Rattle.server_clients.specs.ServerEvents.{Accepts, Acts, Closes, Confirms, FollowAll, Looks, Moves, Refuses, ServerEvent, ServerState, Setup, Stops, Tells, Works}

-- What bounds the later requests of a client: a request, with the callers of the token table that
-- was active, and whether its response is lost; or the limit to one more request.
pub data OrderedEvent : Type 0 where
  Requests : (callers : Callers) → (asked : RequestCall) → OrderedEvent
  LosesResponse : (callers : Callers) → (asked : RequestCall) → OrderedEvent
  LetsOneCome : OrderedEvent

-- Returns true if some event is a request, and if some is one whose response is lost.
abbrev pub has_request : List OrderedEvent → Bool
has_request [] = false
has_request (Requests callers asked ∷ more) = true
has_request (LosesResponse callers asked ∷ more) = true
has_request (LetsOneCome ∷ more) = has_request more

abbrev pub has_loss : List OrderedEvent → Bool
has_loss [] = false
has_loss (Requests callers asked ∷ more) = has_loss more
has_loss (LosesResponse callers asked ∷ more) = true
has_loss (LetsOneCome ∷ more) = has_loss more

-- Holds if these requests are the first of at most `bound` requests, in order. After a limit at
-- most one more request is among them. No request follows one whose response is lost. After all of
-- them `n` requests may still come, and `left` is left of the bytes; a request whose response is
-- lost is still among these.
abbrev pub LeadsBy : (bound : ℕ) → List ℕ → List OrderedEvent → (n : ℕ) → (left : List ℕ) → Type 0
LeadsBy bound rest [] n left = (n ≡ bound) × (left ≡ rest)
LeadsBy bound rest (LetsOneCome ∷ more) n left = LeadsBy (min bound 1) rest more n left
LeadsBy zero rest (Requests callers asked ∷ more) n left = ⊥
LeadsBy (suc bound) rest (Requests callers asked ∷ more) n left =
    (next : List ℕ) × AsksCall AnyMoment callers rest tt asked next tt
    × (asked.closing ≡ (left_after bound asked.head == 0))
    × LeadsBy (left_after bound asked.head) next more n left
LeadsBy zero rest (LosesResponse callers asked ∷ more) n left = ⊥
LeadsBy (suc bound) rest (LosesResponse callers asked ∷ more) n left =
    (next : List ℕ) × AsksCall AnyMoment callers rest tt asked next tt
    × (asked.closing ≡ (left_after bound asked.head == 0))
    × (has_request more ≡ false) × LeadsBy (suc bound) rest more n left

-- Holds if these requests are the first that were received, whatever follows, and the buffered
-- bytes follow those requests. After a lost response no more requests are received.
pub record IsInOrder (received : List ℕ) (all : List OrderedEvent) (l : ClientState) : Type 0 where
  pub leads : (later : List ℕ)
      → LeadsBy max_requests (received ++ later) all l.left (l.held ++ later)
  pub stops : has_loss all ≡ true → l.done ≡ true

-- ---- the events of one client

-- The received bytes in an event, but for discarded ones.
abbrev pub received_by_step : ClientStep → List ℕ
received_by_step (Receives bytes) = bytes
received_by_step ReceivesEnd = []
received_by_step (Discards bytes) = []
received_by_step (Sends bytes) = []
received_by_step (Aborts why) = []
received_by_step Limits = []

abbrev pub received_by : ClientEvent → List ℕ
received_by (Steps step) = received_by_step step
received_by (Asks asked made received texts lost) = []
received_by (EndsStream end) = []
received_by (ReadsClock moment) = []

-- The requests and limits in an event.
abbrev pub ordered_by_step : ClientStep → List OrderedEvent
ordered_by_step (Receives bytes) = []
ordered_by_step ReceivesEnd = []
ordered_by_step (Discards bytes) = []
ordered_by_step (Sends bytes) = []
ordered_by_step (Aborts why) = []
ordered_by_step Limits = LetsOneCome ∷ []

abbrev pub ordered_by : Callers → ClientEvent → List OrderedEvent
ordered_by callers (Steps step) = ordered_by_step step
ordered_by callers (Asks asked made received texts true) = LosesResponse callers asked ∷ []
ordered_by callers (Asks asked made received texts false) = Requests callers asked ∷ []
ordered_by callers (EndsStream end) = []
ordered_by callers (ReadsClock moment) = []

-- The events of the client under a key.
abbrev pub events_for : (key : ℕ) → ServerEvent → List ClientEvent
events_for key (Accepts other name) = []
events_for key (Refuses name) = []
events_for key (Acts other name event) = if key == other then event ∷ [] else []
events_for key (Tells event ticket outcome lost) = []
events_for key (Works event) = []
events_for key (Moves moment held now) = []
events_for key (Looks now found) = []
events_for key Confirms = []
events_for key Stops = []
events_for key (Closes other) = []

-- The active token table after an event.
abbrev pub table_after : ServerEvent → TokenFile → TokenFile
table_after (Accepts key name) table = table
table_after (Refuses name) table = table
table_after (Acts key name event) table = table
table_after (Tells event ticket outcome lost) table = table
table_after (Works event) table = table
table_after (Moves moment held now) table = table
table_after (Looks now found) table = unwrap_or found table
table_after Confirms table = table
table_after Stops table = table
table_after (Closes key) table = table

-- The bytes that were received from the client under a key, but for discarded ones.
abbrev pub received_from : (key : ℕ) → List ServerEvent → List ℕ
received_from key events = flat_map (λ event. flat_map received_by (events_for key event)) events

-- Its requests and limits, in order, if this token table is active at first.
abbrev pub ordered_of : (key : ℕ) → TokenFile → List ServerEvent → List OrderedEvent
ordered_of key table [] = []
ordered_of key table (event ∷ events) =
    flat_map (ordered_by (callers_of table)) (events_for key event)
    ++ ordered_of key (table_after event table) events

-- ---- the law

module _ {B M T : Type 0} (b : backends.Ghosts B) (m : moments.Ghosts M) (t : sources.Ghosts T)
  where
    -- States that the requests of a client that the backend received are the first in the bytes of
    -- the client, in order, each once, each by the caller of its token in the active table.
    abbrev pub RequestsAreAskedInOrder : Type 0
    RequestsAreAskedInOrder = (setup : Setup) (events : List ServerEvent)
        (old new : ServerState B M T) (key name : ℕ) → FollowAll b m t setup events old new
        → old.clients key ≡ Some (new_client name) → StaysOpen key events
        → (l : ClientState) × (new.clients key ≡ Some l)
        × IsInOrder (received_from key events) (ordered_of key old.table events) l
