-- What each client sent and was sent over events of a server.
use Rattle.std.specs.Prelude.{◌≡◌, ◌==◌, ℕ, Bool, false, List, [], ◌∷◌, ◌++◌, Option, Some, None, if◌then◌else◌}
use Rattle.std.specs.List.{AllByRecursion, concat, flat_map}
use Rattle.wire_http.specs.Text.{end_texts, unavailable_text}
use Rattle.wire_http.specs.declared.moments.Moments as moments
use Rattle.server_watch.specs.declared.token_watch.TokenSource as sources
use Rattle.server_backend.specs.declared.backend.Backend as backends
use Rattle.server_backend.specs.declared.outcome.Outcome.{Outcome}
use Rattle.server_backend.specs.declared.outcome.Received.{Received}
use Rattle.server_backend.specs.declared.outcome.Received.TheVariants as came
use Rattle.server_clients.specs.ClientEvents.{Asks, ClientEvent, EndsStream, ReadsClock, Steps}
use Rattle.server_clients.specs.ClientState.{Aborts, ClientState, ClientStep, Discards, Limits, Receives, ReceivesEnd, Sends, Waiting, drafted, new_client, slot_for, waiting}
use Rattle.server_clients.specs.ServerEvents.{Accepts, Acts, Closes, Confirms, FollowAll, Looks, Moves, Refuses, ServerEvent, ServerState, Setup, Stops, Tells, Works}
use Rattle.server_clients.specs.Texts.{Slot, outcome_text, reply_in}

-- ---- bytes

abbrev pub sent_by_step : ClientStep → List ℕ
sent_by_step (Receives bytes) = []
sent_by_step ReceivesEnd = []
sent_by_step (Discards bytes) = []
sent_by_step (Sends bytes) = bytes
sent_by_step (Aborts why) = []
sent_by_step Limits = []

abbrev pub sent_by : ClientEvent → List ℕ
sent_by (Steps step) = sent_by_step step
sent_by (Asks asked made received texts lost) = []
sent_by (EndsStream end) = []
sent_by (ReadsClock moment) = []

-- The bytes that were sent to the client under a key.
abbrev pub sent_in : (key : ℕ) → ServerEvent → List ℕ
sent_in key (Accepts other name) = []
sent_in key (Refuses name) = []
sent_in key (Acts other name event) = if key == other then sent_by event else []
sent_in key (Tells event ticket outcome lost) = []
sent_in key (Works event) = []
sent_in key (Moves moment held now) = []
sent_in key (Looks now found) = []
sent_in key Confirms = []
sent_in key Stops = []
sent_in key (Closes other) = []

abbrev pub sent_to : (key : ℕ) → List ServerEvent → List ℕ
sent_to key events = flat_map (sent_in key) events

-- ---- responses

-- The text of an outcome for a request that waits, and `later` if the outcome has another ticket.
-- If memory ran out for it, there is none.
abbrev pub told_by : Option Waiting → (ticket : ℕ) → Outcome → (lost : Bool) → (later : List ℕ)
    → List ℕ
told_by None ticket outcome lost later = []
told_by (Some w) ticket outcome lost later =
    if w.ticket == ticket then (if lost then [] else outcome_text w.slot w.draft outcome) else later

-- The text of the first outcome for a request that waits. There is none if no outcome was given.
abbrev pub told_text : Option Waiting → List ServerEvent → List ℕ
told_text w [] = []
told_text w (Tells event ticket outcome lost ∷ events) =
    told_by w ticket outcome lost (told_text w events)
told_text w (Accepts key name ∷ events) = told_text w events
told_text w (Refuses name ∷ events) = told_text w events
told_text w (Acts key name event ∷ events) = told_text w events
told_text w (Works event ∷ events) = told_text w events
told_text w (Moves moment held now ∷ events) = told_text w events
told_text w (Looks now found ∷ events) = told_text w events
told_text w (Confirms ∷ events) = told_text w events
told_text w (Stops ∷ events) = told_text w events
told_text w (Closes key ∷ events) = told_text w events

-- The text of the response to a request, given the events after its receipt: that of the reply, or
-- of the first outcome that the backend gave under its ticket.
abbrev pub text_for : Received → Slot → (after : List ServerEvent) → List ℕ
text_for (came.Answered reply) slot after = reply_in slot reply
text_for (came.Drafted ticket reply) slot after =
    told_text (Some (drafted ticket slot reply)) after
text_for (came.Waits ticket) slot after = told_text (Some (waiting ticket slot)) after
text_for (came.Refused reason) slot after = unavailable_text slot.closing reason

-- The texts that an event of a client causes, given the events after it: the response to a request,
-- if it is not lost, or the text of the protocol rule that ended the stream, if one did.
abbrev pub texts_of : ClientEvent → (after : List ServerEvent) → List (List ℕ)
texts_of (Steps step) after = []
texts_of (Asks asked made received texts lost) after =
    if lost then [] else (text_for received (slot_for asked texts) after ∷ [])
texts_of (EndsStream end) after = end_texts end
texts_of (ReadsClock moment) after = []

-- The texts of the responses to the client under a key, in the order of its requests, and that of
-- the protocol rule that ended its stream, if one did.
abbrev pub texts_to : (key : ℕ) → List ServerEvent → List (List ℕ)
texts_to key [] = []
texts_to key (Acts other name event ∷ events) =
    (if key == other then texts_of event events else []) ++ texts_to key events
texts_to key (Accepts other name ∷ events) = texts_to key events
texts_to key (Refuses name ∷ events) = texts_to key events
texts_to key (Tells event ticket outcome lost ∷ events) = texts_to key events
texts_to key (Works event ∷ events) = texts_to key events
texts_to key (Moves moment held now ∷ events) = texts_to key events
texts_to key (Looks now found ∷ events) = texts_to key events
texts_to key (Confirms ∷ events) = texts_to key events
texts_to key (Stops ∷ events) = texts_to key events
texts_to key (Closes other ∷ events) = texts_to key events

-- Returns true if the event closes the client under a key.
abbrev pub closes : (key : ℕ) → ServerEvent → Bool
closes key (Closes other) = key == other
closes key (Accepts other name) = false
closes key (Refuses name) = false
closes key (Acts other name event) = false
closes key (Tells event ticket outcome lost) = false
closes key (Works event) = false
closes key (Moves moment held now) = false
closes key (Looks now found) = false
closes key Confirms = false
closes key Stops = false

-- Holds if no event closes the client under a key.
abbrev pub StaysOpen : (key : ℕ) → List ServerEvent → Type 0
StaysOpen key events = AllByRecursion (λ event. closes key event ≡ false) events

-- ---- the law

module _ {B M T : Type 0} (b : backends.Ghosts B) (m : moments.Ghosts M) (t : sources.Ghosts T)
  where
    -- States that what was sent to a client, and what may be sent, is the texts of the outcomes
    -- that the backend gave for its requests, in the order of the requests, each once. This holds
    -- from its acceptance on, as long as it is not closed.
    abbrev pub EachClientIsServed : Type 0
    EachClientIsServed = (setup : Setup) (events : List ServerEvent) (old new : ServerState B M T)
        (key name : ℕ) → FollowAll b m t setup events old new
        → old.clients key ≡ Some (new_client name) → StaysOpen key events
        → (l : ClientState) × (new.clients key ≡ Some l) × (l.name ≡ name)
        × (sent_to key events ++ l.ready ≡ concat (texts_to key events))
