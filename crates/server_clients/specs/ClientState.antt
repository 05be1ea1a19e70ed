-- The state of a client as seen from outside, and what changes it.
use Rattle.std.specs.Prelude.{◌≡◌, ◌⊎◌, ◌≤◌, ◌-◌, ◌==◌, ℕ, min, Bool, true, false, List, [], ◌∷◌, ◌++◌, length, take, drop, Option, Some, None, IsSome, if◌then◌else◌}
use Rattle.std.specs.List.{concat, flat_map}
use Rattle.service_step.specs.declared.reply.Reply.{Reply}
use Rattle.wire_http.specs.declared.end.End.{End}
use Rattle.wire_http.specs.Count.{max_requests}
use Rattle.wire_http.specs.Text.{end_texts, unavailable_text}
use Rattle.wire_http.specs.Wire.{RequestCall, left_after}
use Rattle.server_base.specs.History.{Extends, HistoryEvent, Received, ReceivedEnd, Sent}
use Rattle.server_backend.specs.declared.outcome.Outcome.{Outcome}
use Rattle.server_backend.specs.declared.outcome.Received.{Received as Receipt}
use Rattle.server_backend.specs.declared.outcome.Received.TheVariants as came
use Rattle.server_clients.specs.Texts.{RequestTexts, Slot, outcome_text, reply_in, without_texts}
use Rattle.server_clients.specs.declared.reason.Reason.{Reason}
use Rattle.server_clients.specs.declared.reason.Reason.TheVariants.{Memory}

-- A request that was drafted or waits: its ticket, the slot of its response, and the text of the
-- drafted reply, if there is one.
pub record Waiting : Type 0 where
  pub ticket : ℕ
  pub slot : Slot
  pub draft : Option (List ℕ)

-- The state of a client: its name, the received bytes after its last request, whether no more bytes
-- arrive, and how many requests may still come; the unsent bytes that may be sent, and the request
-- that has no outcome yet. `done` says that no more requests are received, and `why` the reason, if
-- the server stopped answering.
pub record ClientState : Type 0 where
  pub name : ℕ
  pub held : List ℕ
  pub ended : Bool
  pub left : ℕ
  pub ready : List ℕ
  pub waits : Option Waiting
  pub done : Bool
  pub why : Option Reason

-- A client from which nothing was received.
abbrev pub new_client : ℕ → ClientState
new_client name = record {
  name = name;
  held = [];
  ended = false;
  left = max_requests;
  ready = [];
  waits = None;
  done = false;
  why = None;
}

-- ---- steps

-- A step of a client without a request: bytes arrive, no more bytes arrive, arrived bytes are
-- discarded, or bytes are sent. The server stops answering the client for a reason, or lets at most
-- one more request come, as it does once it stops.
pub data ClientStep : Type 0 where
  Receives : (bytes : List ℕ) → ClientStep
  ReceivesEnd : ClientStep
  Discards : (bytes : List ℕ) → ClientStep
  Sends : (bytes : List ℕ) → ClientStep
  Aborts : (why : Reason) → ClientStep
  Limits : ClientStep

-- What the history records of a step.
abbrev pub history_of_step : ℕ → ClientStep → List HistoryEvent
history_of_step name (Receives bytes) = Received name bytes ∷ []
history_of_step name ReceivesEnd = ReceivedEnd name ∷ []
history_of_step name (Discards bytes) = Received name bytes ∷ []
history_of_step name (Sends bytes) = Sent name bytes ∷ []
history_of_step name (Aborts why) = []
history_of_step name Limits = []

-- The state after the server stopped answering the client.
abbrev pub aborted : ClientState → Reason → ClientState
aborted l why = record l { done = true; why = Some why }

-- The state after the server let at most one more request come.
abbrev pub limited : ClientState → ClientState
limited l = record l { left = min l.left 1 }

-- Holds if the step leads from one state to the other. Bytes are discarded only if no more requests
-- are received. Only bytes that may be sent are sent.
abbrev pub StepsTo : ClientStep → ClientState → ClientState → Type 0
StepsTo (Receives bytes) l l' = l' ≡ record l { held = l.held ++ bytes }
StepsTo ReceivesEnd l l' = l' ≡ record l { ended = true }
StepsTo (Discards bytes) l l' = (l.done ≡ true) × (l' ≡ l)
StepsTo (Sends bytes) l l' = (count : ℕ) × (count ≤ length l.ready) × (bytes ≡ take count l.ready)
    × (l' ≡ record l { ready = drop count l.ready })
StepsTo (Aborts why) l l' = l' ≡ aborted l why
StepsTo Limits l l' = l' ≡ limited l

-- Holds if the steps lead from one state to the other.
abbrev pub StepsBy : List ClientStep → ClientState → ClientState → Type 0
StepsBy [] l l' = l' ≡ l
StepsBy (step ∷ steps) l l' = (mid : ClientState) × StepsTo step l mid × StepsBy steps mid l'

-- Holds if some steps lead from one state to the other, and the history records exactly them.
pub record ClientSteps (l l' : ClientState) (past now : Option (List HistoryEvent)) : Type 0 where
  pub steps : List ClientStep
  pub by : StepsBy steps l l'
  pub history : Extends past now (flat_map (history_of_step l.name) steps)

-- Holds if the client may be closed: it has all its responses, or the server stopped answering it.
abbrev pub IsClosable : ClientState → Type 0
IsClosable l = ((l.ready ≡ []) × (l.waits ≡ None)) ⊎ IsSome l.why

-- ---- requests

-- The slot of the response to a request.
abbrev pub slot_for : RequestCall → RequestTexts → Slot
slot_for asked texts =
    record { endpoint = asked.endpoint; closing = asked.closing; texts = texts }

-- The state after the request left the buffer.
abbrev pub taken : ClientState → RequestCall → (rest : List ℕ) → ClientState
taken l asked rest = record l { held = rest; left = left_after (l.left - 1) asked.head }

-- A request that was drafted, and one that waits. The texts of the first are in its draft: a
-- response that takes the place of the draft has none.
abbrev pub drafted : (ticket : ℕ) → Slot → Reply → Waiting
drafted ticket slot reply = record {
  ticket = ticket;
  slot = without_texts slot;
  draft = Some (reply_in slot reply);
}

abbrev pub waiting : (ticket : ℕ) → Slot → Waiting
waiting ticket slot = record { ticket = ticket; slot = slot; draft = None }

-- The state after the backend received the next request.
abbrev pub received_as : Receipt → Slot → ClientState → ClientState
received_as (came.Answered reply) slot l = record l { ready = l.ready ++ reply_in slot reply }
received_as (came.Drafted ticket reply) slot l =
    record l { waits = Some (drafted ticket slot reply) }
received_as (came.Waits ticket) slot l = record l { waits = Some (waiting ticket slot) }
received_as (came.Refused reason) slot l =
    record l { ready = l.ready ++ unavailable_text slot.closing reason }

-- The state after the backend received the next request. If memory ran out for the response, the
-- server stopped answering the client.
abbrev pub after_asking : (lost : Bool) → RequestCall → Receipt → RequestTexts → (rest : List ℕ)
    → ClientState → ClientState
after_asking true asked received texts rest l = aborted l Memory
after_asking false asked received texts rest l =
    received_as received (slot_for asked texts) (taken l asked rest)

-- The state after the stream ended, with the text of the protocol rule that ended it, if one did.
abbrev pub finished : ClientState → End → ClientState
finished l end = record l { ready = l.ready ++ concat (end_texts end); done = true }

-- ---- outcomes

-- The state of a client whose request has this outcome. `lost` says that memory ran out for it.
abbrev pub resolved : Waiting → Outcome → (lost : Bool) → ClientState → ClientState
resolved w outcome true l = aborted (record l { waits = None }) Memory
resolved w outcome false l =
    record l { ready = l.ready ++ outcome_text w.slot w.draft outcome; waits = None }

-- The state of a client whose request waits so, or that waits for none, after the backend gave an
-- outcome under a ticket.
abbrev pub told_if : Option Waiting → (ticket : ℕ) → Outcome → (lost : Bool) → ClientState
    → ClientState
told_if None ticket outcome lost l = l
told_if (Some w) ticket outcome lost l =
    if w.ticket == ticket then resolved w outcome lost l else l

-- The state after the backend gave an outcome under a ticket. It changes no client whose request
-- has another ticket.
abbrev pub told : (ticket : ℕ) → Outcome → (lost : Bool) → ClientState → ClientState
told ticket outcome lost l = told_if l.waits ticket outcome lost l
