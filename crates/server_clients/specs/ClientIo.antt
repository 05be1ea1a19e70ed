-- The state of a client with a connection, and how its bytes move.
use Rattle.std.specs.Prelude.{◌≡◌, ◌<◌, ◌≤◌, ◌||◌, ℕ, true, List, [], ◌∷◌, ◌++◌, drop, length, take, Option, Some, None, is_some}
use Rattle.wire_http.specs.declared.connection.Connection.{Connection}
use Rattle.wire_http.specs.declared.connection.awaited.Awaited.{Awaited}
use Rattle.wire_http.specs.Connection.{awaited_of, buffered_of, has_ended, is_done, left_of, output_of, ready_of, slot_of}
use Rattle.wire_http.specs.DeferredResponse.{Slot as DraftSlot}
use Rattle.server_base.specs.History.{Extends, HistoryEvent, Received, ReceivedEnd, Sent}
use Rattle.server_clients.specs.ClientState.{ClientState, Waiting, waiting}
use Rattle.server_clients.specs.Texts.{Slot, no_texts, texts_in}
use Rattle.server_clients.specs.declared.client_io.ClientIo.{ClientIo}
use Rattle.server_clients.specs.declared.client_io.ReadOutcome.{ReadOutcome}
use Rattle.server_clients.specs.declared.client_io.ReadOutcome.TheVariants as came
use Rattle.server_clients.specs.declared.client_io.WriteOutcome.{WriteOutcome}
use Rattle.server_clients.specs.declared.client_io.WriteOutcome.TheVariants as went
use Rattle.server_clients.specs.declared.reason.Reason.{Reason}

abbrev pub connection_of : {T : Type 0} → ClientIo T → Connection
connection_of io = io.connection

-- The slot of a draft, whose texts are in it, and that of a request that waits.
abbrev pub draft_slot : DraftSlot → Slot
draft_slot slot = record { endpoint = slot.endpoint; closing = slot.closing; texts = no_texts }

abbrev pub awaited_slot : Awaited → Slot
awaited_slot awaited = record {
  endpoint = awaited.endpoint;
  closing = awaited.closing;
  texts = texts_in awaited.texts;
}

-- The request of a connection that was drafted or waits under a ticket, given the slot of its
-- deferred response, its request that waits, its unsent bytes, and those that may be sent.
abbrev pub waiting_in : (ticket : Option ℕ) → Option DraftSlot → Option Awaited
    → (output ready : List ℕ) → Option Waiting
waiting_in None slot awaited output ready = None
waiting_in (Some ticket) (Some slot) awaited output ready = Some (record {
  ticket = ticket;
  slot = draft_slot slot;
  draft = Some (drop (length ready) output);
})
waiting_in (Some ticket) None (Some awaited) output ready =
    Some (waiting ticket (awaited_slot awaited))
waiting_in (Some ticket) None None output ready = None

-- The state of a client with that name and connection. It has a ticket, if it has a request that
-- was drafted or waits, and a reason, if the server stopped answering it.
abbrev pub state_of : (name : ℕ) → (ticket : Option ℕ) → (why : Option Reason) → Connection
    → ClientState
state_of name ticket why c = record {
  name = name;
  held = buffered_of c;
  ended = has_ended c;
  left = left_of c;
  ready = ready_of c;
  waits = waiting_in ticket (slot_of c) (awaited_of c) (output_of c) (ready_of c);
  done = is_some why || is_done c;
  why = why;
}

-- The state of the client, whose name its socket has.
abbrev pub client_state : {T : Type 0} → (name : T → ℕ) → ClientIo T → ClientState
client_state name io = state_of (name io.socket) io.ticket io.why io.connection

module _ (l l' : ClientState) (past now : Option (List HistoryEvent)) where
  -- What a read did: each byte that the socket returned is buffered, in order.
  abbrev pub Reads : ReadOutcome → Type 0
  Reads (came.Chunk n) = (bytes : List ℕ) × (length bytes ≡ n)
      × (l' ≡ record l { held = l.held ++ bytes }) × Extends past now (Received l.name bytes ∷ [])
  Reads came.End = (l' ≡ record l { ended = true }) × Extends past now (ReceivedEnd l.name ∷ [])
  Reads came.Nothing = (l' ≡ l) × (now ≡ past)

  -- What a write did: the socket took some of the first bytes that may be sent, and the rest is
  -- still to be sent. No byte of a draft is among them.
  abbrev pub Writes : WriteOutcome → Type 0
  Writes went.Some = (count : ℕ) × (0 < count) × (count ≤ length l.ready)
      × (l' ≡ record l { ready = drop count l.ready })
      × Extends past now (Sent l.name (take count l.ready) ∷ [])
  Writes went.Nothing = (l' ≡ l) × (now ≡ past)
