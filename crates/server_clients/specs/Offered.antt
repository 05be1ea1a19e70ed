-- What becomes of the next request of a client, which the backend receives, and of its outcome.
use Rattle.std.specs.Prelude.{◌≡◌, ◌⊎◌, ◌++◌, ℕ, Bool, true, false, List, [], drop, Option, Some, None, if◌then◌else◌}
use Rattle.wire_http.specs.Connection.{awaited_of, buffered_of, has_ended, is_done, left_of, output_of, ready_of, slot_of}
use Rattle.wire_http.specs.NextRequest.{call_in, closes_after, endpoint_in, left_in, size_in}
use Rattle.wire_http.specs.declared.connection.Connection.{Connection}
use Rattle.wire_http.specs.declared.connection.next.NextRequest.{NextRequest}
use Rattle.wire_http.specs.declared.explaining.Explaining.{Explaining}
use Rattle.server_backend.specs.BackendEvent.{Receives as Takes}
use Rattle.server_backend.specs.declared.backend.Backend as backends
use Rattle.server_backend.specs.declared.outcome.Outcome.{Outcome}
use Rattle.server_backend.specs.declared.outcome.Received.{Received}
use Rattle.server_clients.specs.ClientIo.{waiting_in}
use Rattle.server_clients.specs.ClientState.{ClientState, Waiting, aborted, received_as}
use Rattle.server_clients.specs.Texts.{MayHaveTexts, RequestTexts, Slot, outcome_text}
use Rattle.server_clients.specs.declared.reason.Reason.TheVariants.{Memory}

-- The slot of the response to a request with these texts.
abbrev pub slot_with : NextRequest → RequestTexts → Slot
slot_with next texts =
    record { endpoint = endpoint_in next; closing = closes_after next; texts = texts }

-- The state after the request left the buffer.
abbrev pub without_next : NextRequest → ClientState → ClientState
without_next next l = record l { held = drop (size_in next) l.held; left = left_in next }

-- The state after the backend received the next request. If memory ran out for the response, the
-- server stopped answering the client.
abbrev pub after_offering : (lost : Bool) → NextRequest → Received → RequestTexts → ClientState
    → ClientState
after_offering true next received texts l = aborted l Memory
after_offering false next received texts l =
    received_as received (slot_with next texts) (without_next next l)

-- Holds if a request that was received so has its response, or waits. If memory ran out, its
-- response is lost.
pub record PutsAs (explaining : Explaining) (next : NextRequest) (received : Received) (lost : Bool)
    (l l' : ClientState) : Type 0 where
  pub texts : RequestTexts
  pub may_have : MayHaveTexts explaining texts
  pub state : l' ≡ after_offering lost next received texts l

module _ {B : Type 0} (b : backends.Ghosts B) (explaining : Explaining) (moment : ℕ)
    (next : NextRequest) (old new : B) (l l' : ClientState) where
  -- Holds if the backend received the request at this time, and it has its response, or waits.
  pub record OffersNext (lost : Bool) : Type 0 where
    pub received : Received
    pub steps : b.steps old (Takes moment (call_in next) received) new
    pub puts : PutsAs explaining next received lost l l'

  -- Holds if memory ran out: the response is lost, or the backend did not receive the request.
  abbrev pub LosesOffer : Type 0
  LosesOffer = OffersNext true ⊎ ((new ≡ old) × (l' ≡ aborted l Memory))

-- ---- the outcome

-- The text of an outcome for a request that waits so.
abbrev pub text_of : Option Waiting → Outcome → List ℕ
text_of None outcome = []
text_of (Some w) outcome = outcome_text w.slot w.draft outcome

-- The request of a connection that was drafted or waits under a ticket.
abbrev pub waiting_under : (ticket : ℕ) → Connection → Option Waiting
waiting_under ticket c =
    waiting_in (Some ticket) (slot_of c) (awaited_of c) (output_of c) (ready_of c)

-- Holds if the response to the request that was drafted or waits is that of the outcome, and all
-- output may be sent. If memory ran out, there is none.
pub record Resolved (outcome : Outcome) (lost : Bool) (c c' : Connection) : Type 0 where
  pub output : (ticket : ℕ) → output_of c' ≡ ready_of c
      ++ (if lost then [] else text_of (waiting_under ticket c) outcome)
  pub ready : ready_of c' ≡ output_of c'
  pub held : buffered_of c' ≡ buffered_of c
  pub left : left_of c' ≡ left_of c
  pub ended : has_ended c' ≡ has_ended c
  pub done : lost ≡ false → is_done c' ≡ is_done c
