-- A deferred response: the last of the unsent ones.
use Rattle.std.specs.Prelude.{◌≤◌, ◌-◌, ℕ, Bool, List, [], take, drop, Option, Some, None}
use Rattle.service_step.specs.declared.reply.Reply.{Reply}
use Rattle.wire_route.specs.declared.endpoint.Endpoint.{Endpoint}
use Rattle.wire_http.specs.declared.connection.DeferredResponse.{DeferredResponse}
use Rattle.wire_http.specs.Text.{response_text}

-- The request that a response answers: its endpoint, and whether the connection closes after it.
pub record Slot : Type 0 where
  pub endpoint : Option Endpoint
  pub closing : Bool

abbrev pub slot_at : DeferredResponse → Slot
slot_at last = record { endpoint = last.endpoint; closing = last.closing }

-- The text of the response to that reply in its slot.
abbrev pub text_at : Option Slot → Reply → List ℕ
text_at None reply = []
text_at (Some slot) reply = response_text slot.endpoint slot.closing reply

-- Holds if the deferred response begins after the sent bytes.
abbrev pub StandsWithin : ℕ → ℕ → DeferredResponse → Type 0
StandsWithin sent size last = (sent ≤ last.start) × (last.start ≤ size)

-- The unsent bytes before the deferred response.
abbrev pub before_last : ℕ → List ℕ → Option DeferredResponse → List ℕ
before_last sent output None = output
before_last sent output (Some last) = take (last.start - sent) output

-- The bytes of the deferred response.
abbrev pub last_alone : ℕ → List ℕ → Option DeferredResponse → List ℕ
last_alone sent output None = []
last_alone sent output (Some last) = drop (last.start - sent) output
