-- The state of one connection, and the effect of a step.
use Rattle.std.specs.Prelude.{◌≡◌, ◌<◌, ◌≤◌, ◌-◌, ◌||◌, ℕ, Bool, true, false, List, [], ◌++◌, length, drop, Option, Some, is_some, option_map}
use Rattle.std.specs.List.{concat}
use Rattle.space_core.specs.declared.space.Space.{Ghosts}
use Rattle.service_calls.specs.declared.service.Service.{Service}
use Rattle.token_conf.specs.TokenFile.{Callers}
use Rattle.wire_http.specs.declared.connection.Connection.{Connection}
use Rattle.wire_http.specs.declared.connection.awaited.Awaited.{Awaited}
use Rattle.wire_http.specs.declared.connection.Step.{Step}
use Rattle.wire_http.specs.declared.connection.Step.TheVariants as steps
use Rattle.wire_http.specs.declared.explaining.Explaining.{Explaining}
use Rattle.wire_http.specs.declared.explaining.Explaining.TheVariants.{Off}
use Rattle.wire_http.specs.declared.fault.StreamFault.{StreamFault}
use Rattle.wire_http.specs.declared.serve.Turn.TheVariants as turns
use Rattle.wire_http.specs.BufferState.{HasNoRequest, MayCome, max_buffered}
use Rattle.wire_http.specs.declared.request_info.RequestInfo.{RequestInfo}
use Rattle.wire_http.specs.RequestInfo.{IsNotedFor, noted_after}
use Rattle.wire_http.specs.DeferredResponse.{Slot, before_last, last_alone, slot_at}
use Rattle.wire_http.specs.Text.{end_texts}
use Rattle.wire_http.specs.Turn.{IsTurnBy, IsTurnPart}
use Rattle.wire_http.specs.Wire.{RequestCall, Finishes}

-- The received bytes after the last request.
abbrev pub buffered_of : Connection → List ℕ
buffered_of c = c.held.items

-- The number of requests that may still be answered.
abbrev pub left_of : Connection → ℕ
left_of c = c.left

-- Returns true if no more input arrives.
abbrev pub has_ended : Connection → Bool
has_ended c = c.ended

-- Returns true if no more requests are answered.
abbrev pub is_done : Connection → Bool
is_done c = c.done

-- The unsent bytes of responses.
abbrev pub output_of : Connection → List ℕ
output_of c = drop c.sent c.answers.items

-- The recorded information about the last response, if there was one.
abbrev pub noted_of : Connection → Option RequestInfo
noted_of c = c.noted

-- Returns true if the last response is deferred.
abbrev pub holds_back : Connection → Bool
holds_back c = is_some c.deferred_response

abbrev pub slot_of : Connection → Option Slot
slot_of c = option_map slot_at c.deferred_response

-- The request that waits for its reply, if one does.
abbrev pub awaited_of : Connection → Option Awaited
awaited_of c = c.awaited

-- Returns true if a response is deferred, or a request waits for its reply. No request is answered
-- meanwhile.
abbrev pub is_waiting : Connection → Bool
is_waiting c = holds_back c || is_some c.awaited

-- The unsent bytes that may be sent, and the deferred ones.
abbrev pub ready_of : Connection → List ℕ
ready_of c = before_last c.sent (output_of c) c.deferred_response

abbrev pub deferred_of : Connection → List ℕ
deferred_of c = last_alone c.sent (output_of c) c.deferred_response

-- The slot of the response to a request.
abbrev pub slot_for : RequestCall → Slot
slot_for asked = record { endpoint = asked.endpoint; closing = asked.closing }

-- Holds if the connection has room for these bytes.
abbrev pub HasRoom : Connection → List ℕ → Type 0
HasRoom c bytes = length bytes ≤ max_buffered - length (buffered_of c)

-- Holds if a step left the connection unchanged.
pub record IsSame (c c' : Connection) : Type 0 where
  pub held : buffered_of c' ≡ buffered_of c
  pub output : output_of c' ≡ output_of c
  pub ready : ready_of c' ≡ ready_of c
  pub slot : slot_of c' ≡ slot_of c
  pub left : left_of c' ≡ left_of c
  pub ended : has_ended c' ≡ has_ended c
  pub done : is_done c' ≡ is_done c

module _ {S M : Type 0} (g : Ghosts S) (Gives : M → ℕ → M → Type 0) (callers : Callers)
    (old new : Service S) (clock clock' : M) (c c' : Connection) where
  -- Holds if the step did one of three things. It did nothing: more input may arrive, no request is
  -- complete, and there is room. Or it answered one more request, as a turn of a stream without
  -- more input does, and its response is deferred. Or the stream ended, whatever can still arrive.
  --
  -- A step reads from no reader: all received bytes are in the buffer. So the turn in the case
  -- `Answered` has a reader without bytes before it and after it, which are the two `Some []`. What
  -- it writes is the output: `Some (output_of c)` before it and `Some (output_of c')` after it.
  abbrev pub IsStepBy : Explaining → Step → Type 0
  IsStepBy explaining steps.NeedsInput =
      (new ≡ old) × (clock' ≡ clock) × IsSame c c' × (0 < left_of c) × (has_ended c ≡ false)
      × HasNoRequest (buffered_of c) × (length (buffered_of c) < max_buffered)
  IsStepBy explaining (steps.Answered n) =
      (0 < left_of c)
      × (turn : IsTurnBy g Gives callers (left_of c - 1) old new clock clock'
      (Some (output_of c)) (Some (output_of c')) explaining (Some []) (Some [])
      (buffered_of c) (buffered_of c') (turns.Answered n))
      × (left_of c' ≡ n) × (has_ended c' ≡ has_ended c) × (is_done c' ≡ is_done c)
      × (ready_of c' ≡ output_of c) × (slot_of c' ≡ Some (slot_for turn.0))
  IsStepBy explaining (steps.Ended end) =
      (new ≡ old) × (clock' ≡ clock)
      × ((later : List ℕ) → MayCome (has_ended c) later
      → Finishes (left_of c) (buffered_of c ++ later) end)
      × (output_of c' ≡ output_of c ++ concat (end_texts end))
      × (buffered_of c' ≡ buffered_of c) × (left_of c' ≡ left_of c) × (is_done c' ≡ true)
      × (slot_of c' ≡ slot_of c) × (has_ended c' ≡ has_ended c)

  -- The same without explanations: the response is that of the policy.
  abbrev pub IsStep : Step → Type 0
  IsStep = IsStepBy Off

  -- Holds if the recorded information is about that request and its reply, or about the protocol
  -- rule that ended the stream.
  abbrev pub IsNotedAs : (explaining : Explaining) → (step : Step) → IsStepBy explaining step
      → Type 0
  IsNotedAs explaining steps.NeedsInput is = noted_of c' ≡ noted_of c
  IsNotedAs explaining (steps.Answered n) is = IsNotedFor is.1.0 is.1.1 (noted_of c')
  IsNotedAs explaining (steps.Ended end) is = noted_of c' ≡ noted_after end (noted_of c)

  -- Holds for a step with its recorded information.
  abbrev pub IsNotedStep : Explaining → Step → Type 0
  IsNotedStep explaining step = (is : IsStepBy explaining step) × IsNotedAs explaining step is

  -- Holds if a turn was aborted by a fault: no byte of its text is sent, and no more requests are
  -- answered.
  abbrev pub IsStepPart : StreamFault → Type 0
  IsStepPart fault =
      (0 < left_of c)
      × IsTurnPart g Gives callers (left_of c - 1) old new clock clock' (Some (output_of c))
      (Some (output_of c')) (Some []) (buffered_of c) fault
      × (output_of c' ≡ output_of c) × (buffered_of c' ≡ buffered_of c) × (is_done c' ≡ true)
      × (slot_of c' ≡ slot_of c) × (left_of c' ≡ left_of c)
      × (has_ended c' ≡ has_ended c)
