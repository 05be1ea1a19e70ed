-- What the methods of a connection do is what a stream does: each request that is answered is one
-- turn of a stream.
use Rattle.std.specs.Prelude.{◌<◌, ℕ}
use Rattle.space_core.specs.declared.space.Space.{Ghosts}
use Rattle.service_calls.specs.declared.service.Service.{Service}
use Rattle.service_calls.specs.Run.{IsReplyTo}
use Rattle.service_step.specs.declared.reply.Reply.{Reply}
use Rattle.token_conf.specs.TokenFile.{Callers}
use Rattle.wire_http.specs.declared.connection.Connection.{Connection}
use Rattle.wire_http.specs.declared.connection.Step.TheVariants as steps
use Rattle.wire_http.specs.declared.connection.next.NextRequest.{NextRequest}
use Rattle.wire_http.specs.declared.end.End.{End}
use Rattle.wire_http.specs.declared.explaining.Explaining.{Explaining}
use Rattle.wire_http.specs.declared.fault.StreamFault.TheVariants as faults
use Rattle.wire_http.specs.declared.texts.Texts.{Texts}
use Rattle.wire_http.specs.Connection.{IsNotedStep, IsStepPart, buffered_of, left_of}
use Rattle.wire_http.specs.NextRequest.{EndsStream}
use Rattle.wire_http.specs.NextRequest.{IsFront, IsStopped, LosesNext, NeedsMore, call_in, left_in}
use Rattle.wire_http.specs.Outcomes.{Drafts}
use Rattle.wire_http.specs.Texts.{MayBeTexts}

module _ {S M : Type 0} (g : Ghosts S) (Gives : M → ℕ → M → Type 0) (callers : Callers) where
  -- A request that is the next one of a connection, and was called at the next time of the clock.
  pub record IsCalled (old new : Service S) (clock clock' : M) (c : Connection) (next : NextRequest)
      (reply : Reply) : Type 0 where
    pub some : 0 < left_of c
    pub front : IsFront callers (left_of c) (buffered_of c) next
    pub moment : ℕ
    pub gives : Gives clock moment clock'
    pub is_reply : IsReplyTo g old new moment (call_in next) reply

  -- States that a request with a deferred response is one turn of a stream.
  abbrev pub DraftIsATurn : Type 0
  DraftIsATurn = (explaining : Explaining) (old new : Service S) (clock clock' : M)
      (c c' : Connection) (next : NextRequest) (texts : Texts) (reply : Reply)
      → IsCalled old new clock clock' c next reply → MayBeTexts explaining texts
      → Drafts next texts reply c c'
      → IsNotedStep g Gives callers old new clock clock' c c' explaining
      (steps.Answered (left_in next))

  -- States that a lost response, a clock that fails, and memory that runs out abort one turn.
  abbrev pub LossIsAPart : Type 0
  LossIsAPart = (old new : Service S) (clock clock' : M) (c c' : Connection) (next : NextRequest)
      (reply : Reply) → IsCalled old new clock clock' c next reply → IsStopped c c'
      → IsStepPart g Gives callers old new clock clock' c c' faults.Memory

  abbrev pub NoTimeIsAPart : Type 0
  NoTimeIsAPart = (s : Service S) (clock clock' : M) (c c' : Connection) (next : NextRequest)
      → 0 < left_of c → IsFront callers (left_of c) (buffered_of c) next → IsStopped c c'
      → IsStepPart g Gives callers s s clock clock' c c' faults.Clock

  abbrev pub NoRequestIsAPart : Type 0
  NoRequestIsAPart = (s : Service S) (clock : M) (c c' : Connection) → LosesNext c c'
      → IsStepPart g Gives callers s s clock clock c c' faults.Memory

  -- States that a connection which needs input does nothing, and that an end is that of a stream.
  abbrev pub InputIsAwaited : Type 0
  InputIsAwaited = (explaining : Explaining) (s : Service S) (clock : M) (c c' : Connection)
      → NeedsMore c c'
      → IsNotedStep g Gives callers s s clock clock c c' explaining steps.NeedsInput

  abbrev pub EndIsAnEnd : Type 0
  EndIsAnEnd = (explaining : Explaining) (s : Service S) (clock : M) (c c' : Connection) (end : End)
      → EndsStream c c' end
      → IsNotedStep g Gives callers s s clock clock c c' explaining (steps.Ended end)
