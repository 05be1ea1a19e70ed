-- The reply to one call.
use Rattle.std.specs.Prelude.{ℕ, ◌<◌, Bool, List, Option, length, take}
use Rattle.std.specs.Io.KnownBytes.{Appends}
use Rattle.policy_core.specs.declared.call.Call.{Call}
use Rattle.space_core.specs.declared.space.Space.{Ghosts}
use Rattle.service_calls.specs.declared.service.Service.{Service}
use Rattle.service_step.specs.declared.reply.Reply.{Reply}
use Rattle.service_calls.specs.Run.{IsReplyTo}
use Rattle.wire_route.specs.declared.endpoint.Endpoint.{Endpoint}
use Rattle.wire_http.specs.declared.explaining.Explaining.{Explaining}
use Rattle.wire_http.specs.Notes.{IsWritten}
use Rattle.wire_http.specs.Text.{response_text}

-- Holds if the service replied, and the text of the response was written.
pub record Replies (explaining : Explaining) {S : Type 0} (g : Ghosts S) (old new : Service S)
    (moment : ℕ) (call : Call) (endpoint : Option Endpoint) (closing : Bool)
    (before text : Option (List ℕ)) : Type 0 where
  pub reply : Reply
  pub is_reply : IsReplyTo g old new moment call reply
  pub written : IsWritten explaining before text endpoint closing reply

-- Holds if the service replied, and a proper prefix of the text of the response was written.
pub record RepliesPart {S : Type 0} (g : Ghosts S) (old new : Service S) (moment : ℕ) (call : Call)
    (endpoint : Option Endpoint) (closing : Bool) (before text : Option (List ℕ)) : Type 0 where
  pub reply : Reply
  pub is_reply : IsReplyTo g old new moment call reply
  pub size : ℕ
  pub short : size < length (response_text endpoint closing reply)
  pub written : Appends before text (take size (response_text endpoint closing reply))
