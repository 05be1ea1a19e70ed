-- A request that waits for its reply, and the request of a deferred response: what its outcome makes
-- of it.
use Rattle.std.specs.Prelude.{List, [], ℕ, Option, Some, None}
use Rattle.service_step.specs.declared.reply.Reply.{Reply}
use Rattle.wire_http.specs.declared.connection.awaited.Awaited.{Awaited}
use Rattle.wire_http.specs.declared.request_info.Outcome.{Outcome}
use Rattle.wire_http.specs.declared.request_info.RequestInfo.{RequestInfo}
use Rattle.wire_http.specs.declared.unavailable.Unavailable.{Unavailable}
use Rattle.wire_http.specs.DeferredResponse.{Slot, text_at}
use Rattle.wire_http.specs.RequestInfo.{recorded_as}
use Rattle.wire_http.specs.Text.{noted_text, unavailable_text}
use Rattle.wire_http.specs.Texts.{texts_for}

-- The information about the request with that outcome.
abbrev pub info_in : Awaited → Outcome → RequestInfo
info_in awaited outcome = record {
  operation = awaited.operation;
  supplier = awaited.supplier;
  entity = awaited.entity;
  outcome = outcome;
}

-- The text of the response to that reply, with the texts of the request.
abbrev pub text_in : Option Awaited → Reply → List ℕ
text_in None reply = []
text_in (Some awaited) reply =
    noted_text (texts_for awaited.texts reply) awaited.endpoint awaited.closing reply

-- The text of status 503.
abbrev pub refusal_in : Option Awaited → Unavailable → List ℕ
refusal_in None reason = []
refusal_in (Some awaited) reason = unavailable_text awaited.closing reason

-- ---- a deferred response, or a request that waits

-- The text of the response to that reply. It replaces a deferred response.
abbrev pub outcome_text : Option Slot → Option Awaited → Reply → List ℕ
outcome_text (Some slot) awaited reply = text_at (Some slot) reply
outcome_text None awaited reply = text_in awaited reply

-- The text of status 503. It replaces a deferred response.
abbrev pub refusal_text : Option Slot → Option Awaited → Unavailable → List ℕ
refusal_text (Some slot) awaited reason = unavailable_text slot.closing reason
refusal_text None awaited reason = refusal_in awaited reason

-- The information after that outcome: about the request that waits, or of the deferred response. It
-- is what was recorded before if there is neither.
abbrev pub noted_with : Option Slot → Option Awaited → Outcome → Option RequestInfo
    → Option RequestInfo
noted_with (Some slot) awaited outcome noted = recorded_as outcome noted
noted_with None (Some awaited) outcome noted = Some (info_in awaited outcome)
noted_with None None outcome noted = noted
