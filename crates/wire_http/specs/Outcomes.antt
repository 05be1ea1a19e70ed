-- What becomes of the next request of a connection.
use Rattle.std.specs.Prelude.{◌≡◌, ℕ, List, ◌++◌, drop, Some, None}
use Rattle.service_step.specs.declared.reply.Reply.{Reply}
use Rattle.wire_http.specs.declared.connection.Connection.{Connection}
use Rattle.wire_http.specs.declared.connection.awaited.Awaited.{Awaited}
use Rattle.wire_http.specs.declared.connection.next.NextRequest.{NextRequest}
use Rattle.wire_http.specs.declared.request_info.Outcome.{Outcome}
use Rattle.wire_http.specs.declared.request_info.RequestInfo.{RequestInfo}
use Rattle.wire_http.specs.declared.texts.Texts.{Texts}
use Rattle.wire_http.specs.declared.unavailable.Unavailable.{Unavailable}
use Rattle.wire_http.specs.Awaited.{noted_with}
use Rattle.wire_http.specs.Connection.{awaited_of, buffered_of, has_ended, is_done, left_of}
use Rattle.wire_http.specs.Connection.{noted_of, output_of, ready_of, slot_of}
use Rattle.wire_http.specs.DeferredResponse.{Slot}
use Rattle.wire_http.specs.RequestInfo.{outcome_without}
use Rattle.wire_http.specs.NextRequest.{call_in, closes_after, endpoint_in, entity_in, kind_in}
use Rattle.wire_http.specs.NextRequest.{left_in, size_in}
use Rattle.wire_http.specs.RequestInfo.{info_for, outcome_of, supplier_of}
use Rattle.wire_http.specs.Text.{noted_text, unavailable_text}
use Rattle.wire_http.specs.Texts.{texts_for}

-- The slot of its response, the text of the response to that reply, and the information about it.
abbrev pub slot_in : NextRequest → Slot
slot_in next = record { endpoint = endpoint_in next; closing = closes_after next }

abbrev pub text_of : NextRequest → Texts → Reply → List ℕ
text_of next texts reply =
    noted_text (texts_for texts reply) (endpoint_in next) (closes_after next) reply

abbrev pub noted_as : NextRequest → Outcome → RequestInfo
noted_as next outcome = info_for (kind_in next) (call_in next) (entity_in next) outcome

-- What is kept of a request that waits.
abbrev pub awaited_as : NextRequest → Texts → Awaited
awaited_as next texts = record {
  endpoint = endpoint_in next;
  closing = closes_after next;
  texts = texts;
  operation = kind_in next;
  supplier = supplier_of (call_in next);
  entity = entity_in next;
}

-- Holds if the request was consumed.
pub record Takes (next : NextRequest) (c c' : Connection) : Type 0 where
  pub held : buffered_of c' ≡ drop (size_in next) (buffered_of c)
  pub left : left_of c' ≡ left_in next
  pub ended : has_ended c' ≡ has_ended c
  pub done : is_done c' ≡ is_done c

-- Holds if the request was consumed, and the response to this reply is deferred.
pub record Drafts (next : NextRequest) (texts : Texts) (reply : Reply) (c c' : Connection) : Type 0
  where
    pub takes : Takes next c c'
    pub output : output_of c' ≡ output_of c ++ text_of next texts reply
    pub ready : ready_of c' ≡ output_of c
    pub slot : slot_of c' ≡ Some (slot_in next)
    pub awaited : awaited_of c' ≡ awaited_of c
    pub noted : noted_of c' ≡ Some (noted_as next (outcome_of reply))

-- Holds if the request was consumed, and the response to this reply may be sent.
pub record Answers (next : NextRequest) (texts : Texts) (reply : Reply) (c c' : Connection) : Type 0
  where
    pub takes : Takes next c c'
    pub output : output_of c' ≡ output_of c ++ text_of next texts reply
    pub ready : ready_of c' ≡ output_of c'
    pub slot : slot_of c' ≡ None
    pub awaited : awaited_of c' ≡ awaited_of c
    pub noted : noted_of c' ≡ Some (noted_as next (outcome_of reply))

-- Holds if the request was consumed, and status 503 may be sent.
pub record Refuses (next : NextRequest) (reason : Unavailable) (c c' : Connection) : Type 0 where
  pub takes : Takes next c c'
  pub output : output_of c' ≡ output_of c ++ unavailable_text (closes_after next) reason
  pub ready : ready_of c' ≡ output_of c'
  pub slot : slot_of c' ≡ None
  pub awaited : awaited_of c' ≡ awaited_of c
  pub noted : noted_of c' ≡ Some (noted_as next (outcome_without reason))

-- Holds if the request was consumed, and waits for its reply.
pub record Waits (next : NextRequest) (texts : Texts) (c c' : Connection) : Type 0 where
  pub takes : Takes next c c'
  pub output : output_of c' ≡ output_of c
  pub ready : ready_of c' ≡ ready_of c
  pub slot : slot_of c' ≡ slot_of c
  pub awaited : awaited_of c' ≡ Some (awaited_as next texts)
  pub noted : noted_of c' ≡ noted_of c

-- ---- the outcome of a deferred response, or of a request that waits

-- Holds if no request came or left, no response is deferred, and no request waits differently. All
-- output may be sent.
pub record KeepsRequests (c c' : Connection) : Type 0 where
  pub ready : ready_of c' ≡ output_of c'
  pub slot : slot_of c' ≡ slot_of c
  pub awaited : awaited_of c' ≡ awaited_of c
  pub held : buffered_of c' ≡ buffered_of c
  pub left : left_of c' ≡ left_of c
  pub ended : has_ended c' ≡ has_ended c

-- Holds if this text takes the place of a deferred response, or is the response to the request that
-- waits, with this outcome. All output may be sent.
pub record Resolves (text : List ℕ) (outcome : Outcome) (c c' : Connection) : Type 0 where
  pub output : output_of c' ≡ ready_of c ++ text
  pub ready : ready_of c' ≡ output_of c'
  pub slot : slot_of c' ≡ None
  pub awaited : awaited_of c' ≡ None
  pub held : buffered_of c' ≡ buffered_of c
  pub left : left_of c' ≡ left_of c
  pub ended : has_ended c' ≡ has_ended c
  pub noted : noted_of c' ≡ noted_with (slot_of c) (awaited_of c) outcome (noted_of c)
