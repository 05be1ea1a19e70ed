-- The texts that explain a response, and the text of each outcome.
use Rattle.std.specs.Prelude.{ℕ, Bool, List, [], Option, Some, None, map, string_bytes}
use Rattle.service_step.specs.declared.reply.Reply.{Reply}
use Rattle.service_step.specs.declared.reply.Reply.TheVariants as replies
use Rattle.wire_route.specs.declared.endpoint.Endpoint.{Endpoint}
use Rattle.wire_http.specs.Notes.{MayBeNotes}
use Rattle.wire_http.specs.Text.{noted_text, unavailable_text}
use Rattle.wire_http.specs.declared.explaining.Explaining.{Explaining}
use Rattle.wire_http.specs.declared.texts.Texts.{Texts}
use Rattle.wire_http.specs.declared.unavailable.Unavailable.TheVariants as unavailable
use Rattle.server_backend.specs.declared.outcome.Outcome.{Outcome}
use Rattle.server_backend.specs.declared.outcome.Outcome.TheVariants as outcomes

-- The texts of a request: those of a denial, which explain it, and those of a success.
pub record RequestTexts : Type 0 where
  pub if_denied : List (List ℕ)
  pub if_done : List (List ℕ)

abbrev pub no_texts : RequestTexts
no_texts = record { if_denied = []; if_done = [] }

-- The texts that a connection has of a request.
abbrev pub texts_in : Texts → RequestTexts
texts_in texts = record {
  if_denied = map string_bytes texts.if_denied.items;
  if_done = map string_bytes texts.if_done.items;
}

-- Holds if a request may have these texts. Without the option there are none. With it nothing is
-- claimed of them.
abbrev pub MayHaveTexts : Explaining → RequestTexts → Type 0
MayHaveTexts explaining t = MayBeNotes explaining t.if_denied × MayBeNotes explaining t.if_done

-- The texts of the response to a reply.
abbrev pub texts_for : RequestTexts → Reply → List (List ℕ)
texts_for t (replies.Done answer) = t.if_done
texts_for t (replies.Denied _ _) = t.if_denied
texts_for t replies.Fault = []
texts_for t replies.Stopped = []

-- The request that a response answers: its endpoint, whether the connection closes after it, and
-- its texts.
pub record Slot : Type 0 where
  pub endpoint : Option Endpoint
  pub closing : Bool
  pub texts : RequestTexts

abbrev pub without_texts : Slot → Slot
without_texts slot = record slot { texts = no_texts }

-- The text of the response to a reply in a slot.
abbrev pub reply_in : Slot → Reply → List ℕ
reply_in slot reply = noted_text (texts_for slot.texts reply) slot.endpoint slot.closing reply

-- The text of the response with an outcome. A draft may be there. The outcome `Stands` without a
-- draft, which no backend gives, has the text of status 503.
abbrev pub outcome_text : Slot → (draft : Option (List ℕ)) → Outcome → List ℕ
outcome_text slot (Some text) outcomes.Stands = text
outcome_text slot None outcomes.Stands = unavailable_text slot.closing unavailable.Unknown
outcome_text slot draft (outcomes.Replied reply) = reply_in slot reply
outcome_text slot draft (outcomes.Unavailable reason) = unavailable_text slot.closing reason
