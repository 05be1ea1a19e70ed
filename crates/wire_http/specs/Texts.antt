-- The texts of a response that are made before its reply is known.
use Rattle.std.specs.Prelude.{ℕ, List, [], map, string_bytes}
use Rattle.service_step.specs.declared.reply.Reply.{Reply}
use Rattle.service_step.specs.declared.reply.Reply.TheVariants.{Denied, Done, Fault, Stopped}
use Rattle.wire_http.specs.declared.explaining.Explaining.{Explaining}
use Rattle.wire_http.specs.declared.texts.Texts.{Texts}
use Rattle.wire_http.specs.Notes.{MayBeNotes}

-- The texts of the response to that reply. Those of a denial are in the response only if the rule is
-- explained.
abbrev pub texts_for : Texts → Reply → List (List ℕ)
texts_for texts (Done answer) = map string_bytes texts.if_done.items
texts_for texts (Denied broken_rule missing) = map string_bytes texts.if_denied.items
texts_for texts Fault = []
texts_for texts Stopped = []

-- Holds if a request may have these texts. Without the option there are none. With it nothing is
-- claimed of them.
abbrev pub MayBeTexts : Explaining → Texts → Type 0
MayBeTexts explaining texts = MayBeNotes explaining (map string_bytes texts.if_denied.items)
    × MayBeNotes explaining (map string_bytes texts.if_done.items)
