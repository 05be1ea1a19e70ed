-- The text of a response (RFC 9112, section 2.1; this project's profile).
use Rattle.std.specs.Prelude.{ℕ, Bool, true, List, [], ◌∷◌, ◌++◌, length, codes, ◌==◌, ◌||◌, if◌then◌else◌, Option, Some, None}
use Rattle.std.specs.Char.{is_ascii_graphic}
use Rattle.std.specs.List.{list_all}
use Rattle.std.specs.Fmt.{decimal}
use Rattle.policy_core.specs.declared.rule.Rule.{Rule}
use Rattle.policy_core.specs.declared.rule.Rule.TheVariants.{Method, Token}
use Rattle.service_step.specs.declared.reply.Reply.{Reply}
use Rattle.service_step.specs.declared.reply.Reply.TheVariants.{Done, Denied}
use Rattle.wire_reply.specs.Answer.{reply_text, status_of}
use Rattle.wire_reply.specs.Explained.{explained_text}
use Rattle.wire_route.specs.declared.endpoint.Endpoint.{Endpoint}
use Rattle.wire_route.specs.Endpoint.{allow_of}
use Rattle.wire_http.specs.declared.end.End.{End}
use Rattle.wire_http.specs.declared.end.End.TheVariants as ends
use Rattle.wire_head.specs.declared.rule.WireRule.{WireRule}
use Rattle.wire_http.specs.declared.unavailable.Unavailable.{Unavailable}
use Rattle.wire_http.specs.declared.unavailable.Unavailable.TheVariants.{Unreachable, Unknown, Unassigned}
use Rattle.wire_head.specs.Rule as rule
use Rattle.wire_head.specs.Lines.{length_line, line, status_line}

-- The methods that the endpoint allows.
abbrev pub methods_text : Option Endpoint → List ℕ
methods_text (Some endpoint) = allow_of endpoint
methods_text None = []

-- The field that a denial adds: the allowed methods for P2, the scheme for a missing token.
abbrev pub rule_field : Option Endpoint → Rule → List ℕ
rule_field endpoint Method = line (codes "Allow: " ++ methods_text endpoint)
rule_field endpoint Token = line (codes "WWW-Authenticate: Bearer")
rule_field endpoint _ = []

abbrev pub reply_field : Option Endpoint → Reply → List ℕ
reply_field endpoint (Denied rule missing) = rule_field endpoint rule
reply_field endpoint reply = []

-- The field of a response after which the connection closes.
unfoldable pub close_field : Bool → List ℕ
close_field closing = if closing then line (codes "Connection: close") else []

-- The status line, the fields and an empty line.
unfoldable pub front_of : ℕ → List ℕ → Bool → ℕ → List ℕ
front_of status field closing size =
    status_line status
    ++ line (codes "Content-Type: application/json")
    ++ length_line size
    ++ field
    ++ close_field closing
    ++ line []

-- The complete message, with the body.
abbrev pub message : ℕ → List ℕ → Bool → List ℕ → List ℕ
message status field closing body = front_of status field closing (length body) ++ body

-- The text of the response to a request at that endpoint.
abbrev pub response_text : Option Endpoint → Bool → Reply → List ℕ
response_text endpoint closing reply =
    message (status_of reply) (reply_field endpoint reply) closing (reply_text reply)

-- Returns true if a text can be the value of a field: visible ASCII and spaces.
abbrev pub is_field_value : List ℕ → Bool
is_field_value text = list_all (λ b. b == 32 || is_ascii_graphic b) text

-- The field that names the members that the service ignored in a successful request: the first
-- text, if it can be the value of a field.
abbrev pub ignored_field : List (List ℕ) → List ℕ
ignored_field [] = []
ignored_field (note ∷ notes) =
    if is_field_value note then line (codes "Warning-Ignored-Members: " ++ note) else []

-- The field of a response with these texts.
abbrev pub noted_field : List (List ℕ) → Option Endpoint → Reply → List ℕ
noted_field notes endpoint (Done answer) = ignored_field notes
noted_field notes endpoint reply = reply_field endpoint reply

-- The text of the response with these texts, which explain a denial or warn of ignored members.
-- Without texts it is the same text.
abbrev pub noted_text : List (List ℕ) → Option Endpoint → Bool → Reply → List ℕ
noted_text notes endpoint closing reply =
    message (status_of reply) (noted_field notes endpoint reply) closing (explained_text notes reply)

-- The body for a broken protocol rule: its number and its name.
unfoldable pub rule_body : WireRule → List ℕ
rule_body r = codes "{\"message\":\"H" ++ decimal (rule.number_of r) ++ codes " " ++ rule.name_of r ++ codes "\"}"

-- The text of the response if a protocol rule is broken.
abbrev pub rule_text : WireRule → List ℕ
rule_text r = message (rule.status_of r) [] true (rule_body r)

-- The texts after the responses: that of the protocol rule that ended the stream, if one did.
abbrev pub end_texts : End → List (List ℕ)
end_texts (ends.Wire r) = rule_text r ∷ []
end_texts ends.End = []
end_texts ends.Cut = []
end_texts ends.Close = []

-- The body of a response without a reply: why none is known.
abbrev pub unavailable_body : Unavailable → List ℕ
unavailable_body Unreachable = codes "{\"message\":\"unreachable\"}"
unavailable_body Unknown = codes "{\"message\":\"unknown\"}"
unavailable_body Unassigned = codes "{\"message\":\"unassigned\"}"

-- The text of the response to a request to which no reply is known.
abbrev pub unavailable_text : Bool → Unavailable → List ℕ
unavailable_text closing unavailable = message 503 [] closing (unavailable_body unavailable)
