-- The bodies of denials with an explanation, byte for byte.
use Rattle.std.specs.Prelude.{◌≡◌, ℕ, Bool, true, false, List, [], ◌∷◌, ◌++◌, if◌then◌else◌, Option, Some, None, drop, map, codes}
use Rattle.json.specs.Print.{quoted}
use Rattle.serde_json.specs.Data.{Data, Members, array, object, put, string}
use Rattle.serde_json.specs.Read.{read}
use Rattle.serde_json.specs.View.{items_of}
use Rattle.policy_core.specs.declared.reference.Missing.{Missing}
use Rattle.policy_core.specs.declared.rule.Rule.{Rule}
use Rattle.policy_core.specs.declared.rule.Rule.TheVariants.{Route, Method, Form, Area, Ended}
use Rattle.service_step.specs.declared.reply.Reply.{Reply}
use Rattle.service_step.specs.declared.reply.Reply.TheVariants.{Denied}
use Rattle.wire_reply.specs.Answer.{reply_text}
use Rattle.wire_reply.specs.Json.{array_text, member_text}

-- Returns true if the reason for a denial by this rule is in the request and its time only.
abbrev pub is_explained : Rule → Bool
is_explained Route = true
is_explained Method = true
is_explained Form = true
is_explained Area = true
is_explained Ended = true
is_explained p = false

-- The rule by which a reply is an explained denial, if it is one.
abbrev pub explained_rule : Reply → Option Rule
explained_rule (Denied p m) = if is_explained p then Some p else None
explained_rule reply = None

-- The texts that explain a reply: these if it is an explained denial, otherwise none.
abbrev pub notes_for : Reply → List (List ℕ) → List (List ℕ)
notes_for (Denied p m) notes = if is_explained p then notes else []
notes_for reply notes = []

-- The member that lists the texts of an explanation.
abbrev pub explanation_text : List (List ℕ) → List ℕ
explanation_text notes = member_text (codes "explanation", array_text (map quoted notes))

-- The body with that member as its first one. Without texts, it is the body itself.
abbrev pub body_with : List (List ℕ) → List ℕ → List ℕ
body_with [] text = text
body_with (note ∷ notes) text =
    codes "{" ++ (explanation_text (note ∷ notes) ++ (codes "," ++ drop 1 text))

-- The body of the response to a call, with these texts if it is an explained denial. Without texts,
-- it is the body itself.
abbrev pub explained_text : List (List ℕ) → Reply → List ℕ
explained_text [] reply = reply_text reply
explained_text (note ∷ notes) reply =
    body_with (notes_for reply (note ∷ notes)) (reply_text reply)

-- ---- laws

-- The texts as a JSON value.
abbrev pub notes_data : List (List ℕ) → Data
notes_data notes = array (items_of (map string notes))

-- Holds if both bodies are read as objects, and the second has one more member, with these texts.
pub record HasOneMore (notes : List (List ℕ)) (text explained : List ℕ) : Type 0 where
  pub members : Members
  pub policy : read text ≡ Some (object members)
  pub more : read explained ≡ Some (object (put (codes "explanation") (notes_data notes) members))

-- States that an explained denial has one more member than that of the policy.
abbrev pub AddsOneMember : Type 0
AddsOneMember = (rule : Rule) (missing : Missing) (note : List ℕ) (notes : List (List ℕ))
    → is_explained rule ≡ true
    → HasOneMore (note ∷ notes) (reply_text (Denied rule missing))
    (explained_text (note ∷ notes) (Denied rule missing))
