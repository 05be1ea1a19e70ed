-- The bodies of responses, byte for byte, and their statuses.
use Rattle.std.specs.Prelude.{ℕ, List, [], ◌∷◌, ◌++◌, codes}
use Rattle.std.specs.Fmt.{decimal}
use Rattle.json.specs.Print.{quoted}
use Rattle.entity_core.specs.Entity.{kind_of}
use Rattle.entity_core.specs.declared.nature.Kind.{Kind}
use Rattle.entity_core.specs.declared.nature.Kind.TheVariants.{Intent, Constraint}
use Rattle.entity_core.specs.declared.availability.Availability.{Availability}
use Rattle.policy_core.specs.declared.reference.Missing.{Missing}
use Rattle.policy_core.specs.declared.reference.Reference.{Reference}
use Rattle.policy_core.specs.declared.rule.Rule.{Rule}
use Rattle.policy_core.specs.declared.rule.Rule.TheVariants.{Key}
use Rattle.policy_core.specs.declared.sub_view.SubView.{SubView}
use Rattle.policy_core.specs.Rule as rules
use Rattle.service_notify.specs.declared.notice.Notify.{Notify}
use Rattle.service_step.specs.declared.reply.Answer.{Answer}
use Rattle.service_step.specs.declared.reply.Answer.TheVariants.{Created, Changed, Found, Listed, Avail, SubStored, SubFound, SubListed}
use Rattle.service_step.specs.declared.reply.Reply.{Reply}
use Rattle.service_step.specs.declared.reply.Reply.TheVariants.{Done, Denied, Fault, Stopped}
use Rattle.wire_body.specs.Availability.{name_of}
use Rattle.wire_reply.specs.Json.{object_text}
use Rattle.wire_reply.specs.Reference.{reference_name, references_name, reference_text, references_text}
use Rattle.wire_reply.specs.Subscribers.{subscribers_text}
use Rattle.wire_reply.specs.SubView.{sub_text, subs_text}

-- An availability and its version.
abbrev pub availability_text : List ℕ → Availability → List ℕ → List ℕ
availability_text uss a version =
    object_text
    ((
      codes "status",
      object_text ((codes "availability", quoted (name_of a))
          ∷ (codes "uss", quoted uss) ∷ []),
    )
    ∷ (codes "version", quoted version)
    ∷ [])

-- The reference of an entity.
abbrev pub found_text : Reference → List ℕ
found_text r = object_text ((reference_name (kind_of r.nature), reference_text r) ∷ [])

-- The reference of an entity that was put or deleted, and the notices.
abbrev pub changed_text : Reference → List Notify → List ℕ
changed_text r ns = object_text ((reference_name (kind_of r.nature), reference_text r)
    ∷ (codes "subscribers", subscribers_text ns) ∷ [])

-- The references that a query for entities of a kind finds.
abbrev pub listed_text : Kind → List Reference → List ℕ
listed_text kind rs = object_text ((references_name kind, references_text rs) ∷ [])

-- A subscription that was put, with the references of what it is for and meets.
abbrev pub sub_stored_text : SubView → List Reference → List Reference → List ℕ
sub_stored_text s intents constraints =
    object_text
    ((references_name Constraint, references_text constraints)
    ∷ (references_name Intent, references_text intents)
    ∷ (codes "subscription", sub_text s)
    ∷ [])

abbrev pub sub_found_text : SubView → List ℕ
sub_found_text s = object_text ((codes "subscription", sub_text s) ∷ [])

abbrev pub sub_listed_text : List SubView → List ℕ
sub_listed_text ss = object_text ((codes "subscriptions", subs_text ss) ∷ [])

-- The body of the response to a call that broke no rule.
abbrev pub answer_text : Answer → List ℕ
answer_text (Created r ns) = changed_text r ns
answer_text (Changed r ns) = changed_text r ns
answer_text (Found r) = found_text r
answer_text (Listed kind rs) = listed_text kind rs
answer_text (Avail uss a version) = availability_text uss a version
answer_text (SubStored s intents constraints) = sub_stored_text s intents constraints
answer_text (SubFound s) = sub_found_text s
answer_text (SubListed ss) = sub_listed_text ss

-- A message.
abbrev pub message_text : List ℕ → List ℕ
message_text words = object_text ((codes "message", quoted words) ∷ [])

-- The message of a denial: the number and the name of the rule.
abbrev pub rule_text : Rule → List ℕ
rule_text p = codes "P" ++ (decimal (rules.number_of p) ++ (codes " " ++ rules.name_of p))

-- A message, and the references that a key lacks.
abbrev pub missing_text : List ℕ → Missing → List ℕ
missing_text words m =
    object_text
    ((codes "message", quoted words)
    ∷ (codes "missing_constraints", references_text m.constraints)
    ∷ (codes "missing_operational_intents", references_text m.intents)
    ∷ [])

-- The body of a denial. Only P14 lists missing references.
abbrev pub denied_text : Rule → Missing → List ℕ
denied_text Key m = missing_text (rule_text Key) m
denied_text p m = message_text (rule_text p)

-- The body of the response to a call.
abbrev pub reply_text : Reply → List ℕ
reply_text (Done answer) = answer_text answer
reply_text (Denied p m) = denied_text p m
reply_text Fault = message_text (codes "fault")
reply_text Stopped = message_text (codes "stopped")

-- The status of the response to a call that broke no rule.
abbrev pub answer_status : Answer → ℕ
answer_status (Created r ns) = 201
answer_status (Changed r ns) = 200
answer_status (Found r) = 200
answer_status (Listed kind rs) = 200
answer_status (Avail uss a version) = 200
answer_status (SubStored s intents constraints) = 200
answer_status (SubFound s) = 200
answer_status (SubListed ss) = 200

-- The status of the response to a call.
abbrev pub status_of : Reply → ℕ
status_of (Done answer) = answer_status answer
status_of (Denied p m) = rules.status_of p
status_of Fault = 500
status_of Stopped = 503
