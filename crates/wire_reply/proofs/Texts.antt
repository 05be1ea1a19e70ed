-- Lemmas: the texts of responses.
use Rattle.std.proofs.Common.{◌≡◌, ℕ, List, [], ◌∷◌, refl, ap, ap₂, ◌∙◌, map, codes, Bool, true, false, Option, Some, None}
use Rattle.std.specs.Fmt.{decimal}
use Rattle.json.specs.Print.{quoted}
use Rattle.serde_json.specs.Data.{Data, boolean, object, string, Members, member, no_members}
use Rattle.serde_json.specs.View.{items_of}
use Rattle.serde_json.specs.Written.{compact_text}
use Rattle.entity_core.specs.Entity.{kind_of}
use Rattle.entity_core.specs.Subscription.{wants}
use Rattle.entity_core.specs.declared.availability.Availability.{Availability}
use Rattle.entity_core.specs.declared.nature.Kind.{Kind}
use Rattle.entity_core.specs.declared.nature.Kind.TheVariants as kinds
use Rattle.entity_core.specs.declared.nature.Nature.{Nature}
use Rattle.entity_core.specs.declared.nature.Nature.TheVariants.{Intent, Constraint}
use Rattle.service_notify.specs.declared.notice.Notify.{Notify}
use Rattle.policy_core.specs.declared.reference.Missing.{Missing}
use Rattle.policy_core.specs.declared.reference.Reference.{Reference}
use Rattle.policy_core.specs.declared.rule.Rule.{Rule}
use Rattle.policy_core.specs.declared.sub_view.SubView.{SubView}
use Rattle.policy_core.specs.declared.rule.Rule.TheVariants.{Key}
use Rattle.service_step.specs.declared.reply.Answer.{Answer}
use Rattle.service_step.specs.declared.reply.Answer.TheVariants as answers
use Rattle.service_step.specs.declared.reply.Reply.{Reply}
use Rattle.service_step.specs.declared.reply.Reply.TheVariants.{Done, Denied, Fault, Stopped}
use Rattle.wire_reply.specs.Answer.{answer_text, availability_text, changed_text, denied_text, found_text, listed_text, message_text, missing_text, reply_text, rule_text, sub_stored_text, sub_found_text, sub_listed_text}
use Rattle.wire_body.specs.Availability.{name_of}
use Rattle.wire_reply.specs.Built.{answer_data, availability_data, changed_data, denied_data, found_data, listed_data, message_data, missing_data, reference_data, references_data, reply_data, id_data, ids_data, sub_data, subs_data, sub_stored_data, sub_found_data, sub_listed_data, state_data, states_data, notify_data, subscribers_data}
use Rattle.wire_reply.specs.Json.{array_text, object_text}
use Rattle.wire_reply.specs.Reference.{reference_name, references_name, reference_text, references_text}
use Rattle.wire_reply.specs.Subscribers.{state_text, notify_text, subscribers_text}
use Rattle.wire_reply.specs.SubView.{flag_text, id_text, sub_text, subs_text}
use Rattle.wire_reply.proofs.Compact.{compact_text-array, compact_text-object, item_texts}

-- ---- references

members_in : Data → Members
members_in (object ms) = ms
members_in d = no_members

compact_parts : (r : Reference) (ovn : Option (List ℕ)) (nature : Nature)
    → compact_text (reference_data (record r { ovn = ovn; nature = nature })) ≡ reference_text (record r { ovn = ovn; nature = nature })
unfolding members_in
compact_parts r None (Intent state named) = compact_text-object (members_in (reference_data (record r { ovn = None; nature = Intent state named })))
compact_parts r (Some ovn) (Intent state named) = compact_text-object (members_in (reference_data (record r { ovn = Some ovn; nature = Intent state named })))
compact_parts r None Constraint = compact_text-object (members_in (reference_data (record r { ovn = None; nature = Constraint })))
compact_parts r (Some ovn) Constraint = compact_text-object (members_in (reference_data (record r { ovn = Some ovn; nature = Constraint })))

pub compact_reference : (r : Reference) → compact_text (reference_data r) ≡ reference_text r
compact_reference r = compact_parts r r.ovn r.nature

item_texts-references : (rs : List Reference) → item_texts (items_of (map reference_data rs)) ≡ map reference_text rs
item_texts-references [] = refl
item_texts-references (r ∷ rs) = ap₂ (λ t ts. t ∷ ts) (compact_reference r) (item_texts-references rs)

compact_references : (rs : List Reference) → compact_text (references_data rs) ≡ references_text rs
compact_references rs = compact_text-array (items_of (map reference_data rs)) ∙ ap array_text (item_texts-references rs)

-- ---- responses

-- The compact text of an object with one member, from the text of its value.
one_member : (name text : List ℕ) (d : Data) → compact_text d ≡ text → compact_text (object (member name d no_members)) ≡ object_text ((name, text) ∷ [])
one_member name text d same = compact_text-object (member name d no_members) ∙ ap (λ t. object_text ((name, t) ∷ [])) same

compact_found : (r : Reference) → compact_text (found_data r) ≡ found_text r
compact_found r = one_member (reference_name (kind_of r.nature)) (reference_text r) (reference_data r) (compact_reference r)

-- The text of a notified subscription.
compact_state : (s : ℕ × ℕ) → compact_text (state_data s) ≡ state_text s
unfolding members_in
compact_state s = compact_text-object (members_in (state_data s))

item_texts-states : (ss : List (ℕ × ℕ)) → item_texts (items_of (map state_data ss)) ≡ map state_text ss
item_texts-states [] = refl
item_texts-states (s ∷ ss) = ap₂ (λ t ts. t ∷ ts) (compact_state s) (item_texts-states ss)

compact_states : (ss : List (ℕ × ℕ)) → compact_text (states_data ss) ≡ array_text (map state_text ss)
compact_states ss = compact_text-array (items_of (map state_data ss)) ∙ ap array_text (item_texts-states ss)

compact_notify : (n : Notify) → compact_text (notify_data n) ≡ notify_text n
unfolding members_in
compact_notify n =
    compact_text-object (members_in (notify_data n))
    ∙ ap (λ t. object_text ((codes "subscriptions", t) ∷ (codes "uss_base_url", quoted n.url) ∷ [])) (compact_states n.states)

item_texts-notices : (ns : List Notify) → item_texts (items_of (map notify_data ns)) ≡ map notify_text ns
item_texts-notices [] = refl
item_texts-notices (n ∷ ns) = ap₂ (λ t ts. t ∷ ts) (compact_notify n) (item_texts-notices ns)

compact_subscribers : (ns : List Notify) → compact_text (subscribers_data ns) ≡ subscribers_text ns
compact_subscribers ns = compact_text-array (items_of (map notify_data ns)) ∙ ap array_text (item_texts-notices ns)

compact_changed_parts : (r : Reference) (ns : List Notify) (nature : Nature)
    → compact_text (changed_data (record r { nature = nature }) ns) ≡ changed_text (record r { nature = nature }) ns
unfolding members_in
compact_changed_parts r ns (Intent state named) =
    let changed : Reference = record r { nature = Intent state named } in
    compact_text-object (members_in (changed_data changed ns))
    ∙ ap₂ (λ t u. object_text ((reference_name (kind_of changed.nature), t) ∷ (codes "subscribers", u) ∷ [])) (compact_reference changed) (compact_subscribers ns)
compact_changed_parts r ns Constraint =
    let changed : Reference = record r { nature = Constraint } in
    compact_text-object (members_in (changed_data changed ns))
    ∙ ap₂ (λ t u. object_text ((reference_name (kind_of changed.nature), t) ∷ (codes "subscribers", u) ∷ [])) (compact_reference changed) (compact_subscribers ns)

compact_changed : (r : Reference) (ns : List Notify) → compact_text (changed_data r ns) ≡ changed_text r ns
compact_changed r ns = compact_changed_parts r ns r.nature

compact_listed : (kind : Kind) (rs : List Reference) → compact_text (listed_data kind rs) ≡ listed_text kind rs
compact_listed kind rs = one_member (references_name kind) (references_text rs) (references_data rs) (compact_references rs)

compact_availability : (uss : List ℕ) (a : Availability) (version : List ℕ) → compact_text (availability_data uss a version) ≡ availability_text uss a version
compact_availability uss a version =
    let status = member (codes "availability") (string (name_of a)) (member (codes "uss") (string uss) no_members) in
    compact_text-object (member (codes "status") (object status) (member (codes "version") (string version) no_members))
    ∙ ap (λ t. object_text ((codes "status", t) ∷ (codes "version", quoted version) ∷ [])) (compact_text-object status)

-- ---- subscriptions

item_texts-ids : (ids : List ℕ) → item_texts (items_of (map id_data ids)) ≡ map id_text ids
item_texts-ids [] = refl
item_texts-ids (id ∷ ids) = ap (λ ts. id_text id ∷ ts) (item_texts-ids ids)

compact_ids : (ids : List ℕ) → compact_text (ids_data ids) ≡ array_text (map id_text ids)
compact_ids ids = compact_text-array (items_of (map id_data ids)) ∙ ap array_text (item_texts-ids ids)

compact_flag : (b : Bool) → compact_text (boolean b) ≡ flag_text b
compact_flag true = refl
compact_flag false = refl

-- The text of a subscription, from the texts of its dependents and of its two booleans.
abbrev sub_text_by : SubView → List ℕ → List ℕ → List ℕ → List ℕ
sub_text_by s dependents constraints intents =
    object_text
    ((codes "dependent_operational_intents", dependents)
    ∷ (codes "id", id_text s.id)
    ∷ (codes "implicit_subscription", codes "false")
    ∷ (codes "notification_index", decimal s.index)
    ∷ (codes "notify_for_constraints", constraints)
    ∷ (codes "notify_for_operational_intents", intents)
    ∷ (codes "time_end", decimal s.time_end)
    ∷ (codes "time_start", decimal s.time_start)
    ∷ (codes "uss_base_url", quoted s.url)
    ∷ (codes "version", quoted s.version)
    ∷ [])

compact_sub : (s : SubView) → compact_text (sub_data s) ≡ sub_text s
unfolding members_in
compact_sub s =
    let constraints : Bool = wants s.interest kinds.Constraint in
    let intents : Bool = wants s.interest kinds.Intent in
    compact_text-object (members_in (sub_data s))
    ∙ ap (λ t. sub_text_by s t (compact_text (boolean constraints)) (compact_text (boolean intents))) (compact_ids s.dependents)
    ∙ ap (λ t. sub_text_by s (array_text (map id_text s.dependents)) t (compact_text (boolean intents))) (compact_flag constraints)
    ∙ ap (λ t. sub_text_by s (array_text (map id_text s.dependents)) (flag_text constraints) t) (compact_flag intents)

item_texts-subs : (ss : List SubView) → item_texts (items_of (map sub_data ss)) ≡ map sub_text ss
item_texts-subs [] = refl
item_texts-subs (s ∷ ss) = ap₂ (λ t ts. t ∷ ts) (compact_sub s) (item_texts-subs ss)

compact_subs : (ss : List SubView) → compact_text (subs_data ss) ≡ subs_text ss
compact_subs ss = compact_text-array (items_of (map sub_data ss)) ∙ ap array_text (item_texts-subs ss)

compact_sub_stored : (s : SubView) (intents constraints : List Reference) → compact_text (sub_stored_data s intents constraints) ≡ sub_stored_text s intents constraints
compact_sub_stored s intents constraints =
    let members = member (references_name kinds.Constraint) (references_data constraints) (member (references_name kinds.Intent) (references_data intents) (member (codes "subscription") (sub_data s) no_members)) in
    compact_text-object members
    ∙ ap₂ (λ c i. object_text ((references_name kinds.Constraint, c) ∷ (references_name kinds.Intent, i) ∷ (codes "subscription", compact_text (sub_data s)) ∷ [])) (compact_references constraints) (compact_references intents)
    ∙ ap (λ t. object_text ((references_name kinds.Constraint, references_text constraints) ∷ (references_name kinds.Intent, references_text intents) ∷ (codes "subscription", t) ∷ [])) (compact_sub s)

compact_sub_found : (s : SubView) → compact_text (sub_found_data s) ≡ sub_found_text s
compact_sub_found s = one_member (codes "subscription") (sub_text s) (sub_data s) (compact_sub s)

compact_sub_listed : (ss : List SubView) → compact_text (sub_listed_data ss) ≡ sub_listed_text ss
compact_sub_listed ss = one_member (codes "subscriptions") (subs_text ss) (subs_data ss) (compact_subs ss)

compact_answer : (a : Answer) → compact_text (answer_data a) ≡ answer_text a
compact_answer (answers.Created r ns) = compact_changed r ns
compact_answer (answers.Changed r ns) = compact_changed r ns
compact_answer (answers.Found r) = compact_found r
compact_answer (answers.Listed kind rs) = compact_listed kind rs
compact_answer (answers.Avail uss a version) = compact_availability uss a version
compact_answer (answers.SubStored s intents constraints) = compact_sub_stored s intents constraints
compact_answer (answers.SubFound s) = compact_sub_found s
compact_answer (answers.SubListed ss) = compact_sub_listed ss

-- ---- replies

pub compact_message : (words : List ℕ) → compact_text (message_data words) ≡ message_text words
compact_message words = one_member (codes "message") (quoted words) (string words) refl

compact_missing : (words : List ℕ) (m : Missing) → compact_text (missing_data words m) ≡ missing_text words m
compact_missing words m =
    let members = member (codes "message") (string words) (member (codes "missing_constraints") (references_data m.constraints) (member (codes "missing_operational_intents") (references_data m.intents) no_members)) in
    compact_text-object members
    ∙ ap₂ (λ c i. object_text ((codes "message", quoted words) ∷ (codes "missing_constraints", c) ∷ (codes "missing_operational_intents", i) ∷ [])) (compact_references m.constraints) (compact_references m.intents)

compact_denied : (p : Rule) (m : Missing) → compact_text (denied_data p m) ≡ denied_text p m
compact_denied Key m = compact_missing (rule_text Key) m
compact_denied p m = compact_message (rule_text p)

pub compact_reply : (r : Reply) → compact_text (reply_data r) ≡ reply_text r
compact_reply (Done a) = compact_answer a
compact_reply (Denied p m) = compact_denied p m
compact_reply Fault = compact_message (codes "fault")
compact_reply Stopped = compact_message (codes "stopped")
