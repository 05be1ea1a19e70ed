-- The JSON values from which responses are built, for private clauses. Their texts are those of
-- `Answer` and `Reference`.
use Rattle.std.specs.Prelude.{ℕ, List, false, Option, Some, None, map, codes}
use Rattle.serde_json.specs.Data.{Data, Members, boolean, string, number, unsigned, array, object, member, no_members, put}
use Rattle.serde_json.specs.View.{items_of}
use Rattle.entity_core.specs.EntityId.{printed}
use Rattle.entity_core.specs.Entity.{kind_of, state_name}
use Rattle.entity_core.specs.declared.availability.Availability.{Availability}
use Rattle.entity_core.specs.Subscription.{wants}
use Rattle.entity_core.specs.declared.nature.Kind.{Kind}
use Rattle.entity_core.specs.declared.nature.Kind.TheVariants as kinds
use Rattle.entity_core.specs.declared.nature.Nature.{Nature}
use Rattle.entity_core.specs.declared.nature.Nature.TheVariants.{Intent, Constraint}
use Rattle.policy_core.specs.declared.reference.Missing.{Missing}
use Rattle.policy_core.specs.declared.reference.Reference.{Reference}
use Rattle.policy_core.specs.declared.rule.Rule.{Rule}
use Rattle.policy_core.specs.declared.rule.Rule.TheVariants.{Key}
use Rattle.policy_core.specs.declared.sub_view.SubView.{SubView}
use Rattle.service_notify.specs.declared.notice.Notify.{Notify}
use Rattle.service_step.specs.declared.reply.Answer.{Answer}
use Rattle.service_step.specs.declared.reply.Answer.TheVariants.{Created, Changed, Found, Listed, Avail, SubStored, SubFound, SubListed}
use Rattle.service_step.specs.declared.reply.Reply.{Reply}
use Rattle.service_step.specs.declared.reply.Reply.TheVariants.{Done, Denied, Fault, Stopped}
use Rattle.wire_reply.specs.Answer.{rule_text}
use Rattle.wire_reply.specs.Explained.{notes_data}
use Rattle.wire_body.specs.Availability as availabilities
use Rattle.wire_body.specs.Naming.{naming_text}
use Rattle.wire_reply.specs.Reference.{reference_name, references_name}

-- The members, with the OVN if the caller may see it.
abbrev pub with_ovn : Option (List ℕ) → Members → Members
with_ovn None ms = ms
with_ovn (Some ovn) ms = put (codes "ovn") (string ovn) ms

-- The members, with those that only references of one kind have.
abbrev pub with_nature : Nature → Members → Members
with_nature (Intent state named) ms = put (codes "subscription_id") (string (naming_text named)) (put (codes "state") (string (state_name state)) ms)
with_nature Constraint ms = ms

abbrev pub reference_data : Reference → Data
reference_data r =
    let who = put (codes "manager") (string r.manager) (put (codes "id") (string (printed r.id)) no_members) in
    let what = with_nature r.nature (with_ovn r.ovn who) in
    let times = put (codes "time_start") (number (unsigned r.time_start)) (put (codes "time_end") (number (unsigned r.time_end)) what) in
    let uss = put (codes "uss_base_url") (string r.url) (put (codes "uss_availability") (string (availabilities.name_of r.availability)) times) in
    object (put (codes "version") (number (unsigned r.version)) uss)

abbrev pub references_data : List Reference → Data
references_data rs = array (items_of (map reference_data rs))

abbrev pub availability_data : List ℕ → Availability → List ℕ → Data
availability_data uss a version =
    object (member (codes "status") (object (member (codes "availability") (string (availabilities.name_of a)) (member (codes "uss") (string uss) no_members)))
    (member (codes "version") (string version) no_members))

abbrev pub found_data : Reference → Data
found_data r = object (member (reference_name (kind_of r.nature)) (reference_data r) no_members)

-- A notified subscription and its index.
abbrev pub state_data : ℕ × ℕ → Data
state_data s = object (member (codes "notification_index") (number (unsigned s.1)) (member (codes "subscription_id") (string (printed s.0)) no_members))

abbrev pub states_data : List (ℕ × ℕ) → Data
states_data ss = array (items_of (map state_data ss))

abbrev pub notify_data : Notify → Data
notify_data n = object (member (codes "subscriptions") (states_data n.states) (member (codes "uss_base_url") (string n.url) no_members))

abbrev pub subscribers_data : List Notify → Data
subscribers_data ns = array (items_of (map notify_data ns))

abbrev pub changed_data : Reference → List Notify → Data
changed_data r ns = object (put (codes "subscribers") (subscribers_data ns) (member (reference_name (kind_of r.nature)) (reference_data r) no_members))

abbrev pub listed_data : Kind → List Reference → Data
listed_data kind rs = object (member (references_name kind) (references_data rs) no_members)

-- The id of an entity.
abbrev pub id_data : ℕ → Data
id_data id = string (printed id)

abbrev pub ids_data : List ℕ → Data
ids_data ids = array (items_of (map id_data ids))

abbrev pub sub_data : SubView → Data
sub_data s =
    let names = put (codes "id") (id_data s.id) (put (codes "dependent_operational_intents") (ids_data s.dependents) no_members) in
    let index = put (codes "notification_index") (number (unsigned s.index)) (put (codes "implicit_subscription") (boolean false) names) in
    let constraints = put (codes "notify_for_constraints") (boolean (wants s.interest kinds.Constraint)) index in
    let intents = put (codes "notify_for_operational_intents") (boolean (wants s.interest kinds.Intent)) constraints in
    let times = put (codes "time_start") (number (unsigned s.time_start)) (put (codes "time_end") (number (unsigned s.time_end)) intents) in
    object (put (codes "version") (string s.version) (put (codes "uss_base_url") (string s.url) times))

abbrev pub subs_data : List SubView → Data
subs_data ss = array (items_of (map sub_data ss))

abbrev pub sub_stored_data : SubView → List Reference → List Reference → Data
sub_stored_data s intents constraints =
    object (member (references_name kinds.Constraint) (references_data constraints)
    (member (references_name kinds.Intent) (references_data intents) (member (codes "subscription") (sub_data s) no_members)))

abbrev pub sub_found_data : SubView → Data
sub_found_data s = object (member (codes "subscription") (sub_data s) no_members)

abbrev pub sub_listed_data : List SubView → Data
sub_listed_data ss = object (member (codes "subscriptions") (subs_data ss) no_members)

abbrev pub answer_data : Answer → Data
answer_data (Created r ns) = changed_data r ns
answer_data (Changed r ns) = changed_data r ns
answer_data (Found r) = found_data r
answer_data (Listed kind rs) = listed_data kind rs
answer_data (Avail uss a version) = availability_data uss a version
answer_data (SubStored s intents constraints) = sub_stored_data s intents constraints
answer_data (SubFound s) = sub_found_data s
answer_data (SubListed ss) = sub_listed_data ss

abbrev pub message_data : List ℕ → Data
message_data words = object (member (codes "message") (string words) no_members)

abbrev pub missing_data : List ℕ → Missing → Data
missing_data words m =
    object (member (codes "message") (string words)
    (member (codes "missing_constraints") (references_data m.constraints)
    (member (codes "missing_operational_intents") (references_data m.intents) no_members)))

abbrev pub denied_data : Rule → Missing → Data
denied_data Key m = missing_data (rule_text Key) m
denied_data p m = message_data (rule_text p)

abbrev pub reply_data : Reply → Data
reply_data (Done answer) = answer_data answer
reply_data (Denied p m) = denied_data p m
reply_data Fault = message_data (codes "fault")
reply_data Stopped = message_data (codes "stopped")

-- A message with an explanation.
abbrev pub explained_data : List (List ℕ) → List ℕ → Data
explained_data notes words =
    object (member (codes "explanation") (notes_data notes) (member (codes "message") (string words) no_members))
