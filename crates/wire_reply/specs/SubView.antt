-- Subscriptions as their managers see them, as JSON.
use Rattle.std.specs.Prelude.{ℕ, List, [], ◌∷◌, Bool, true, false, map, codes}
use Rattle.std.specs.Fmt.{decimal}
use Rattle.json.specs.Print.{quoted}
use Rattle.entity_core.specs.EntityId.{printed}
use Rattle.entity_core.specs.Subscription.{wants}
use Rattle.entity_core.specs.declared.nature.Kind.TheVariants.{Intent, Constraint}
use Rattle.policy_core.specs.declared.sub_view.SubView.{SubView}
use Rattle.wire_reply.specs.Json.{object_text, array_text}

abbrev pub flag_text : Bool → List ℕ
flag_text true = codes "true"
flag_text false = codes "false"

abbrev pub id_text : ℕ → List ℕ
id_text id = quoted (printed id)

-- The members of a subscription, in byte order of their names. A subscription is never implicit.
abbrev pub sub_members : SubView → List (List ℕ × List ℕ)
sub_members s =
    (codes "dependent_operational_intents", array_text (map id_text s.dependents))
    ∷ (codes "id", id_text s.id)
    ∷ (codes "implicit_subscription", codes "false")
    ∷ (codes "notification_index", decimal s.index)
    ∷ (codes "notify_for_constraints", flag_text (wants s.interest Constraint))
    ∷ (codes "notify_for_operational_intents", flag_text (wants s.interest Intent))
    ∷ (codes "time_end", decimal s.time_end)
    ∷ (codes "time_start", decimal s.time_start)
    ∷ (codes "uss_base_url", quoted s.url)
    ∷ (codes "version", quoted s.version)
    ∷ []

abbrev pub sub_text : SubView → List ℕ
sub_text s = object_text (sub_members s)

abbrev pub subs_text : List SubView → List ℕ
subs_text ss = array_text (map sub_text ss)
