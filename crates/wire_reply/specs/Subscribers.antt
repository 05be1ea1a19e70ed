-- The subscribers to notify of a change, as JSON.
use Rattle.std.specs.Prelude.{ℕ, List, [], ◌∷◌, map, codes}
use Rattle.std.specs.Fmt.{decimal}
use Rattle.json.specs.Print.{quoted}
use Rattle.service_notify.specs.declared.notice.Notify.{Notify}
use Rattle.wire_reply.specs.Json.{object_text, array_text}
use Rattle.wire_reply.specs.SubView.{id_text}

-- The id of a subscription, and its index.
abbrev pub state_text : ℕ × ℕ → List ℕ
state_text s = object_text ((codes "notification_index", decimal s.1)
    ∷ (codes "subscription_id", id_text s.0) ∷ [])

-- The subscriptions at one address.
abbrev pub notify_text : Notify → List ℕ
notify_text n = object_text ((codes "subscriptions", array_text (map state_text n.states))
    ∷ (codes "uss_base_url", quoted n.url) ∷ [])

abbrev pub subscribers_text : List Notify → List ℕ
subscribers_text ns = array_text (map notify_text ns)
