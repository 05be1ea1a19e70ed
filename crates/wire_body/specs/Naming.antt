-- The subscription that an intent references.
use Rattle.std.specs.Prelude.{ℕ, ◌+◌, ◌^◌, nat_eq, List, codes, if◌then◌else◌, Option, Some, None, option_map, option_and_then}
use Rattle.serde_json.specs.Data.{Data}
use Rattle.serde_json.specs.Find.{as_str}
use Rattle.entity_core.specs.EntityId.{printed, spelled}
use Rattle.wire_body.specs.Member.{optional}

-- The id that represents no subscription. No subscription has it.
abbrev pub no_subscription : List ℕ
no_subscription = codes "00000000-0000-4000-8000-000000000000"

-- The number of that id.
abbrev pub zero_id : ℕ
zero_id = 2 ^ 78 + 2 ^ 63

abbrev pub unless_zero : ℕ → Option ℕ
unless_zero id = if nat_eq id zero_id then None else Some id

abbrev pub id_in : Data → Option ℕ
id_in d = option_and_then spelled (as_str d)

-- The reference in the put of an intent. An absent member and the zero id reference no
-- subscription.
unfoldable pub naming_of : Data → Option (Option ℕ)
naming_of d =
    option_map (λ id. option_and_then unless_zero id)
    (optional id_in (codes "subscription_id") d)

-- The text of the reference.
abbrev pub naming_text : Option ℕ → List ℕ
naming_text None = no_subscription
naming_text (Some id) = printed id
