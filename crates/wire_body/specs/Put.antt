-- The put of an entity, as JSON.
use Rattle.std.specs.Prelude.{ℕ, List, [], length, codes, ◌&&◌, nat_le, Bool, sum_by, if◌then◌else◌, Option, Some, None, option_map, option_and_then, unwrap_or}
use Rattle.serde_json.specs.Data.{Data}
use Rattle.serde_json.specs.Find.{as_str}
use Rattle.grid_core.specs.Extent.{Extent}
use Rattle.entity_core.specs.IdTexts.{ovn_fault, url_fault}
use Rattle.entity_core.specs.declared.id_fault.IdFault.{IdFault}
use Rattle.entity_core.specs.declared.nature.Kind.{Kind}
use Rattle.entity_core.specs.declared.nature.Kind.TheVariants as kinds
use Rattle.entity_core.specs.declared.nature.State.{State}
use Rattle.entity_core.specs.declared.nature.Nature.{Nature}
use Rattle.entity_core.specs.declared.nature.Nature.TheVariants as natures
use Rattle.policy_core.specs.declared.call.Put.{Put}
use Rattle.wire_body.specs.Member.{◌>>=◌, without_fault, required, optional, list_of}
use Rattle.wire_body.specs.Naming.{naming_of}
use Rattle.wire_body.specs.State.{state_named}
use Rattle.wire_body.specs.Volume.{volume_in}

-- A text without a fault.
abbrev pub text_in : (List ℕ → Option IdFault) → Data → Option (List ℕ)
text_in fault d = option_and_then (λ s. without_fault (fault s) s) (as_str d)

-- ---- volumes

-- Returns true if the volumes have at most 2,048 cells in total.
abbrev pub are_few_cells : List Extent → Bool
are_few_cells es = nat_le (sum_by (λ e. length e.cells) es) 2048

abbrev pub few_volumes : List Extent → Option (List Extent)
few_volumes es =
    if (nat_le 1 (length es) && nat_le (length es) 32) && are_few_cells es then Some es else None

unfoldable pub volumes_in : Data → Option (List Extent)
volumes_in d = list_of volume_in d >>= few_volumes

-- ---- keys

-- The OVNs if they are at most 4,096.
abbrev pub few_ovns : List (List ℕ) → Option (List (List ℕ))
few_ovns ovns = if nat_le (length ovns) 4096 then Some ovns else None

unfoldable pub key_in : Data → Option (List (List ℕ))
key_in d = list_of (text_in ovn_fault) d >>= few_ovns

-- The key in the put of an intent. An absent one is empty. A constraint has none.
unfoldable pub key_of : Kind → Data → Option (List (List ℕ))
key_of kinds.Intent d = option_map (λ key. unwrap_or key []) (optional key_in (codes "key") d)
key_of kinds.Constraint d = Some []

-- ---- puts

-- The state with this name.
abbrev pub state_in : Data → Option State
state_in d = option_and_then state_named (as_str d)

-- The nature of an entity. An intent has a state and may reference a subscription. A constraint has
-- neither.
unfoldable pub nature_of : Kind → Data → Option Nature
nature_of kinds.Intent d = do
  state ← required state_in (codes "state") d
  named ← naming_of d
  Some (natures.Intent state named)
nature_of kinds.Constraint d = Some natures.Constraint

unfoldable pub volumes_of : Data → Option (List Extent)
volumes_of d = required volumes_in (codes "extents") d

unfoldable pub url_of : Data → Option (List ℕ)
url_of d = required (text_in url_fault) (codes "uss_base_url") d

-- The put of an entity of the kind.
unfoldable pub put_of : Kind → Data → Option Put
put_of kind d = do
  nature ← nature_of kind d
  volumes ← volumes_of d
  key ← key_of kind d
  url ← url_of d
  Some (record { nature = nature; volumes = volumes; key = key; url = url })
