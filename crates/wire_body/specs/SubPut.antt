-- The put of a subscription, as JSON.
use Rattle.std.specs.Prelude.{ℕ, List, Bool, true, false, codes, Option, Some, None, option_map, unwrap_or}
use Rattle.serde_json.specs.Data.{Data}
use Rattle.serde_json.specs.Find.{as_bool}
use Rattle.grid_core.specs.Extent.{Extent}
use Rattle.entity_core.specs.declared.interest.Interest.{Interest}
use Rattle.entity_core.specs.declared.interest.Interest.TheVariants.{Intents, Constraints, Both}
use Rattle.policy_core.specs.declared.call.SubPut.{SubPut}
use Rattle.wire_body.specs.Member.{◌>>=◌, required, optional}
use Rattle.wire_body.specs.Put.{url_of}
use Rattle.wire_body.specs.Volume.{volume_in}

-- A boolean. An absent one is false.
unfoldable pub flag_of : List ℕ → Data → Option Bool
flag_of name d = option_map (λ flag. unwrap_or flag false) (optional as_bool name d)

-- What a subscription is for: intents, constraints, or both.
abbrev pub interest_by : Bool → Bool → Option Interest
interest_by true true = Some Both
interest_by true false = Some Intents
interest_by false true = Some Constraints
interest_by false false = None

unfoldable pub interest_of : Data → Option Interest
interest_of d = do
  intents ← flag_of (codes "notify_for_operational_intents") d
  constraints ← flag_of (codes "notify_for_constraints") d
  interest_by intents constraints

-- The only volume.
unfoldable pub volume_of : Data → Option Extent
volume_of d = required volume_in (codes "extents") d

unfoldable pub sub_put_of : Data → Option SubPut
sub_put_of d = do
  interest ← interest_of d
  volume ← volume_of d
  url ← url_of d
  Some (record { volume = volume; url = url; interest = interest })
