-- Entities as they are stored.
use Rattle.std.specs.Prelude.{ℕ, List, Option, Some, None, codes}
use Rattle.entity_core.specs.declared.nature.Kind.{Kind}
use Rattle.entity_core.specs.declared.nature.Kind.TheVariants as kind
use Rattle.entity_core.specs.declared.nature.State.{State}
use Rattle.entity_core.specs.declared.nature.State.TheVariants.{Accepted, Activated, Nonconforming, Contingent}
use Rattle.entity_core.specs.declared.nature.Nature.{Nature}
use Rattle.entity_core.specs.declared.nature.Nature.TheVariants as nature

abbrev pub max_version : ℕ
max_version = 2147483647

-- The index of a kind in the order of kinds.
abbrev pub kind_index : Kind → ℕ
kind_index kind.Intent = 0
kind_index kind.Constraint = 1

abbrev pub kind_of : Nature → Kind
kind_of (nature.Intent state named) = kind.Intent
kind_of nature.Constraint = kind.Constraint

abbrev pub state_of : Nature → Option State
state_of (nature.Intent state named) = Some state
state_of nature.Constraint = None

-- The id of the subscription that an intent references, if any.
abbrev pub subscription_of : Nature → Option ℕ
subscription_of (nature.Intent state named) = named
subscription_of nature.Constraint = None

-- The name of a state.
abbrev pub state_name : State → List ℕ
state_name Accepted = codes "Accepted"
state_name Activated = codes "Activated"
state_name Nonconforming = codes "Nonconforming"
state_name Contingent = codes "Contingent"
