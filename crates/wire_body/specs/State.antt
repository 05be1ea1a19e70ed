-- States of operational intents by name.
use Rattle.std.specs.Prelude.{ℕ, List, if◌then◌else◌, Option, Some, None}
use Rattle.std.specs.Str.{bytes_eq}
use Rattle.entity_core.specs.Entity.{state_name}
use Rattle.entity_core.specs.declared.nature.State.{State}
use Rattle.entity_core.specs.declared.nature.State.TheVariants.{Accepted, Activated, Nonconforming, Contingent}

-- The state with this name. Case matters.
unfoldable pub state_named : List ℕ → Option State
state_named text =
    if bytes_eq text (state_name Accepted) then Some Accepted
    else (if bytes_eq text (state_name Activated) then Some Activated
    else (if bytes_eq text (state_name Nonconforming) then Some Nonconforming
    else (if bytes_eq text (state_name Contingent) then Some Contingent else None)))
