-- Acts that a service does for a log.
use Rattle.std.specs.Prelude.{◌≡◌, false, List}
use Rattle.entity_core.specs.Airspace.{Airspace}
use Rattle.space_core.specs.Space.{IsContent}
use Rattle.space_core.specs.declared.space.Space.{Ghosts}
use Rattle.service_calls.specs.Held.{is_shut, salt_of, space_of}
use Rattle.service_calls.specs.declared.service.Service.{Service}
use Rattle.pool_core.specs.Acts.{Act, airspace_by}

-- Holds if the service did all of these acts, as the policy says, and can go on.
pub record DoesActs {S : Type 0} (g : Ghosts S) (acts : List Act) (old new : Service S)
    : Type 0 where
  pub goes : is_shut new ≡ false
  pub done : g.is_sound (space_of new) → (a : Airspace) → IsContent g.holds (space_of old) a
      → IsContent g.holds (space_of new) (airspace_by (salt_of old) a acts)
