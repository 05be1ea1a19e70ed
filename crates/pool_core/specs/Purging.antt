-- A whole purge by a service.
use Rattle.std.specs.Prelude.{◌≡◌, ℕ, false}
use Rattle.entity_core.specs.Airspace.{Airspace}
use Rattle.entity_purge.specs.Purge.{purged}
use Rattle.space_core.specs.Space.{IsContent}
use Rattle.space_core.specs.declared.space.Space.{Ghosts}
use Rattle.service_calls.specs.Held.{is_shut, salt_of, space_of}
use Rattle.service_calls.specs.declared.service.Service.{Service}

-- Holds of a service after acts, also if they failed. If the space is sound, it was sound before; if
-- it was whole before, it is whole.
pub record Keeps {S : Type 0} (g : Ghosts S) (old new : Service S) : Type 0 where
  pub salt : salt_of new ≡ salt_of old
  pub sound : g.is_sound (space_of new) → g.is_sound (space_of old)
  pub whole : g.is_sound (space_of new) → g.is_whole (space_of old) → g.is_whole (space_of new)

-- Holds if the service purged all that had ended by a time, and can go on.
pub record PurgesAll {S : Type 0} (g : Ghosts S) (until : ℕ) (old new : Service S) : Type 0 where
  pub goes : is_shut new ≡ false
  pub content : g.is_sound (space_of new) → (a : Airspace) → IsContent g.holds (space_of old) a
      → IsContent g.holds (space_of new) (purged until a)
