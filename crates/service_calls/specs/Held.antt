-- The parts of a service.
use Rattle.std.specs.Prelude.{◌≡◌, ℕ, List, Bool, true}
use Rattle.space_core.specs.declared.space.Space.{Ghosts}
use Rattle.service_calls.specs.declared.service.Service.{Service}

abbrev pub space_of : {S : Type 0} → Service S → S
space_of s = s.space

abbrev pub salt_of : {S : Type 0} → Service S → List ℕ
salt_of s = s.salt

-- Returns true if the service has replied `Stopped`.
abbrev pub is_shut : {S : Type 0} → Service S → Bool
is_shut s = s.stopped

-- The service over another space.
abbrev pub with_space : {S : Type 0} → Service S → S → Service S
with_space s space = record s { space = space }

-- Holds if a call leaves the salt and the fixed part of the space. A shut service stays unchanged.
-- If the space is sound, it was sound before; if it was whole before, it is whole.
pub record Stays {S : Type 0} (g : Ghosts S) (old new : Service S) : Type 0 where
  pub salt : salt_of new ≡ salt_of old
  pub shut : is_shut old ≡ true → new ≡ old
  pub fixed : g.fixed (space_of new) ≡ g.fixed (space_of old)
  pub sound : g.is_sound (space_of new) → g.is_sound (space_of old)
  pub whole : g.is_sound (space_of new) → g.is_whole (space_of old) → g.is_whole (space_of new)
