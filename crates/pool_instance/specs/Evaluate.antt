-- What the service replies to a request that waits.
use Rattle.std.specs.Prelude.{◌≡◌, ◌⊎◌, ℕ, Bool, true, false}
use Rattle.entity_core.specs.Airspace.{Airspace}
use Rattle.policy_core.specs.declared.call.Call.{Call}
use Rattle.space_core.specs.Space.{IsContent}
use Rattle.space_core.specs.declared.space.Space as spaces
use Rattle.service_step.specs.declared.reply.Reply.{Reply}
use Rattle.service_step.specs.declared.reply.Reply.TheVariants.{Denied, Fault}
use Rattle.service_calls.specs.Held.{Stays, is_shut, space_of}
use Rattle.service_calls.specs.Run.{IsAllowed, IsReplyTo}
use Rattle.service_calls.specs.Service.{IsNotDone}
use Rattle.service_calls.specs.declared.service.Service.{Service}
use Rattle.pool_core.specs.Unlogged.{reads}

-- Returns true if a reply says that the call was denied.
abbrev pub is_denial : Reply → Bool
is_denial (Denied r m) = true
is_denial reply = false

-- Holds if a service evaluated a call without making it. If it was not shut, it is not, and its space
-- has the same content.
pub record LooksOnly {S : Type 0} (gs : spaces.Ghosts S) (old new : Service S) : Type 0 where
  pub stays : Stays gs old new
  pub goes : is_shut old ≡ false → is_shut new ≡ false
  pub same : is_shut old ≡ false → gs.is_sound (space_of new) → (a : Airspace)
      → IsContent gs.holds (space_of old) a → IsContent gs.holds (space_of new) a

-- Holds if a call is to be offered: it breaks no rule in the airspace of the service, or the service
-- failed.
abbrev pub IsOffered : {S : Type 0} → spaces.Ghosts S → Service S → Service S → (now : ℕ) → Call
    → Type 0
IsOffered gs old new now call = IsAllowed gs old new now call ⊎ IsReplyTo gs old new now call Fault

-- Holds if a call that got this reply changed nothing.
abbrev pub ChangesNothing : Call → Reply → Type 0
ChangesNothing call reply = (reads call.op ≡ true) ⊎ IsNotDone reply
