-- Possible replies of a service to one call.
use Rattle.std.specs.Prelude.{◌≡◌, ℕ, ◌<◌, ◌||◌, List, find, ◌⊎◌, IsSome, IsNone}
use Rattle.entity_core.specs.Airspace.{Airspace}
use Rattle.space_core.specs.declared.space.Space.{Ghosts}
use Rattle.space_core.specs.Space.{max_count, IsContent}
use Rattle.policy_core.specs.declared.call.Call.{Call}
use Rattle.service_step.specs.declared.admitted.Admitted.{Admitted}
use Rattle.service_step.specs.declared.reply.Reply.{Reply}
use Rattle.service_step.specs.declared.reply.Reply.TheVariants.{Done, Denied, Fault, Stopped}
use Rattle.policy_core.specs.Policy.{breaks, early_rules, standing_rules}
use Rattle.space_core.specs.declared.space.SpaceFault.TheVariants.{Unchanged, Broken}
use Rattle.service_step.specs.declared.call_fault.CallFault.{CallFault}
use Rattle.service_step.specs.declared.call_fault.CallFault.TheVariants.{NoMemory, Space}
use Rattle.service_step.specs.Admitted.{BreaksNone}
use Rattle.service_step.specs.Reply.{is_stopped}
use Rattle.service_step.specs.Step.{step}

-- The reply to an aborted call.
abbrev pub reply_of : CallFault → Reply
reply_of NoMemory = Fault
reply_of (Space Unchanged) = Fault
reply_of (Space Broken) = Stopped

-- Holds if a call leaves the right content in a space whose content was `a`. After `Done` it is the
-- policy's airspace; after a denial or a fault it is `a`. After `Stopped` the space holds only `a`
-- or the policy's airspace.
abbrev pub Leaves : {S : Type 0} → Ghosts S → List ℕ → Airspace → ℕ → Call → Reply → S → Type 0
Leaves g salt a now c (Done answer) new = ((step salt a now c).1 ≡ Done answer)
    × IsContent g.holds new (step salt a now c).0
Leaves g salt a now c (Denied r m) new = (step salt a now c ≡ (a, Denied r m))
    × IsContent g.holds new a
Leaves g salt a now c Fault new = IsContent g.holds new a
Leaves g salt a now c Stopped new = (b : Airspace) → g.holds new b
    → (b ≡ a) ⊎ (b ≡ (step salt a now c).0)

-- Holds if the call may get this reply, as far as failure goes. A call fails only if it breaks no
-- stateless rule. If it breaks one of P7 to P13, P16 or P17, it fails only by a fault of the space.
abbrev pub MayFail : Airspace → ℕ → Call → Reply → ℕ → ℕ → Type 0
MayFail a now c Fault refusals refusals' = IsNone (find (breaks a now c) early_rules)
    × (IsSome (find (breaks a now c) standing_rules)
    → (refusals < refusals') ⊎ (refusals' ≡ max_count))
MayFail a now c (Done answer) refusals refusals' = Unit {0}
MayFail a now c (Denied r m) refusals refusals' = Unit {0}
MayFail a now c Stopped refusals refusals' = Unit {0}

-- The properties of the reply to one call of a service that was not stopped. The space answered
-- `Broken` in the call exactly if the reply is `Stopped`. A space that was whole stays whole, so
-- that it holds some airspace also after `Stopped`.
pub record Answers {S : Type 0} (g : Ghosts S) (salt : List ℕ) (now : ℕ) (c : Call) (old new : S)
    (reply : Reply) : Type 0 where
  pub step : g.is_sound new → (a : Airspace) → IsContent g.holds old a
      → Leaves g salt a now c reply new
  pub fails : g.is_sound new → (a : Airspace) → IsContent g.holds old a
      → MayFail a now c reply (g.refusals old) (g.refusals new)
  pub fixed : g.fixed new ≡ g.fixed old
  pub sound : g.is_sound new → g.is_sound old
  pub whole : g.is_sound new → g.is_whole old → g.is_whole new
  pub breaks : g.is_broken new ≡ (is_stopped reply || g.is_broken old)

-- Holds if these properties hold for an admitted call.
abbrev pub AnswersTo : {S : Type 0} → Ghosts S → Admitted → S → S → Reply → Type 0
AnswersTo g admitted old new reply =
    Answers g admitted.salt.now admitted.moment admitted.call.now old new reply

-- Holds if the reply is not `Done`.
abbrev pub IsNotDone : Reply → Type 0
IsNotDone (Done answer) = ⊥
IsNotDone (Denied r m) = Unit {0}
IsNotDone Fault = Unit {0}
IsNotDone Stopped = Unit {0}

-- Holds if the call breaks no rule in an airspace that the space held, and the space has the same
-- content as before.
pub record AllowsTo {S : Type 0} (g : Ghosts S) (admitted : Admitted) (old new : S) : Type 0 where
  pub breaks_none : g.is_sound new → (a : Airspace) → g.holds old a → BreaksNone admitted a
  pub same : g.is_sound new → (a : Airspace) → IsContent g.holds old a → IsContent g.holds new a
  pub fixed : g.fixed new ≡ g.fixed old
  pub sound : g.is_sound new → g.is_sound old
  pub whole : g.is_sound new → g.is_whole old → g.is_whole new
  pub breaks : g.is_broken new ≡ g.is_broken old
