-- A key with only old OVNs does not suffice.
use Rattle.std.specs.Prelude.{◌≡◌, ◌≢◌, ℕ, ◌≤◌, false, List, Contains}
use Rattle.std.specs.List.{AllByRecursion}
use Rattle.std.specs.FinMap.{entries}
use Rattle.entity_core.specs.Airspace.{Airspace}
use Rattle.entity_core.specs.Ovn.{ovn_text}
use Rattle.entity_core.specs.declared.entity.Entity.{Entity}
use Rattle.entity_core.specs.declared.nature.Kind.{Kind}
use Rattle.policy_core.specs.declared.call.Call.{Call}
use Rattle.policy_core.specs.declared.rule.Rule.TheVariants.{Key}
use Rattle.policy_core.specs.Known.{IsListed, MayDeny}
use Rattle.policy_core.specs.Missing.{key_shown, needed}
use Rattle.service_calls.specs.declared.service.Service.{Service}
use Rattle.service_calls.specs.Held.{is_shut, salt_of, space_of}
use Rattle.service_step.specs.declared.reply.Reply.{Reply}
use Rattle.service_step.specs.declared.reply.Reply.TheVariants.{Done, Denied, Fault, Stopped}
use Rattle.service_step.specs.Step.{step}
use Rattle.space_core.specs.Space.{IsContent}
use Rattle.space_core.specs.declared.space.Space.{Ghosts}

-- ---- the airspace

-- Holds if the serial of an entity is from 1 to that of the airspace, and its OVN is that of the
-- serial.
pub record IsNumbered (salt : List ℕ) (serial : ℕ) (e : Entity) : Type 0 where
  pub positive : 1 ≤ e.serial
  pub within : e.serial ≤ serial
  pub ovn : e.ovn ≡ ovn_text salt e.serial

-- Holds if every entity of the airspace is numbered.
abbrev pub AllNumbered : List ℕ → Airspace → Type 0
AllNumbered salt a = AllByRecursion (λ e. IsNumbered salt a.serial e.1) (entries a.entities)

-- Holds if no two serials from 1 to this one have the same OVN.
abbrev pub DifferUpTo : List ℕ → ℕ → Type 0
DifferUpTo salt serial = (n k : ℕ) → 1 ≤ n → n ≤ serial → 1 ≤ k → k ≤ serial
    → ovn_text salt n ≡ ovn_text salt k → n ≡ k

-- ---- the key

-- Holds if the OVN is that of a serial from 1 to the current one, other than the entity's serial.
pub record IsOfAnother (salt : List ℕ) (a : Airspace) (y : Entity) (ovn : List ℕ) : Type 0 where
  pub serial : ℕ
  pub positive : 1 ≤ serial
  pub within : serial ≤ a.serial
  pub other : serial ≢ y.serial
  pub text : ovn ≡ ovn_text salt serial

-- ---- the reply

-- Holds if the reply is a denial by one of P1 to P14 or P16, and a denial by P14 lists the entity.
abbrev pub IsRefusedFor : Kind → Airspace → Call → Entity → Reply → Type 0
IsRefusedFor kind a c y (Denied p m) = MayDeny p × (p ≡ Key → IsListed kind a c.caller y m)
IsRefusedFor kind a c y (Done answer) = ⊥
IsRefusedFor kind a c y Fault = ⊥
IsRefusedFor kind a c y Stopped = ⊥

-- Holds if the reply is such a denial, or the call failed.
abbrev pub FailsOrIsRefused : Kind → Airspace → Call → Entity → Reply → Type 0
FailsOrIsRefused kind a c y (Denied p m) = IsRefusedFor kind a c y (Denied p m)
FailsOrIsRefused kind a c y (Done answer) = ⊥
FailsOrIsRefused kind a c y Fault = Unit {0}
FailsOrIsRefused kind a c y Stopped = Unit {0}

-- ---- the law

-- Holds if a put needs to know an entity, and its key has only OVNs of other serials: old ones of
-- that entity, and those of others.
pub record IsStale (salt : List ℕ) (kind : Kind) (a : Airspace) (c : Call) (y : Entity)
    : Type 0 where
  pub numbered : AllNumbered salt a
  pub differ : DifferUpTo salt a.serial
  pub needs : Contains (needed kind a c.caller c.op) y
  pub old : AllByRecursion (IsOfAnother salt a y) (key_shown c.op)

-- States that the policy denies such a put for that entity, or for an earlier rule that it breaks.
abbrev pub StaleIsRefused : Type 0
StaleIsRefused = (salt : List ℕ) (a : Airspace) (now : ℕ) (c : Call) (kind : Kind) (y : Entity)
    → IsStale salt kind a c y → IsRefusedFor kind a c y (step salt a now c).1

-- Holds if a service that was not shut, over a space with a single airspace, denies such a put, or
-- the call fails.
abbrev pub RefusesStale : {S : Type 0} → Ghosts S → Service S → Service S → Call → Reply → Type 0
RefusesStale g old new c reply = is_shut old ≡ false → g.is_sound (space_of new)
    → (a : Airspace) → IsContent g.holds (space_of old) a
    → (kind : Kind) (y : Entity) → IsStale (salt_of old) kind a c y
    → FailsOrIsRefused kind a c y reply
