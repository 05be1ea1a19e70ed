-- Replies to a USS do not depend on OVNs that it does not know.
use Rattle.std.specs.Prelude.{◌≡◌, ℕ, true, false, List, [], ◌∷◌, if◌then◌else◌}
use Rattle.entity_core.specs.Airspace.{Airspace}
use Rattle.policy_core.specs.declared.call.Call.{Call}
use Rattle.policy_core.specs.Blind.{IsLike, KnowsTheSame, ToldTheSame, is_by}
use Rattle.service_step.specs.declared.reply.Reply.{Reply}
use Rattle.service_step.specs.Step.{step}
use Rattle.service_calls.specs.Run.{TimedCall, replies_of, airspace_after}

-- Holds if a call knows as much in both airspaces. For a call of the USS this is by its key; for a
-- call of another USS, by its key and its path.
pub record CalledAlike (m : List ℕ) (c : Call) (a b : Airspace) : Type 0 where
  pub own : is_by m c ≡ true → KnowsTheSame m c a b
  pub others : is_by m c ≡ false → ToldTheSame m c a b

-- Holds if each call of a list knows as much in both airspaces at its time.
abbrev pub AllCalledAlike : List ℕ → List ℕ → List TimedCall → Airspace → Airspace → Type 0
AllCalledAlike salt m [] a b = Unit {0}
AllCalledAlike salt m (c ∷ cs) a b = CalledAlike m c.1 a b
    × AllCalledAlike salt m cs (step salt a c.0 c.1).0 (step salt b c.0 c.1).0

-- The replies to the calls that the USS made.
abbrev pub replies_to : List ℕ → List TimedCall → List Reply → List Reply
replies_to m [] rs = []
replies_to m (c ∷ cs) [] = []
replies_to m (c ∷ cs) (r ∷ rs) = if is_by m c.1 then r ∷ replies_to m cs rs else replies_to m cs rs

-- ---- laws

-- States that a USS's call with the same knowledge gets the same reply from airspaces that are
-- alike to it, and leaves them alike.
abbrev pub CallIsBlind : Type 0
CallIsBlind = (salt m : List ℕ) (a b : Airspace) (now : ℕ) (c : Call) → IsLike m a b
    → is_by m c ≡ true → KnowsTheSame m c a b
    → ((step salt a now c).1 ≡ (step salt b now c).1)
    × IsLike m (step salt a now c).0 (step salt b now c).0

-- States that over any list of calls, by any callers, the USS gets the same replies, and the
-- airspaces stay alike.
abbrev pub RunIsBlind : Type 0
RunIsBlind = (salt m : List ℕ) (cs : List TimedCall) (a b : Airspace) → IsLike m a b
    → AllCalledAlike salt m cs a b
    → (replies_to m cs (replies_of salt a cs) ≡ replies_to m cs (replies_of salt b cs))
    × IsLike m (airspace_after salt a cs) (airspace_after salt b cs)
