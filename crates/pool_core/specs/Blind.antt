-- Replies to a USS over calls and purges do not depend on OVNs that it does not know.
use Rattle.std.specs.Prelude.{◌≡◌, ℕ, List, [], ◌∷◌, Option, if◌then◌else◌}
use Rattle.entity_core.specs.Airspace.{Airspace}
use Rattle.entity_purge.specs.Purge.{purged}
use Rattle.policy_core.specs.Blind.{IsLike, is_by}
use Rattle.service_step.specs.declared.reply.Reply.{Reply}
use Rattle.service_calls.specs.Blind.{CalledAlike}
use Rattle.pool_core.specs.Acts.{Act, Makes, Purges, act_step, airspace_by, replies_by}

-- Holds if an act knows as much in both airspaces. A purge needs to know nothing.
abbrev pub HappensAlike : List ℕ → Act → Airspace → Airspace → Type 0
HappensAlike m (Makes timed) a b = CalledAlike m timed.1 a b
HappensAlike m (Purges until) a b = Unit {0}

-- Holds if each act of a list knows as much in both airspaces at its place.
abbrev pub AllHappenAlike : (salt m : List ℕ) → List Act → Airspace → Airspace → Type 0
AllHappenAlike salt m [] a b = Unit {0}
AllHappenAlike salt m (x ∷ xs) a b = HappensAlike m x a b
    × AllHappenAlike salt m xs (act_step salt a x).0 (act_step salt b x).0

-- The replies to the calls that the USS made.
abbrev pub replies_told : List ℕ → List Act → List (Option Reply) → List (Option Reply)
replies_told m [] rs = []
replies_told m (x ∷ xs) [] = []
replies_told m (Makes timed ∷ xs) (r ∷ rs) =
    if is_by m timed.1 then r ∷ replies_told m xs rs else replies_told m xs rs
replies_told m (Purges until ∷ xs) (r ∷ rs) = replies_told m xs rs

-- States that airspaces that are alike to a USS stay alike after the same purge.
abbrev pub PurgeIsBlind : Type 0
PurgeIsBlind = (m : List ℕ) (until : ℕ) (a b : Airspace) → IsLike m a b
    → IsLike m (purged until a) (purged until b)

-- States that over any list of acts the USS gets the same replies, and the airspaces stay alike.
abbrev pub ActsAreBlind : Type 0
ActsAreBlind = (salt m : List ℕ) (acts : List Act) (a b : Airspace) → IsLike m a b
    → AllHappenAlike salt m acts a b
    → (replies_told m acts (replies_by salt a acts) ≡ replies_told m acts (replies_by salt b acts))
    × IsLike m (airspace_by salt a acts) (airspace_by salt b acts)
