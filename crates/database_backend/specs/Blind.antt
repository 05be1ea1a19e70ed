-- Replies to a USS over calls and purges do not depend on OVNs that it does not know.
use Rattle.std.specs.Prelude.{◌≡◌, ℕ, List, [], ◌∷◌, ◌++◌}
use Rattle.entity_core.specs.Airspace.{Airspace}
use Rattle.entity_purge.specs.declared.purge_item.PurgeItem.{PurgeItem}
use Rattle.entity_purge.specs.PurgeItem.{without_items}
use Rattle.policy_core.specs.Blind.{IsLike}
use Rattle.service_step.specs.declared.reply.Reply.{Reply}
use Rattle.service_calls.specs.Blind.{AllCalledAlike, replies_to}
use Rattle.service_calls.specs.Run.{TimedCall, airspace_after, replies_of}

-- Calls, and the items that are purged after them.
pub record CallsAndPurge : Type 0 where
  pub calls : List TimedCall
  pub gone : List PurgeItem

-- The airspace after calls and a purge, and after a list of them.
abbrev pub after_purge : (salt : List ℕ) → Airspace → CallsAndPurge → Airspace
after_purge salt a these = without_items these.gone (airspace_after salt a these.calls)

abbrev pub after_purges : (salt : List ℕ) → Airspace → List CallsAndPurge → Airspace
after_purges salt a [] = a
after_purges salt a (these ∷ more) = after_purges salt (after_purge salt a these) more

-- The policy's replies to the calls that the USS made.
abbrev pub replies_over : (salt m : List ℕ) → Airspace → List CallsAndPurge → List Reply
replies_over salt m a [] = []
replies_over salt m a (these ∷ more) = replies_to m these.calls (replies_of salt a these.calls)
    ++ replies_over salt m (after_purge salt a these) more

-- Holds if each call knows as much in both airspaces at its time.
abbrev pub AllCalledAlikeOver : (salt m : List ℕ) → List CallsAndPurge → Airspace → Airspace
    → Type 0
AllCalledAlikeOver salt m [] a b = Unit {0}
AllCalledAlikeOver salt m (these ∷ more) a b = AllCalledAlike salt m these.calls a b
    × AllCalledAlikeOver salt m more (after_purge salt a these) (after_purge salt b these)

-- ---- laws

-- States that two airspaces stay alike to a USS if the same items are purged in both.
abbrev pub PurgeIsBlind : Type 0
PurgeIsBlind = (m : List ℕ) (gone : List PurgeItem) (a b : Airspace) → IsLike m a b
    → IsLike m (without_items gone a) (without_items gone b)

-- States that over any calls and purges, by any callers, the USS gets the same replies, and the
-- airspaces stay alike.
abbrev pub PurgedRunIsBlind : Type 0
PurgedRunIsBlind = (salt m : List ℕ) (all : List CallsAndPurge) (a b : Airspace) → IsLike m a b
    → AllCalledAlikeOver salt m all a b
    → (replies_over salt m a all ≡ replies_over salt m b all)
    × IsLike m (after_purges salt a all) (after_purges salt b all)
