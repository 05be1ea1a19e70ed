-- The airspace after some items are purged, one after another.
use Rattle.std.specs.Prelude.{◌≡◌, ◌<◌, ◌≤◌, ℕ, true, false, List, [], ◌∷◌, Some, IsSome, fold, length}
use Rattle.std.specs.FinMap.{get}
use Rattle.entity_core.specs.Airspace.{Airspace, IsAirspace}
use Rattle.entity_core.specs.Search.{dependents_in}
use Rattle.entity_core.specs.declared.entity.Entity.{Entity}
use Rattle.entity_core.specs.declared.subscription.Sub.{Sub}
use Rattle.entity_purge.specs.declared.purge_item.PurgeItem.{PurgeItem}
use Rattle.entity_purge.specs.declared.purge_item.PurgeItem.TheVariants as gone
use Rattle.entity_purge.specs.Purge.{IsPartlyPurged, has_ended, is_referenced_in, less_entity, less_subscription, sub_has_ended, purged}

-- The airspace after one item is purged. The serial stays.
abbrev pub without_item : Airspace → PurgeItem → Airspace
without_item a (gone.Entity kind id) = less_entity a (kind, id)
without_item a (gone.Subscription id) = less_subscription a id

-- The airspace after these items are purged.
abbrev pub without_items : List PurgeItem → Airspace → Airspace
without_items gone a = fold without_item a gone

-- Holds if an item can be purged: it exists, and no intent references it.
abbrev pub CanPurge : PurgeItem → Airspace → Type 0
CanPurge (gone.Entity kind id) a = IsSome (get a.entities (kind, id))
CanPurge (gone.Subscription id) a = IsSome (get a.subscriptions id) × (dependents_in a.entities id ≡ [])

-- Holds if each item can be purged after the ones before it.
abbrev pub CanPurgeAll : List PurgeItem → Airspace → Type 0
CanPurgeAll [] a = Unit {0}
CanPurgeAll (g ∷ gs) a = CanPurge g a × CanPurgeAll gs (without_item a g)

-- Holds if a purge up to a time removes the item: it exists, it has ended by then, and no intent
-- references it.
abbrev pub IsDueForPurge : ℕ → PurgeItem → Airspace → Type 0
IsDueForPurge until (gone.Entity kind id) a =
    (e : Entity) × (get a.entities (kind, id) ≡ Some e) × (has_ended until e ≡ true)
IsDueForPurge until (gone.Subscription id) a = (s : Sub) × (get a.subscriptions id ≡ Some s)
    × (sub_has_ended until s ≡ true) × (is_referenced_in a.entities id ≡ false)

-- Holds if each item is due for a purge after the ones before it.
abbrev pub AreDueForPurge : ℕ → List PurgeItem → Airspace → Type 0
AreDueForPurge until [] a = Unit {0}
AreDueForPurge until (g ∷ gs) a = IsDueForPurge until g a × AreDueForPurge until gs (without_item a g)

-- Holds if a purge up to a time has nothing to remove.
abbrev pub IsPurgedAlready : ℕ → Airspace → Type 0
IsPurgedAlready until a = purged until a ≡ a

-- Holds if the items are a chunk of a purge: at most `most` items that are due. The chunk is empty
-- only if nothing remains or `most` is 0.
pub record IsPurgeChunk (until most : ℕ) (gone : List PurgeItem) (a : Airspace) : Type 0 where
  pub few : length gone ≤ most
  pub go : AreDueForPurge until gone a
  pub last : gone ≡ [] → 0 < most → IsPurgedAlready until a

-- ---- laws

-- States that purging items that are due gives a partly purged airspace and that each of them can
-- be purged. Purging any items of a valid airspace gives a valid airspace.
pub record GoneIsPurged : Type 0 where
  pub partly : (until : ℕ) (gone : List PurgeItem) (a : Airspace) → AreDueForPurge until gone a
      → IsPartlyPurged until a (without_items gone a)
  pub can : (until : ℕ) (gone : List PurgeItem) (a : Airspace) → AreDueForPurge until gone a → CanPurgeAll gone a
  pub kept : (gone : List PurgeItem) (a : Airspace) → IsAirspace a → IsAirspace (without_items gone a)
