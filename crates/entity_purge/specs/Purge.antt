-- The effect of a purge on an airspace.
use Rattle.std.specs.Prelude.{◌≡◌, ℕ, ◌≤◌, ◌&&◌, not, nat_le, Bool, true, false, cond, List, filter, Option, Some, None, is_some, ◌↔◌}
use Rattle.std.specs.declared.cmp.Ordering.{Ordering}
use Rattle.std.specs.List.{AllByRecursion, list_any}
use Rattle.std.specs.FinMap.{FinMap, entries, from_sorted, get, remove}
use Rattle.grid_core.specs.Extent.{Extent}
use Rattle.grid_core.specs.Volumes.{span_of}
use Rattle.entity_core.specs.Airspace.{Airspace, Entities, EntityKey, IsAirspace, Subscriptions}
use Rattle.entity_core.specs.Entity.{subscription_of}
use Rattle.entity_core.specs.Search.{is_naming}
use Rattle.entity_core.specs.declared.entity.Entity.{Entity}
use Rattle.entity_core.specs.declared.subscription.Sub.{Sub}

-- ---- what has ended

-- True if volumes have ended by a time: none of them ends after it. Rule P13 denies a put at that
-- time by the same test.
abbrev pub have_ended : ℕ → List Extent → Bool
have_ended until volumes = nat_le (span_of volumes).1 until

-- True if all volumes of an entity have ended by a time.
abbrev pub has_ended : ℕ → Entity → Bool
has_ended until e = have_ended until e.volumes

-- True if the volume of a subscription has ended by a time.
abbrev pub sub_has_ended : ℕ → Sub → Bool
sub_has_ended until s = nat_le s.volume.time.1 until

-- Holds if each volume ends at or before a time.
abbrev pub HaveEnded : ℕ → List Extent → Type 0
HaveEnded until volumes = AllByRecursion (λ v. v.time.1 ≤ until) volumes

-- ---- purge

-- The entries of a map that pass a test.
unfoldable pub kept_where : {K X : Type 0} {R : K → K → Ordering} → (K × X → Bool) → FinMap R X
    → FinMap R X
kept_where {R = R} test m = from_sorted {R = R} (filter test (entries m))

abbrev pub has_not_ended : ℕ → EntityKey × Entity → Bool
has_not_ended until e = not (has_ended until e.1)

-- The entities that a purge retains: those that have not ended.
abbrev pub retained : ℕ → Entities → Entities
retained until m = kept_where (has_not_ended until) m

-- True if some intent references the subscription with this id.
abbrev pub is_referenced_in : Entities → ℕ → Bool
is_referenced_in m id = list_any (is_naming id) (entries m)

-- True if a subscription is purged when these entities are retained: it has ended, and none of them
-- references it.
abbrev pub is_due_by : ℕ → Entities → ℕ × Sub → Bool
is_due_by until m s = sub_has_ended until s.1 && not (is_referenced_in m s.0)

abbrev pub is_due_for_purge : ℕ → Airspace → ℕ × Sub → Bool
is_due_for_purge until a s = is_due_by until (retained until a.entities) s

-- The subscriptions that a purge retains.
abbrev pub retained_subs : ℕ → Entities → Subscriptions → Subscriptions
retained_subs until m subs = kept_where (λ s. not (is_due_by until m s)) subs

-- The airspace after a purge up to a time. Entities that have ended are removed, and so are
-- subscriptions that have ended and that no retained intent references. Availabilities, indexes and
-- the serial stay, so that no serial is used twice.
abbrev pub purged : ℕ → Airspace → Airspace
purged until a = record a {
  entities = retained until a.entities;
  subscriptions = retained_subs until (retained until a.entities) a.subscriptions;
}

-- Holds if two airspaces are equal after a purge up to this time.
abbrev pub SameOncePurged : ℕ → Airspace → Airspace → Type 0
SameOncePurged until a b = purged until a ≡ purged until b

-- Holds if the second airspace is the first one after all, some or none of the purge's removals: a
-- purge of either gives the same. `LacksOnlyDue` is the plain form.
pub record IsPartlyPurged (until : ℕ) (a b : Airspace) : Type 0 where
  pub entities : (k : EntityKey) (e : Entity) → get b.entities k ≡ Some e
      → get a.entities k ≡ Some e
  pub subscriptions : (id : ℕ) (s : Sub) → get b.subscriptions id ≡ Some s
      → get a.subscriptions id ≡ Some s
  pub same : SameOncePurged until b a

-- Holds if the second airspace lacks nothing but entities and subscriptions of the first one that
-- are due for the purge. Nothing is new in it, and everything else is equal.
pub record LacksOnlyDue (until : ℕ) (a b : Airspace) : Type 0 where
  pub no_new_entity : (k : EntityKey) (e : Entity) → get b.entities k ≡ Some e
      → get a.entities k ≡ Some e
  pub entities_stay : (k : EntityKey) (e : Entity) → get a.entities k ≡ Some e
      → has_ended until e ≡ false → get b.entities k ≡ Some e
  pub no_new_subscription : (id : ℕ) (s : Sub) → get b.subscriptions id ≡ Some s
      → get a.subscriptions id ≡ Some s
  pub subscriptions_stay : (id : ℕ) (s : Sub) → get a.subscriptions id ≡ Some s
      → is_due_for_purge until a (id, s) ≡ false → get b.subscriptions id ≡ Some s
  pub availabilities : b.availabilities ≡ a.availabilities
  pub serial : b.serial ≡ a.serial

-- The airspace without an entity, and without a subscription. The serial stays, because a purge is
-- not a change.
abbrev pub less_entity : Airspace → EntityKey → Airspace
less_entity a k = record a { entities = remove a.entities k }

abbrev pub less_subscription : Airspace → ℕ → Airspace
less_subscription a id = record a { subscriptions = remove a.subscriptions id }

-- ---- laws

-- States that volumes have ended exactly if each of them has.
pub record EndedIsAll : Type 0 where
  pub each : (until : ℕ) (volumes : List Extent) → have_ended until volumes ≡ true
      → HaveEnded until volumes
  pub all : (until : ℕ) (volumes : List Extent) → HaveEnded until volumes
      → have_ended until volumes ≡ true

-- The value of an option if it passes a test, and `None` otherwise.
abbrev pub if_kept : {X : Type 0} → (X → Bool) → Option X → Option X
if_kept test None = None
if_kept test (Some x) = cond (test x) (Some x) None

-- Holds if the second airspace has exactly the entities that have not ended and the subscriptions
-- that are not due for the purge. Everything else is equal.
pub record IsPurged (until : ℕ) (a b : Airspace) : Type 0 where
  pub entities : (k : EntityKey)
      → get b.entities k ≡ if_kept (λ e. not (has_ended until e)) (get a.entities k)
  pub subscriptions : (id : ℕ)
      → get b.subscriptions id ≡ if_kept (λ s. not (is_due_for_purge until a (id, s))) (get a.subscriptions id)
  pub availabilities : b.availabilities ≡ a.availabilities
  pub serial : b.serial ≡ a.serial

abbrev pub PurgeIsExact : Type 0
PurgeIsExact = (until : ℕ) (a : Airspace) → IsPurged until a (purged until a)

-- States that a purge of a valid airspace gives a valid airspace.
abbrev pub PurgeKeeps : Type 0
PurgeKeeps = (until : ℕ) (a : Airspace) → IsAirspace a → IsAirspace (purged until a)

-- Holds if each subscription that an intent references exists.
abbrev pub ReferencesExist : Airspace → Type 0
ReferencesExist a = (k : EntityKey) (e : Entity) (id : ℕ) → get a.entities k ≡ Some e
    → subscription_of e.nature ≡ Some id → is_some (get a.subscriptions id) ≡ true

-- States that a purge preserves `ReferencesExist`.
abbrev pub PurgeKeepsReferences : Type 0
PurgeKeepsReferences = (until : ℕ) (a : Airspace) → ReferencesExist a → ReferencesExist (purged until a)

-- States that a purge up to a time, followed by one up to the same or a later time, equals the
-- later one.
abbrev pub PurgesJoin : Type 0
PurgesJoin = (u v : ℕ) (a : Airspace) → u ≤ v → purged v (purged u a) ≡ purged v a

-- States that a purge up to the same or an earlier time is a part of a purge.
abbrev pub PurgedIsPartly : Type 0
PurgedIsPartly = (u until : ℕ) (a : Airspace) → u ≤ until → IsPartlyPurged until a (purged u a)

-- States that an airspace is partly purged exactly if it lacks nothing but what is due.
abbrev pub PartlyIsPlain : Type 0
PartlyIsPlain = (until : ℕ) (a b : Airspace) → IsPartlyPurged until a b ↔ LacksOnlyDue until a b

-- States that a purge can be done in chunks. If an airspace is partly purged, it stays so after one
-- or more further items are purged. If nothing remains to purge, the purge is complete.
pub record PurgedInChunks (until : ℕ) (a b : Airspace) : Type 0 where
  pub entity : (k : EntityKey) (e : Entity) → get b.entities k ≡ Some e
      → has_ended until e ≡ true → IsPartlyPurged until a (less_entity b k)
  pub subscription : (id : ℕ) (s : Sub) → get b.subscriptions id ≡ Some s
      → is_due_for_purge until b (id, s) ≡ true → IsPartlyPurged until a (less_subscription b id)
  pub further : (c : Airspace) → IsPartlyPurged until b c → IsPartlyPurged until a c
  -- A subscription that has ended can be purged if no intent references it.
  pub unnamed : (id : ℕ) (s : Sub) → get b.subscriptions id ≡ Some s
      → sub_has_ended until s ≡ true → is_referenced_in b.entities id ≡ false
      → IsPartlyPurged until a (less_subscription b id)
  -- The purge is complete if only referenced subscriptions have ended.
  pub done : ((k : EntityKey) (e : Entity) → get b.entities k ≡ Some e → has_ended until e ≡ false)
      → ((id : ℕ) (s : Sub) → get b.subscriptions id ≡ Some s → sub_has_ended until s ≡ true
      → is_referenced_in b.entities id ≡ true)
      → b ≡ purged until a
  pub all : ((k : EntityKey) (e : Entity) → get b.entities k ≡ Some e → has_ended until e ≡ false)
      → ((id : ℕ) (s : Sub) → get b.subscriptions id ≡ Some s → is_due_for_purge until b (id, s) ≡ false)
      → b ≡ purged until a

pub record ChunksMakePurges : Type 0 where
  pub nothing : (until : ℕ) (a : Airspace) → IsPartlyPurged until a a
  pub more : (until : ℕ) (a b : Airspace) → IsPartlyPurged until a b → PurgedInChunks until a b
