-- The airspace: all state of the service.
use Rattle.std.specs.Prelude.{◌≡◌, ℕ, ◌+◌, ◌≤◌, nat_eq, Bool, if◌then◌else◌, List, [], map, Some, unwrap_or, option_map}
use Rattle.std.specs.List.{list_any}
use Rattle.std.specs.Ordering.{nat_cmp, ordering_then}
use Rattle.std.specs.declared.cmp.Ordering.{Ordering}
use Rattle.std.specs.Cmp.Lexicographic.{slice_cmp}
use Rattle.std.specs.FinMap.{FinMap, entries, from_sorted, get, insert, remove, empty}
use Rattle.entity_core.specs.declared.availability.Availability.{Availability}
use Rattle.entity_core.specs.declared.availability.Availability.TheVariants.{Unknown}
use Rattle.entity_core.specs.declared.nature.Kind.{Kind}
use Rattle.entity_core.specs.declared.entity.Entity.{Entity}
use Rattle.entity_core.specs.declared.subscription.Sub.{Sub}
use Rattle.entity_core.specs.Entity.{kind_index, kind_of}

-- The order of texts by their bytes.
abbrev pub text_cmp : List ℕ → List ℕ → Ordering
text_cmp a b = slice_cmp nat_cmp a b

-- An availability and its version: the OVN of the change that set it.
abbrev pub VersionedAvailability : Type 0
VersionedAvailability = Availability × List ℕ

abbrev pub Availabilities : Type 0
Availabilities = FinMap text_cmp VersionedAvailability

-- A kind and an id. Each kind has its own ids.
abbrev pub EntityKey : Type 0
EntityKey = Kind × ℕ

-- The order of keys: by kind, then by id.
abbrev pub key_cmp : EntityKey → EntityKey → Ordering
key_cmp a b = ordering_then (nat_cmp (kind_index a.0) (kind_index b.0)) (nat_cmp a.1 b.1)

abbrev pub key_of : Entity → EntityKey
key_of e = (kind_of e.nature, e.id)

abbrev pub Entities : Type 0
Entities = FinMap key_cmp Entity

-- Subscriptions by id. Their ids are separate from those of entities.
abbrev pub Subscriptions : Type 0
Subscriptions = FinMap nat_cmp Sub

-- The entities by kind and id, the subscriptions by id, the availability of each USS that has set
-- one, and the number of changes.
pub record Airspace : Type 0 where
  pub entities : Entities
  pub subscriptions : Subscriptions
  pub availabilities : Availabilities
  pub serial : ℕ

-- Holds if an airspace is valid. Each entity is stored under its own kind and id, and each
-- subscription under its own id. No notification index exceeds the serial.
pub record IsAirspace (a : Airspace) : Type 0 where
  pub keyed : (k : EntityKey) (x : Entity) → get a.entities k ≡ Some x → key_of x ≡ k
  pub own : (id : ℕ) (s : Sub) → get a.subscriptions id ≡ Some s → s.id ≡ id
  pub told : (id : ℕ) (s : Sub) → get a.subscriptions id ≡ Some s → s.index ≤ a.serial

-- The stored availability of a USS. If the USS has set none, `Unknown` with the empty version.
abbrev pub availability_of : Airspace → List ℕ → VersionedAvailability
availability_of a uss = unwrap_or (get a.availabilities uss) (Unknown, [])

-- Each change increments the serial by one.

-- The airspace after a USS has set its availability.
abbrev pub with_availability : Airspace → List ℕ → VersionedAvailability → Airspace
with_availability a uss stated = record a {
  availabilities = insert a.availabilities uss stated;
  serial = a.serial + 1;
}

-- The airspace after an entity is put. It replaces the entity with the same kind and id.
abbrev pub with_entity : Airspace → Entity → Airspace
with_entity a e = record a { entities = insert a.entities (key_of e) e; serial = a.serial + 1 }

-- The airspace after an entity is deleted.
abbrev pub without_entity : Airspace → EntityKey → Airspace
without_entity a k = record a { entities = remove a.entities k; serial = a.serial + 1 }

-- The airspace after a subscription is put. It replaces the subscription with the same id.
abbrev pub with_subscription : Airspace → Sub → Airspace
with_subscription a s = record a {
  subscriptions = insert a.subscriptions s.id s;
  serial = a.serial + 1;
}

-- The airspace after a subscription is deleted.
abbrev pub without_subscription : Airspace → ℕ → Airspace
without_subscription a id = record a {
  subscriptions = remove a.subscriptions id;
  serial = a.serial + 1;
}

-- ---- notifications

-- A subscription after one more notification. Its version and serial stay.
abbrev pub notified_again : Sub → Sub
notified_again s = record s { index = s.index + 1 }

-- A subscription after one more notification if it passes the test, and unchanged otherwise.
abbrev pub notified_if : (ℕ × Sub → Bool) → ℕ × Sub → ℕ × Sub
notified_if test s = (s.0, if test s then notified_again s.1 else s.1)

-- The subscriptions after one more notification of each that passes the test.
unfoldable pub notified_where : (ℕ × Sub → Bool) → Subscriptions → Subscriptions
notified_where test m = from_sorted {R = nat_cmp} (map (notified_if test) (entries m))

-- True if a subscription has one of these ids.
abbrev pub is_one_of : List ℕ → ℕ × Sub → Bool
is_one_of ids s = list_any (λ id. nat_eq id s.0) ids

-- States that a lookup after a notification finds the same subscription, notified once more exactly
-- if it passes the test.
abbrev pub NotifiedOnce : Type 0
NotifiedOnce = (m : Subscriptions) (test : ℕ × Sub → Bool) (id : ℕ)
    → get (notified_where test m) id ≡ option_map (λ s. (notified_if test (id, s)).1) (get m id)

-- The airspace after these subscriptions are notified. The serial stays, because a notification is
-- part of a change.
abbrev pub with_notified_subs : Airspace → (ℕ × Sub → Bool) → Airspace
with_notified_subs a test = record a { subscriptions = notified_where test a.subscriptions }

-- An empty airspace with this serial.
abbrev pub empty_at : ℕ → Airspace
empty_at serial = record {
  entities = empty;
  subscriptions = empty;
  availabilities = empty;
  serial = serial;
}
