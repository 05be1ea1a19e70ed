-- Subscriptions ordered by id.
use Rattle.std.specs.Prelude.{◌≡◌, ℕ, ◌<◌, ◌≤◌, Bool, List, Some}
use Rattle.std.specs.List.{AllByRecursion}
use Rattle.std.specs.Ordering.{is_le, nat_cmp}
use Rattle.std.specs.BTreeMap as tree
use Rattle.std.specs.BTreeMap.{BTreeMap}
use Rattle.std.specs.FinMap.{get}
use Rattle.std.specs.Option.{option_map}
use Rattle.entity_core.specs.Airspace.{is_one_of, Subscriptions, notified_if}
use Rattle.entity_core.specs.Serial.{max_serial}
use Rattle.entity_core.specs.declared.subscription.Sub.{Sub}
use Rattle.entity_maps.specs.Sorted.{Rise, map_of}

-- A subscription under its id.
abbrev pub pair_of : Sub → ℕ × Sub
pair_of s = (s.id, s)

-- Holds if each subscription is stored under its own id.
abbrev pub AreKeyed : List (ℕ × Sub) → Type 0
AreKeyed es = AllByRecursion (λ e. e.0 ≡ e.1.id) es

abbrev pub InOrder : List Sub → Type 0
InOrder ss = Rise nat_cmp pair_of ss

-- The map of a list of subscriptions.
abbrev pub subscription_map : List Sub → Subscriptions
subscription_map ss = map_of nat_cmp pair_of ss

-- Holds if no notification index exceeds the serial.
abbrev pub AllNotified : List Sub → ℕ → Type 0
AllNotified ss serial = (id : ℕ) (s : Sub) → get (subscription_map ss) id ≡ Some s → s.index ≤ serial

-- Holds if the index of each subscription can be incremented.
abbrev pub CanNotify : List Sub → Type 0
CanNotify ss = (id : ℕ) (s : Sub) → get (subscription_map ss) id ≡ Some s → s.index < max_serial

-- Holds if the index of each subscription of a tree can be incremented.
abbrev pub TreeCanNotify : BTreeMap ℕ Sub → Type 0
TreeCanNotify m = (id : ℕ) (s : Sub) → tree.get nat_cmp m id ≡ Some s → s.index < max_serial

-- The subscription with an id, notified once more if the id is in the list.
abbrev pub notified_at : List ℕ → ℕ → Sub → Sub
notified_at ids id s = (notified_if (is_one_of ids) (id, s)).1

-- Holds if the second tree is the first one after these ids are notified.
abbrev pub Notifies : List ℕ → BTreeMap ℕ Sub → BTreeMap ℕ Sub → Type 0
Notifies ids m n = (id : ℕ)
    → tree.get nat_cmp n id ≡ option_map (notified_at ids id) (tree.get nat_cmp m id)

-- True if a subscription has the id or a later one.
abbrev pub comes_from : ℕ → Sub → Bool
comes_from id s = is_le (nat_cmp id s.id)
