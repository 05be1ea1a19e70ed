-- Subscriptions with an index by the cells of their volumes.
use Rattle.std.specs.Prelude.{◌≡◌, ℕ, List, [], ◌∷◌, Option, Some, None}
use Rattle.std.specs.List.{All}
use Rattle.std.specs.BTreeSet.{BTreeSet}
use Rattle.std.specs.FinMap.{get}
use Rattle.entity_core.specs.Airspace.{Subscriptions}
use Rattle.entity_core.specs.declared.subscription.Sub.{Sub}
use Rattle.grid_core.specs.Extent.{Extent}
use Rattle.space_memory.specs.CellIndex.{Holder, Mark, IsMarked}

-- A subscription as a holder. The number of its put is its serial.
abbrev pub holder_of : Sub → Holder
holder_of s = (s.serial, s.id)

-- Holds if each cell of a subscription is marked, with volume number 0.
abbrev pub AllMarked : BTreeSet Mark → Sub → Type 0
AllMarked marks s = All (IsMarked marks (holder_of s) 0) s.volume.cells

-- Holds if each subscription of a map is marked. The index can have other marks, too.
abbrev pub IsIndexOf : Subscriptions → BTreeSet Mark → Type 0
IsIndexOf m marks = (id : ℕ) (s : Sub) → get m id ≡ Some s → AllMarked marks s

-- Holds if there is no index, or it has the marks of each subscription.
abbrev pub IsIndexIfAny : Subscriptions → Option (BTreeSet Mark) → Type 0
IsIndexIfAny m None = Unit {0}
IsIndexIfAny m (Some marks) = IsIndexOf m marks

-- Holds if there is no index, or it has the marks of each subscription except the one with this id.
abbrev pub IsIndexBut : ℕ → Subscriptions → Option (BTreeSet Mark) → Type 0
IsIndexBut but m None = Unit {0}
IsIndexBut but m (Some marks) = (id : ℕ) (s : Sub) → get m id ≡ Some s → (id ≡ but → ⊥)
    → AllMarked marks s

-- The volume of a subscription, as a list.
abbrev pub volumes_of : Sub → List Extent
volumes_of s = s.volume ∷ []
