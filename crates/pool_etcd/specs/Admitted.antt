-- The entries among values that the supplier lists at their places admit.
use Rattle.std.specs.Prelude.{◌≡◌, ℕ, List, [], ◌∷◌, ◌++◌, Contains, filter_map, true, if◌then◌else◌, Option, Some, None}
use Rattle.policy_core.specs.declared.scope.Caller.{Caller}
use Rattle.service_calls.specs.Run.{TimedCall}
use Rattle.pool_core.specs.Acts.{Makes}
use Rattle.pool_entry.specs.Acts.{acts_of}
use Rattle.pool_etcd.specs.declared.log_value.LogEntry.{LogEntry}
use Rattle.pool_etcd.specs.declared.log_value.LogValue.{LogValue}
use Rattle.pool_etcd.specs.declared.log_value.LogValue.TheVariants.{Entry, Link, Fence, Suppliers, Other}
use Rattle.pool_etcd.specs.Suppliers.{admits, is_admitted}

-- The supplier list after the values: the last one among them, or else the one before.
abbrev pub list_after : List ℕ → List LogValue → List ℕ
list_after list [] = list
list_after list (Entry e ∷ values) = list_after list values
list_after list (Link l ∷ values) = list_after list values
list_after list (Fence agreed ∷ values) = list_after list values
list_after list (Suppliers next ∷ values) = list_after next values
list_after list (Other ∷ values) = list_after list values

-- The entries among the values that are admitted by the list at their place. This is the list
-- before the values.
abbrev pub entries_in : List ℕ → List LogValue → List LogEntry
entries_in list [] = []
entries_in list (Entry e ∷ values) =
    (if is_admitted list e then e ∷ [] else []) ++ entries_in list values
entries_in list (Link l ∷ values) = entries_in list values
entries_in list (Fence agreed ∷ values) = entries_in list values
entries_in list (Suppliers next ∷ values) = entries_in next values
entries_in list (Other ∷ values) = entries_in list values

-- The entries among the values that are not admitted by the list at their place.
abbrev pub refused_in : List ℕ → List LogValue → List LogEntry
refused_in list [] = []
refused_in list (Entry e ∷ values) =
    (if is_admitted list e then [] else e ∷ []) ++ refused_in list values
refused_in list (Link l ∷ values) = refused_in list values
refused_in list (Fence agreed ∷ values) = refused_in list values
refused_in list (Suppliers next ∷ values) = refused_in next values
refused_in list (Other ∷ values) = refused_in list values

-- ---- laws

-- Holds if the entry is among the values, and the other list is the one at its place. The first
-- list is the one before the values.
pub record StandsUnder (list : List ℕ) (values : List LogValue) (e : LogEntry) (current : List ℕ)
    : Type 0 where
  pub before : List LogValue
  pub after : List LogValue
  pub split : values ≡ before ++ Entry e ∷ after
  pub last : current ≡ list_after list before

-- Each call that an admitted entry makes has a caller whose USS the list at the entry's place
-- assigns to the organization of the entry's key.
abbrev pub AdmittedCallsAreAssigned : Type 0
AdmittedCallsAreAssigned =
    (list : List ℕ) (values : List LogValue) (e : LogEntry) → Contains (entries_in list values) e
    → (current : List ℕ) × StandsUnder list values e current
    × ((timed : TimedCall) → Contains (acts_of e.bytes) (Makes timed)
    → (caller : Caller) × (timed.1.caller ≡ Some caller)
    × (admits current e.key caller.uss ≡ true))

-- The entry that the value is, if it is one.
abbrev pub entry_of : LogValue → Option LogEntry
entry_of (Entry e) = Some e
entry_of (Link l) = None
entry_of (Fence agreed) = None
entry_of (Suppliers list) = None
entry_of Other = None

-- Without a supplier list, each entry is admitted.
abbrev pub WithoutListAllAreAdmitted : Type 0
WithoutListAllAreAdmitted =
    (values : List LogValue) → ((list : List ℕ) → Contains values (Suppliers list) → ⊥)
    → entries_in [] values ≡ filter_map entry_of values
