-- The results and effects of the calls of a space.
use Rattle.std.specs.Prelude.{◌≡◌, ℕ, ◌+◌, ◌<◌, ◌≤◌, Bool, true, List, [], Option, Some, None, IsSome, Result, Ok, Err, IfOk, OnOk, IsErrOf, All, min, MatchResult, ◌⊎◌, ◌↔◌}
use Rattle.std.specs.List.Sorted.{IsStrictlySortedBy}
use Rattle.std.specs.Ordering.{nat_cmp}
use Rattle.std.specs.FinMap.{get}
use Rattle.entity_core.specs.Airspace.{Airspace, is_one_of, with_availability, with_entity, with_subscription, with_notified_subs, without_entity, without_subscription}
use Rattle.entity_core.specs.Entity.{subscription_of}
use Rattle.entity_core.specs.Search.{dependents_in}
use Rattle.entity_core.specs.Serial.{max_serial}
use base.Stored.{Gv, gnil}
use Rattle.space_core.specs.declared.space.SpaceFault.{SpaceFault}
use Rattle.space_core.specs.declared.space.SpaceFault.TheVariants.{Unchanged, Broken}
use Rattle.space_core.specs.declared.space.Change.{Change}
use Rattle.space_core.specs.declared.space.Change.TheVariants.{Put, Remove, Avail, PutSub, RemoveSub}

-- A value of any type, encoded so that different values of the type have different codes.
abbrev pub Code : Type 0
Code = Gv

-- The code of a space with no fixed part.
abbrev pub nothing_fixed : Code
nothing_fixed = gnil

-- The maximum of the count of refusals.
abbrev pub max_count : ℕ
max_count = 18446744073709551615

-- The number of `Unchanged` results after a call.
abbrev pub refusals_after : {T : Type 0} → ℕ → Result T SpaceFault → ℕ
refusals_after n (Ok x) = n
refusals_after n (Err Unchanged) = min (n + 1) max_count
refusals_after n (Err Broken) = n

-- True if the space has returned `Broken`, after a call.
abbrev pub is_broken_after : {T : Type 0} → Bool → Result T SpaceFault → Bool
is_broken_after b (Ok x) = b
is_broken_after b (Err Unchanged) = b
is_broken_after b (Err Broken) = true

-- The airspace after a change that notifies the subscriptions with these ids. Only a change of an
-- entity notifies any.
abbrev pub changed : Change → List ℕ → Airspace → Airspace
changed (Put e) told a = with_notified_subs (with_entity a e) (is_one_of told)
changed (Remove kind id) told a = with_notified_subs (without_entity a (kind, id)) (is_one_of told)
changed (Avail uss availability version) told a = with_availability a uss (availability, version)
changed (PutSub s) told a = with_subscription a s
changed (RemoveSub id) told a = without_subscription a id

-- Holds if the referenced subscription exists.
abbrev pub HasNamed : Airspace → Option ℕ → Type 0
HasNamed a None = Unit {0}
HasNamed a (Some id) = IsSome (get a.subscriptions id)

-- Holds if a change applies to the airspace. What is put has the next serial, and what is removed
-- exists. The subscription that an entity references exists. No index exceeds the next serial. No
-- intent references a subscription that is removed.
abbrev pub IsApplicable : Change → Airspace → Type 0
IsApplicable (Put e) a = (e.serial ≡ a.serial + 1) × HasNamed a (subscription_of e.nature)
IsApplicable (Remove kind id) a = IsSome (get a.entities (kind, id))
IsApplicable (Avail uss availability version) a = Unit {0}
IsApplicable (PutSub s) a = (s.serial ≡ a.serial + 1) × (s.index ≤ a.serial + 1)
IsApplicable (RemoveSub id) a = IsSome (get a.subscriptions id) × (dependents_in a.entities id ≡ [])

-- Holds if the ids are ascending and their subscriptions exist.
pub record AreThere (a : Airspace) (ids : List ℕ) : Type 0 where
  pub rising : IsStrictlySortedBy nat_cmp ids
  pub there : All (λ id. IsSome (get a.subscriptions id)) ids

-- Holds if a change may notify these subscriptions. A change of an entity may notify any that
-- exist, and other changes none.
abbrev pub MayNotify : Change → List ℕ → Airspace → Type 0
MayNotify (Put e) told a = AreThere a told
MayNotify (Remove kind id) told a = AreThere a told
MayNotify (Avail uss availability version) told a = told ≡ []
MayNotify (PutSub s) told a = told ≡ []
MayNotify (RemoveSub id) told a = told ≡ []

-- Holds if the change applies to the airspace, may notify these subscriptions, and the serial can
-- be incremented.
pub record Fits (change : Change) (told : List ℕ) (a : Airspace) : Type 0 where
  pub room : a.serial < max_serial
  pub due : IsApplicable change a
  pub tells : MayNotify change told a

-- Holds for changes that remove something.
abbrev pub IsRemoval : Change → Type 0
IsRemoval (Put e) = ⊥
IsRemoval (Remove kind id) = Unit {0}
IsRemoval (Avail uss availability version) = ⊥
IsRemoval (PutSub s) = ⊥
IsRemoval (RemoveSub id) = Unit {0}

-- Holds if a call reports faults: it counts refusals, records `Broken`, and returns `Broken` if the
-- space was broken before.
pub record ReportsFault {T : Type 0} (refusals refusals' : ℕ) (broken broken' : Bool)
    (result : Result T SpaceFault) : Type 0 where
  pub counted : refusals' ≡ refusals_after refusals result
  pub breaks : broken' ≡ is_broken_after broken result
  pub stays_broken : broken ≡ true → IsErrOf result Broken

-- The same, for a space before and after the call.
abbrev pub ReportsFaultBy : {S T : Type 0} → (S → ℕ) → (S → Bool) → S → S → Result T SpaceFault → Type 0
ReportsFaultBy refusals is_broken old new result =
    ReportsFault (refusals old) (refusals new) (is_broken old) (is_broken new) result

-- Holds if the space holds this airspace and no other: its content.
pub record IsContent {S : Type 0} (Holds : S → Airspace → Type 0) (s : S) (a : Airspace)
    : Type 0 where
  pub held : Holds s a
  pub only : (b : Airspace) → Holds s b → b ≡ a

-- P, unless the fault is `Broken`.
abbrev pub UnlessBroken : SpaceFault → Type 0 → Type 0
UnlessBroken Unchanged P = P
UnlessBroken Broken P = Unit {0}

-- Holds if a call reads. Its result has P for each visible airspace. It leaves the visible
-- airspaces as they are, unless it returns `Broken`. It makes no other airspace visible. A whole
-- space stays whole.
pub record Reads {S T : Type 0} (Holds : S → Airspace → Type 0) (IsSound IsWhole : S → Type 0)
    (old new : S) (result : Result T SpaceFault) (P : Airspace → T → Type 0) : Type 0 where
  pub sound : IsSound new → IsSound old
  pub whole : IsSound new → IsWhole old → IsWhole new
  pub stays : IsSound new
      → MatchResult result (λ _. (a : Airspace) → Holds old a → Holds new a)
      (λ e. UnlessBroken e ((a : Airspace) → Holds old a → Holds new a))
  pub no_other : IsSound new → (a : Airspace) → Holds new a → Holds old a
  pub answer : IsSound new → IfOk result (λ found. (a : Airspace) → Holds old a → P a found)

-- Holds if a call makes a change. After `Ok`, only the changed airspace is visible. After
-- `Unchanged`, the same airspaces are visible as before. After `Broken`, each visible airspace is
-- the changed one or was visible before. If the space was broken before the call, no other airspace
-- becomes visible. A whole space stays whole.
pub record Changes {S T : Type 0} (Holds : S → Airspace → Type 0) (IsSound IsWhole : S → Type 0)
    (was_broken : Bool) (old new : S) (result : Result T SpaceFault) (change : Airspace → Airspace)
    : Type 0 where
  pub sound : IsSound new → IsSound old
  pub whole : IsSound new → IsWhole old → IsWhole new
  pub done : IsSound new → OnOk result ((a : Airspace) → Holds old a
      → IsContent Holds new (change a))
  pub refused : IsSound new → IsErrOf result Unchanged → (a : Airspace) → Holds old a ↔ Holds new a
  pub broken : IsSound new → IsErrOf result Broken → (b : Airspace) → Holds new b
      → Holds old b ⊎ ((a : Airspace) → Holds old a → b ≡ change a)
  pub frozen : IsSound new → was_broken ≡ true → (b : Airspace) → Holds new b → Holds old b
