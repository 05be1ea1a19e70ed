-- How often other classes are picked while a class waits.
use Rattle.std.specs.Prelude.{◌≡◌, ◌==◌, ◌≤◌, ◌<◌, ◌+◌, ◌*◌, ℕ, suc, Bool, true, false, List, [], ◌∷◌, Some, if◌then◌else◌}
use Rattle.std.specs.List.{slice_get}
use Rattle.space_core.specs.Space.{max_count}
use Rattle.server_clients.specs.FairQueue.{IsCharged, IsPicked, NeverFalls, least_charge, may_be_next, time_of}
use Rattle.server_clients.specs.declared.fair_queue.FairQueue.{FairQueue}
use Rattle.server_clients.specs.declared.fair_queue.UssClass.{UssClass}

-- An event of a queue: a client of a class is picked; a class is charged; or a client waits, leaves
-- or moves, or its unsent bytes and buffers change.
pub data QueueEvent : Type 0 where
  Picks : (index key : ℕ) → QueueEvent
  Charges : (index nanos : ℕ) → QueueEvent
  Changes : QueueEvent

-- Holds if the class with that index may be next.
abbrev pub MayBeNext : FairQueue → ℕ → Type 0
MayBeNext queue index = (class : UssClass) × (slice_get queue.classes.items index ≡ Some class)
    × (may_be_next queue.memory queue.unsent queue.share class ≡ true)

-- Holds if the event leads from one state to the other, and the class `own` may be next before each
-- pick.
abbrev pub OccursBeside : (own : ℕ) → QueueEvent → FairQueue → FairQueue → Type 0
OccursBeside own (Picks index key) old new =
    MayBeNext old own × IsPicked old index key × NeverFalls old new
OccursBeside own (Charges index nanos) old new = IsCharged old index nanos new × NeverFalls old new
OccursBeside own Changes old new = NeverFalls old new

abbrev pub OccurBeside : (own : ℕ) → List QueueEvent → FairQueue → FairQueue → Type 0
OccurBeside own [] old new = new ≡ old
OccurBeside own (event ∷ events) old new =
    (mid : FairQueue) × OccursBeside own event old mid × OccurBeside own events mid new

-- How many clients of a class are picked.
abbrev pub picks_of : (index : ℕ) → List QueueEvent → ℕ
picks_of index [] = 0
picks_of index (Picks other key ∷ events) =
    if index == other then suc (picks_of index events) else picks_of index events
picks_of index (Charges other nanos ∷ events) = picks_of index events
picks_of index (Changes ∷ events) = picks_of index events

-- Holds if P holds for the class itself, and Q for another one.
abbrev pub IfSame : (same : Bool) → (P Q : Type 0) → Type 0
IfSame true P Q = P
IfSame false P Q = Q

-- Holds if a class is charged between two picks of its clients. `owes` says that one was picked
-- before these events for which the class was not charged yet.
abbrev pub IsChargedEach : (index : ℕ) → (owes : Bool) → List QueueEvent → Type 0
IsChargedEach index owes [] = Unit {0}
IsChargedEach index owes (Picks other key ∷ events) = IfSame (index == other)
    ((owes ≡ false) × IsChargedEach index true events) (IsChargedEach index owes events)
IsChargedEach index owes (Charges other nanos ∷ events) =
    IsChargedEach index (if index == other then false else owes) events
IsChargedEach index owes (Changes ∷ events) = IsChargedEach index owes events

-- ---- the law

-- States that while a class may be next, another class is picked no more often than the difference of
-- their virtual times allows: each pick but the first needs a least charge. So a class waits the
-- longer the more it was charged before, and no longer.
abbrev pub WaitsAtMost : Type 0
WaitsAtMost = (own other : ℕ) (events : List QueueEvent) (old new : FairQueue) (more : ℕ)
    → OccurBeside own events old new → IsChargedEach other false events
    → time_of new own < max_count → picks_of other events ≡ suc more
    → time_of old other + more * least_charge ≤ time_of new own
