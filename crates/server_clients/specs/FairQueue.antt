-- Fair queuing: which client may be picked.
use Rattle.std.specs.Prelude.{◌≡◌, ◌≤◌, ◌<◌, ◌+◌, ◌++◌, ◌&&◌, ◌||◌, ◌/◌, nat_le, nat_lt, min, max, ℕ, Bool, true, not, List, length, Option, Some, None}
use Rattle.std.specs.List.{Contains, slice_get}
use Rattle.space_core.specs.Space.{max_count}
use Rattle.server_clients.specs.declared.fair_queue.FairQueue.{FairQueue}
use Rattle.server_clients.specs.declared.fair_queue.UssClass.{UssClass}

-- The clients that wait in a class.
abbrev pub waiting_in : UssClass → List ℕ
waiting_in class = class.open.items ++ class.ended.items

-- Returns true if so many requests of a class as its share wait at the backend, or if it has unsent
-- bytes, and has used half of the budget for them or all classes together have used the budget.
abbrev pub is_held_up : (memory total share : ℕ) → UssClass → Bool
is_held_up memory total share class = nat_le share class.outstanding
    || (nat_le 1 class.unsent && (nat_le (memory / 2) class.unsent || nat_le memory total))

-- Holds if the client waits in the class with that index.
abbrev pub WaitsIn : FairQueue → ℕ → ℕ → Type 0
WaitsIn queue index key = (class : UssClass)
    × (slice_get queue.classes.items index ≡ Some class) × Contains (waiting_in class) key

-- The virtual time of the class with an index, and zero if there is none.
abbrev pub time_in : Option UssClass → ℕ
time_in None = 0
time_in (Some class) = class.virtual_time

abbrev pub time_of : FairQueue → (index : ℕ) → ℕ
time_of queue index = time_in (slice_get queue.classes.items index)

-- Holds if no class is lost, and no virtual time falls. A class that is added begins at zero.
abbrev pub NeverFalls : FairQueue → FairQueue → Type 0
NeverFalls old new = (length old.classes.items ≤ length new.classes.items)
    × ((index : ℕ) → time_of old index ≤ time_of new index)

-- The least number of nanoseconds that a request is charged.
abbrev pub least_charge : ℕ
least_charge = 1000

-- Holds if the class with an index, if there is one, was charged so many nanoseconds, or the least
-- charge if that is more. A virtual time stops at the maximum 64-bit number.
abbrev pub IsCharged : FairQueue → (index nanos : ℕ) → FairQueue → Type 0
IsCharged old index nanos new = index < length old.classes.items
    → min (time_of old index + max nanos least_charge) max_count ≤ time_of new index

-- Returns true if a client waits in a class.
abbrev pub has_waiting : UssClass → Bool
has_waiting class = nat_lt 0 (length class.open.items) || nat_lt 0 (length class.ended.items)

-- Returns true if a client waits in a class that is not held up.
abbrev pub may_be_next : (memory total share : ℕ) → UssClass → Bool
may_be_next memory total share class =
    has_waiting class && not (is_held_up memory total share class)

-- Holds if no class that may be next has a smaller virtual time than this one.
abbrev pub HasLeastTime : FairQueue → UssClass → Type 0
HasLeastTime queue class = (other : ℕ) (rival : UssClass)
    → slice_get queue.classes.items other ≡ Some rival
    → may_be_next queue.memory queue.unsent queue.share rival ≡ true
    → class.virtual_time ≤ rival.virtual_time

-- Holds if the next request is one of the class with that index.
abbrev pub IsNext : FairQueue → ℕ → Type 0
IsNext queue index = (class : UssClass)
    × (slice_get queue.classes.items index ≡ Some class)
    × (may_be_next queue.memory queue.unsent queue.share class ≡ true) × HasLeastTime queue class

-- Holds if the client may be picked: it waits in the class with that index, which is not held up.
-- No other such class has a smaller virtual time.
abbrev pub IsPicked : FairQueue → ℕ → ℕ → Type 0
IsPicked queue index key = (class : UssClass)
    × (slice_get queue.classes.items index ≡ Some class)
    × (may_be_next queue.memory queue.unsent queue.share class ≡ true) × HasLeastTime queue class
    × Contains (waiting_in class) key
