-- When purge chunks are due.
use Rattle.std.specs.Prelude.{◌≡◌, ◌⊎◌, ◌<◌, ◌≤◌, ℕ, zero, suc, Bool, true, false, Option, Some, None, Result, Ok, Err}
use Rattle.std.specs.Duration.{as_nanos}
use Rattle.std.specs.declared.time.Duration.{Duration}
use Rattle.server_watch.specs.Deadline.{a_minute_after}
use Rattle.server_watch.specs.Saturating.{add}
use Rattle.server_watch.specs.declared.purge_fault.PurgeFault.{PurgeFault}
use Rattle.database_backend.specs.declared.purge_plan.PurgePlan.{PurgePlan}

-- The time from which the next chunk is due, in nanoseconds.
abbrev pub due_of : PurgePlan → ℕ
due_of plan = as_nanos plan.due

-- True if the last chunk purged something, so that there may be more.
abbrev pub is_running_in : PurgePlan → Bool
is_running_in plan = plan.is_running

-- True if the next round runs no chunk.
abbrev pub rests_in : PurgePlan → Bool
rests_in plan = plan.rests

-- The number of items that the chunks of the current purge removed.
abbrev pub removed_of : PurgePlan → ℕ
removed_of plan = plan.removed

-- Holds if a chunk is due: the plan does not rest, and the time has come.
abbrev pub IsDue : PurgePlan → (now : Duration) → Type 0
IsDue plan now = (rests_in plan ≡ false) × (due_of plan ≤ as_nanos now)

-- Holds if no chunk is due: the plan rests, or the time has not come.
abbrev pub IsEarly : PurgePlan → (now : Duration) → Type 0
IsEarly plan now = (rests_in plan ≡ true) ⊎ (as_nanos now < due_of plan)

-- Holds if the plan is as before, except that it does not rest any more.
pub record IsLeft (old new : PurgePlan) : Type 0 where
  pub running : is_running_in new ≡ is_running_in old
  pub rests : rests_in new ≡ false
  pub due : due_of new ≡ due_of old
  pub removed : removed_of new ≡ removed_of old

-- The number that a purge reports when it ends. A purge that removed nothing reports none.
abbrev pub report_of : (removed : ℕ) → Option ℕ
report_of zero = None
report_of (suc n) = Some (suc n)

-- Holds if the purge goes on after a round without a chunk, since a chunk removed so many items.
pub record GoesOn (count : ℕ) (old new : PurgePlan) (removed : Option ℕ) : Type 0 where
  pub running : is_running_in new ≡ true
  pub rests : rests_in new ≡ true
  pub due : due_of new ≡ due_of old
  pub sum : removed_of new ≡ add (removed_of old) count
  pub reports : removed ≡ None

-- Holds if the purge has ended, so that the number of items that it removed is reported. The next
-- chunk is due at that time.
pub record Ends (due : ℕ) (old new : PurgePlan) (removed : Option ℕ) : Type 0 where
  pub running : is_running_in new ≡ false
  pub rests : rests_in new ≡ false
  pub due_is : due_of new ≡ due
  pub none : removed_of new ≡ 0
  pub reports : removed ≡ report_of (removed_of old)

-- Holds if the next chunk is planned after this result of one that was due. A purge goes on while
-- chunks remove something. After a chunk that removed nothing or failed, the next one is due in a
-- minute. While purges are held, the chunk stays due.
abbrev pub IsPlanned : Option (Result ℕ PurgeFault) → (now : Duration) → PurgePlan → PurgePlan
    → (removed : Option ℕ) → Type 0
IsPlanned None now old new removed = Ends (due_of old) old new removed
IsPlanned (Some (Ok zero)) now old new removed =
    Ends (a_minute_after (as_nanos now)) old new removed
IsPlanned (Some (Ok (suc n))) now old new removed = GoesOn (suc n) old new removed
IsPlanned (Some (Err why)) now old new removed =
    Ends (a_minute_after (as_nanos now)) old new removed
