-- When a failure or a recovery of the store is reported.
use Rattle.std.specs.Prelude.{◌==◌, ◌+◌, ◌-◌, ◌^◌, ℕ, zero, suc, Bool, true, false, if◌then◌else◌, Option, Some, None, Result, Ok, Err, min}
use Rattle.std.specs.Duration.{as_nanos}
use Rattle.server_base.specs.declared.server_log.StoreEvent.{StoreEvent}
use Rattle.server_base.specs.declared.server_log.StoreEvent.TheVariants as news
use Rattle.server_watch.specs.declared.store_watch.CommitOutcome.{CommitOutcome}
use Rattle.server_watch.specs.declared.store_watch.CommitOutcome.TheVariants as outcome
use Rattle.server_watch.specs.declared.store_watch.StoreWatch.{StoreWatch}
use Rattle.server_watch.specs.declared.purge_fault.PurgeFault.{PurgeFault}
use Rattle.server_watch.specs.declared.purge_fault.PurgeFault.TheVariants as purge
use Rattle.space_core.specs.declared.space.SpaceFault.{SpaceFault}
use Rattle.space_core.specs.declared.space.SpaceFault.TheVariants as space

-- The outcome of a batch's changes, given the result of its commit. There is none if the batch had
-- no changes.
abbrev pub outcome_of_batch : (waited : Bool) → Result (Unit {0}) SpaceFault → Option CommitOutcome
outcome_of_batch true (Ok done) = Some outcome.Committed
outcome_of_batch false (Ok done) = None
outcome_of_batch waited (Err space.Unchanged) = Some outcome.RolledBack
outcome_of_batch waited (Err space.Broken) = Some outcome.Unknown

-- The outcome of a purge chunk, given the number of purged items or the failure.
abbrev pub outcome_of_purge : Result ℕ PurgeFault → Option CommitOutcome
outcome_of_purge (Ok zero) = None
outcome_of_purge (Ok (suc n)) = Some outcome.Committed
outcome_of_purge (Err purge.Clock) = None
outcome_of_purge (Err (purge.Space space.Unchanged)) = None
outcome_of_purge (Err (purge.Space space.Broken)) = Some outcome.Unknown

-- Failures since the last commit, and how many of them are not reported yet.
abbrev pub failures_of : StoreWatch → ℕ
failures_of watch = watch.failures

abbrev pub unreported_of : StoreWatch → ℕ
unreported_of watch = watch.unreported

-- The time until which further failures are not reported, in nanoseconds.
abbrev pub silent_until : StoreWatch → ℕ
silent_until watch = as_nanos watch.silent_until

abbrev pub is_broken : StoreWatch → Bool
is_broken watch = watch.is_broken

-- One more, saturating at the maximum of `u64`.
abbrev pub one_more : ℕ → ℕ
one_more n = min (n + 1) (2 ^ 64 - 1)

-- The event to report when a change is committed after so many failures.
abbrev pub news_of_keeping : (failures : ℕ) → Option StoreEvent
news_of_keeping failures = if failures == 0 then None else Some (news.Recovered failures)

-- The event to report when the store stops: none if it had stopped before.
abbrev pub news_of_breaking : (broken : Bool) → Option StoreEvent
news_of_breaking true = None
news_of_breaking false = Some news.Stopped
