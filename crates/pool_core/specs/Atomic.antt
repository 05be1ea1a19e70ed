-- An atomic log, which meets what is trusted of a log.
use Rattle.std.specs.Prelude.{◌≡◌, ℕ, List, [], ◌∷◌, ◌++◌, Contains, Some, length, slice_get}
use Rattle.entity_core.specs.Airspace.{Airspace}
use Rattle.entity_purge.specs.Purge.{purged}
use Rattle.service_calls.specs.Run.{TimedCall}
use Rattle.service_step.specs.Step.{step}
use Rattle.pool_core.specs.Acts.{Act, Makes, Purges}
use Rattle.pool_core.specs.Events.{AfterFirst, Answers, AsksForEnd, Batch, Drops, Fails, Gets, InPlace, InstanceEvent, LearnsEnd, Offers, PoolEvent, Receives, batches_offered, events_at}
use Rattle.pool_core.specs.Pool.{IsPool, batches_by, count_given, entry_of_batch}
use Rattle.pool_core.specs.Serves.{ServesPool}

-- Holds if the log decides nothing about the event.
abbrev pub IsFree : InstanceEvent → Type 0
IsFree (Receives id call) = Unit {0}
IsFree (Offers ids bytes) = Unit {0}
IsFree (Gets entry) = ⊥
IsFree (AsksForEnd question) = Unit {0}
IsFree (LearnsEnd question count) = ⊥
IsFree (Answers id basis reply) = Unit {0}
IsFree (Fails id) = Unit {0}
IsFree (Drops id) = Unit {0}

-- Holds if the events can happen at instances of a log that takes one step at a time. It accepts
-- the next batch of some instance, gives some instance its next entry, or tells how many entries
-- it has.
pub data AtomicLog : List PoolEvent → List Batch → Type 0 where
  Starts : AtomicLog [] []
  Happens : (events : List PoolEvent) (log : List Batch) (e : PoolEvent) → IsFree e.event
      → AtomicLog events log → AtomicLog (events ++ e ∷ []) log
  Accepts : (events : List PoolEvent) (log : List Batch) (b : Batch) (rest : List Batch)
      → batches_offered b.writer (events_at b.writer events) ≡ batches_by b.writer log ++ b ∷ rest
      → AtomicLog events log → AtomicLog events (log ++ b ∷ [])
  Gives : (events : List PoolEvent) (log : List Batch) (i : ℕ) (b : Batch)
      → slice_get log (count_given i events) ≡ Some b → AtomicLog events log
      → AtomicLog (events ++ record { instance = i; event = Gets (entry_of_batch b) } ∷ []) log
  Tells : (events : List PoolEvent) (log : List Batch) (i question : ℕ) → AtomicLog events log
      → AtomicLog
      (events ++ record { instance = i; event = LearnsEnd question (length log) } ∷ []) log

-- States that the events at an atomic log are those of a pool, over its batches.
abbrev pub AtomicLogIsPool : Type 0
AtomicLogIsPool = (events : List PoolEvent) (log : List Batch) → AtomicLog events log
    → (pool : IsPool events) × (pool.log ≡ log)

-- States that the premises of the laws of a pool can be met, for any call and any reading after it.
-- Two instances share an atomic log. One answers the call in its place, the other the reading.
abbrev pub PoolCanAnswer : Type 0
PoolCanAnswer = (acts_of : List ℕ → List Act) (salt : List ℕ) (start : Airspace)
    (bytes : List ℕ) (timed read : TimedCall) → acts_of bytes ≡ Makes timed ∷ []
    → let then = step salt start timed.0 timed.1 in let end = step salt then.0 read.0 read.1 in
    end.0 ≡ then.0
    → (events : List PoolEvent) × ((log : List Batch) × AtomicLog events log)
    × ServesPool acts_of salt start 1 (events_at 1 events)
    × ServesPool acts_of salt start 2 (events_at 2 events)
    × Contains events (record { instance = 1; event = Answers 1 InPlace then.1 })
    × Contains events (record { instance = 2; event = Answers 1 (AfterFirst 1 read) end.1 })

-- States that they can be met with a purge. One instance writes it, the other answers any reading
-- after it.
abbrev pub PoolCanPurge : Type 0
PoolCanPurge = (acts_of : List ℕ → List Act) (salt : List ℕ) (start : Airspace) (bytes : List ℕ)
    (until : ℕ) (read : TimedCall) → acts_of bytes ≡ Purges until ∷ []
    → let end = step salt (purged until start) read.0 read.1 in end.0 ≡ purged until start
    → (events : List PoolEvent) × ((log : List Batch) × AtomicLog events log)
    × ServesPool acts_of salt start 1 (events_at 1 events)
    × ServesPool acts_of salt start 2 (events_at 2 events)
    × Contains events (record { instance = 1; event = Offers [] bytes })
    × Contains events (record { instance = 2; event = Answers 1 (AfterFirst 1 read) end.1 })
