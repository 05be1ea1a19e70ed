-- An atomic log whose instances start from files, which meets what is trusted of a log.
use Rattle.std.specs.Prelude.{◌≡◌, ◌≤◌, ◌+◌, ℕ, List, [], ◌∷◌, ◌++◌, Contains, Some, length, slice_get}
use Rattle.entity_core.specs.Airspace.{Airspace}
use Rattle.service_calls.specs.Run.{TimedCall}
use Rattle.service_step.specs.Step.{step}
use Rattle.pool_core.specs.Acts.{Act, Makes}
use Rattle.pool_core.specs.Atomic.{IsFree}
use Rattle.pool_core.specs.Events.{AfterFirst, Answers, Batch, Gets, InPlace, LearnsEnd, PoolEvent, batches_offered, events_at}
use Rattle.pool_core.specs.FromFiles.{IsPoolFrom, file_of}
use Rattle.pool_core.specs.Pool.{batches_by, count_given, entry_of_batch}
use Rattle.pool_core.specs.Serves.{ServesPool}

-- Holds if the events can happen at instances of a log that takes one step at a time, each of which
-- started with so many of its first entries. An instance acts only once the log has its file. A log
-- accepts the next batch of some instance, gives some instance its next entry, or tells how many
-- entries it has behind the file of the instance.
pub data AtomicLogFrom (offsets : ℕ → ℕ) : List PoolEvent → List Batch → Type 0 where
  NoneYet : AtomicLogFrom offsets [] []
  ActsFreely : (events : List PoolEvent) (log : List Batch) (e : PoolEvent) → IsFree e.event
      → offsets e.instance ≤ length log → AtomicLogFrom offsets events log
      → AtomicLogFrom offsets (events ++ e ∷ []) log
  AcceptsNext : (events : List PoolEvent) (log : List Batch) (b : Batch) (rest : List Batch)
      → batches_offered b.writer (events_at b.writer events) ≡ batches_by b.writer log ++ b ∷ rest
      → AtomicLogFrom offsets events log → AtomicLogFrom offsets events (log ++ b ∷ [])
  GivesNext : (events : List PoolEvent) (log : List Batch) (i : ℕ) (b : Batch)
      → slice_get log (offsets i + count_given i events) ≡ Some b → AtomicLogFrom offsets events log
      → AtomicLogFrom offsets
      (events ++ record { instance = i; event = Gets (entry_of_batch b) } ∷ []) log
  TellsCount : (events : List PoolEvent) (log : List Batch) (i question count : ℕ)
      → offsets i + count ≡ length log → AtomicLogFrom offsets events log
      → AtomicLogFrom offsets
      (events ++ record { instance = i; event = LearnsEnd question count } ∷ []) log

-- States that the events at an atomic log are those of a pool, over its batches.
abbrev pub AtomicLogFromIsPool : Type 0
AtomicLogFromIsPool = (offsets : ℕ → ℕ) (events : List PoolEvent) (log : List Batch)
    → AtomicLogFrom offsets events log → ((i : ℕ) → offsets i ≤ length log)
    → (pool : IsPoolFrom offsets events) × (pool.log ≡ log)

-- Holds if these events can happen at an atomic log, and both instances serve, the second one from a
-- file with the first entry.
pub record ServesFromFile (acts_of : List ℕ → List Act) (salt : List ℕ) (start : Airspace)
    (events : List PoolEvent) : Type 0 where
  pub offsets : ℕ → ℕ
  pub log : List Batch
  pub atomic : AtomicLogFrom offsets events log
  pub starts : (i : ℕ) → offsets i ≤ length log
  pub first : ServesPool acts_of salt (file_of acts_of salt start log (offsets 1)) 1 (events_at 1 events)
  pub second : ServesPool acts_of salt (file_of acts_of salt start log (offsets 2)) 2 (events_at 2 events)
  pub behind : offsets 2 ≡ 1

-- States that the premises can be met by an instance that starts from a file, for any call and any
-- reading after it. One instance answers the call in its place. Another starts from the file with
-- its entry, is given nothing, and answers the reading.
abbrev pub FromFileCanAnswer : Type 0
FromFileCanAnswer = (acts_of : List ℕ → List Act) (salt : List ℕ) (start : Airspace)
    (bytes : List ℕ) (timed read : TimedCall) → acts_of bytes ≡ Makes timed ∷ []
    → let then = step salt start timed.0 timed.1 in let end = step salt then.0 read.0 read.1 in
    end.0 ≡ then.0
    → (events : List PoolEvent) × ServesFromFile acts_of salt start events
    × Contains events (record { instance = 1; event = Answers 1 InPlace then.1 })
    × Contains events (record { instance = 2; event = Answers 1 (AfterFirst 0 read) end.1 })
