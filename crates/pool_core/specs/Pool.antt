-- What is trusted of a log that the instances of a pool share.
use Rattle.std.specs.Prelude.{◌≡◌, ◌==◌, ◌≤◌, ℕ, List, ◌∷◌, ◌++◌, Contains, filter, length, map, take}
use Rattle.pool_core.specs.Events.{AsksForEnd, Batch, LearnsEnd, PoolEvent, batches_offered, entries_given, events_at}
use Rattle.pool_core.specs.Log.{LogEntry}

-- Holds if the second list begins with the first.
abbrev pub Begins : {X : Type 0} → List X → List X → Type 0
Begins {X} xs ys = (rest : List X) × (ys ≡ xs ++ rest)

abbrev pub entry_of_batch : Batch → LogEntry
entry_of_batch batch = record { writer = batch.writer; bytes = batch.bytes }

abbrev pub batches_by : (writer : ℕ) → List Batch → List Batch
batches_by i batches = filter (λ batch. i == batch.writer) batches

-- How many entries an instance was given.
abbrev pub count_given : (instance : ℕ) → List PoolEvent → ℕ
count_given i events = length (entries_given (events_at i events))

-- How many batches an instance offered.
abbrev pub count_offered : (instance : ℕ) → List PoolEvent → ℕ
count_offered i events = length (batches_offered i (events_at i events))

-- Holds if the end that the instance `i` learned is not before any entry that some instance was
-- given before the question.
abbrev pub EndIsNotBefore : List PoolEvent → (i j : ℕ) → Type 0
EndIsNotBefore events i j = (before between after : List PoolEvent) (question count : ℕ)
    → events ≡ before ++ record { instance = i; event = AsksForEnd question }
    ∷ (between ++ record { instance = i; event = LearnsEnd question count } ∷ after)
    → count_given j before ≤ count

-- Holds if the events are those of instances that share one log of batches.
pub record IsPool (events : List PoolEvent) : Type 0 where
  pub log : List Batch
  -- Each instance was given the first entries of the log, in order.
  pub one : (i : ℕ) → Begins (entries_given (events_at i events)) (map entry_of_batch log)
  -- The batches of an instance in the log are the first ones that it offered, in order.
  pub own : (i : ℕ) → Begins (batches_by i log) (batches_offered i (events_at i events))
  -- An entry is given to an instance only after its writer offered it.
  pub caused : (before after : List PoolEvent) → events ≡ before ++ after → (i writer : ℕ)
      → length (batches_by writer (take (count_given i before) log)) ≤ count_offered writer before
  -- An end is not before an entry that was given before the question, and not after the last one.
  pub end : (i j : ℕ) → EndIsNotBefore events i j
  pub within : (i question count : ℕ)
      → Contains events (record { instance = i; event = LearnsEnd question count })
      → count ≤ length log
