-- A pool whose instances start from files: each has an offset, which is how many of the first
-- entries of the log its file has. The events are those that happened, so the counts in them begin
-- behind the file.
use Rattle.std.specs.Prelude.{◌≡◌, ◌<◌, ◌≤◌, ◌+◌, ℕ, Bool, true, false, List, [], ◌∷◌, ◌++◌, Contains, drop, filter, length, map, take, Some, slice_get}
use Rattle.entity_core.specs.Airspace.{Airspace, empty_at}
use Rattle.service_step.specs.declared.reply.Reply.{Reply}
use Rattle.service_calls.specs.Run.{TimedCall}
use Rattle.pool_core.specs.Acts.{Act, Makes, airspace_by}
use Rattle.pool_core.specs.Events.{Answers, AsksForEnd, Basis, Batch, InstanceEvent, LearnsEnd, PoolEvent, batches_offered, entries_given, events_at}
use Rattle.pool_core.specs.FromEmpty.{IsKnown}
use Rattle.pool_core.specs.Log.{LogEntry}
use Rattle.pool_core.specs.OneList.{AnsweredBefore, FailedUnsent, ListedAct, RequestName, Stands, StandsWith, at, listed_acts}
use Rattle.pool_core.specs.Pool.{Begins, IsPool, batches_by, count_given, count_offered, entry_of_batch}
use Rattle.pool_core.specs.Serves.{ServesPool, acts_in, airspace_at}
use Rattle.pool_core.specs.Timed.{ClockReading, HasTimes, IsMade, TakesTimes}

-- ---- the log

-- Holds if an instance did something.
abbrev pub HasActed : (instance : ℕ) → List PoolEvent → Type 0
HasActed i events = (event : InstanceEvent) × Contains (events_at i events) event

-- Holds if the end that the instance `i` learned, counted from the beginning of the log, is not
-- before any entry that some instance started with, if it had acted, or was given before the
-- question.
abbrev pub EndIsNotBehind : (offsets : ℕ → ℕ) → List PoolEvent → (i j : ℕ) → Type 0
EndIsNotBehind offsets events i j = (before between after : List PoolEvent) (question count : ℕ)
    → events ≡ before ++ record { instance = i; event = AsksForEnd question }
    ∷ (between ++ record { instance = i; event = LearnsEnd question count } ∷ after)
    → HasActed j before → offsets j + count_given j before ≤ offsets i + count

-- Holds if the events are those of instances that share one log of batches, each of which started
-- with so many of its first entries.
pub record IsPoolFrom (offsets : ℕ → ℕ) (events : List PoolEvent) : Type 0 where
  pub log : List Batch
  -- An instance starts with entries of the log.
  pub starts : (i : ℕ) → offsets i ≤ length log
  -- Each instance was given the entries behind those that it started with, in order.
  pub one : (i : ℕ) → Begins (entries_given (events_at i events))
      (map entry_of_batch (drop (offsets i) log))
  -- The batches of an instance in the log are the first ones that it offered, in order.
  pub own : (i : ℕ) → Begins (batches_by i log) (batches_offered i (events_at i events))
  -- Whenever an instance does something, the entries that it started with, and those that it was
  -- given, up to this event, were offered before.
  pub caused : (before : List PoolEvent) (e : PoolEvent) (after : List PoolEvent)
      → events ≡ before ++ e ∷ after → (writer : ℕ)
      → length (batches_by writer
      (take (offsets e.instance + count_given e.instance (before ++ e ∷ [])) log))
      ≤ count_offered writer before
  -- An end is not before an entry that was there before the question, and not after the last one.
  pub end : (i j : ℕ) → EndIsNotBehind offsets events i j
  pub within : (i question count : ℕ)
      → Contains events (record { instance = i; event = LearnsEnd question count })
      → offsets i + count ≤ length log

-- ---- the list

module _ (acts_of : List ℕ → List Act) (salt : List ℕ) (start : Airspace) where
  -- The airspace of a file with the first entries of the log.
  abbrev pub file_of : List Batch → (offset : ℕ) → Airspace
  file_of log offset = airspace_by salt start (acts_in acts_of (map entry_of_batch (take offset log)))

  -- Holds if the acts of the log, with readings between them, are one list of acts for the
  -- instances that serve, each of which started with its file.
  pub record IsOneListFrom (offsets : ℕ → ℕ) (serves : ℕ → Bool) (events : List PoolEvent)
      (log : List Batch) (list : List ListedAct) : Type 0 where
    pub logged : listed_acts (filter (λ listed. listed.logged) list)
        ≡ acts_in acts_of (map entry_of_batch log)
    pub others : (n : ℕ) (listed : ListedAct) → slice_get list n ≡ Some listed
        → listed.logged ≡ false → ((timed : TimedCall) × (listed.act ≡ Makes timed))
        × (x : RequestName) × (listed.request ≡ Some x) × (serves x.instance ≡ true)
        × ((basis : Basis) × (reply : Reply) × Contains events (at x (Answers x.id basis reply)))
    -- The act of a request is the call that was received. Its instance made it while the request was
    -- open, at the time that the act has.
    pub made : (x : RequestName) → serves x.instance ≡ true → (n : ℕ) (s : Stands list x n)
        → IsMade acts_of events x s.listed
    pub answered : (x : RequestName) (basis : Basis) (reply : Reply) → serves x.instance ≡ true
        → Contains events (at x (Answers x.id basis reply))
        → StandsWith acts_of salt start list x reply
    pub once : (x : RequestName) → serves x.instance ≡ true → (n k : ℕ) → Stands list x n
        → Stands list x k → n ≡ k
    pub unsent : (x : RequestName) → serves x.instance ≡ true → FailedUnsent events x → (n : ℕ)
        → Stands list x n → ⊥
    pub order : (x y : RequestName) → serves x.instance ≡ true → serves y.instance ≡ true
        → AnsweredBefore events x y → (n k : ℕ) → Stands list x n → Stands list y k → n < k
    -- The airspace of an instance, from its file and the entries that it was given, is the one
    -- after a beginning of the list.
    pub held : (i count : ℕ) → count ≤ count_given i events → (n : ℕ)
        × (airspace_by salt start (listed_acts (take n list))
        ≡ airspace_at acts_of salt (file_of log (offsets i)) (entries_given (events_at i events)) count)

-- States that the calls and purges of a pool are one list, in which each reply is that of the
-- policy, for instances that started from files of its log.
abbrev pub PoolFromFiles : Type 0
PoolFromFiles = (acts_of : List ℕ → List Act) (salt : List ℕ) (start : Airspace)
    (offsets : ℕ → ℕ) (serves : ℕ → Bool) (events : List PoolEvent)
    (pool : IsPoolFrom offsets events)
    → ((i : ℕ) → serves i ≡ true
    → ServesPool acts_of salt (file_of acts_of salt start pool.log (offsets i)) i (events_at i events))
    → (list : List ListedAct)
    × IsOneListFrom acts_of salt start offsets serves events pool.log list

-- States that an instance or a follower with a file, after entries behind it, has the airspace of the
-- file with these entries. So a file that it writes is one of the log, and a chain of files begins
-- with the first one.
abbrev pub FilesFollow : Type 0
FilesFollow = (acts_of : List ℕ → List Act) (salt : List ℕ) (start : Airspace) (log : List Batch)
    (offset count : ℕ) (entries : List LogEntry)
    → Begins entries (map entry_of_batch (drop offset log)) → count ≤ length entries
    → airspace_at acts_of salt (file_of acts_of salt start log offset) entries count
    ≡ file_of acts_of salt start log (offset + count)

-- States that each call of the list has a time that the clock of its instance gave, if the instances
-- take the times of their calls from their clocks.
abbrev pub ListHasTimes : Type 0
ListHasTimes = (acts_of : List ℕ → List Act) (salt : List ℕ) (start : Airspace)
    (offsets : ℕ → ℕ) (readings : List ClockReading)
    (serves : ℕ → Bool) (events : List PoolEvent) (log : List Batch) (list : List ListedAct)
    → IsOneListFrom acts_of salt start offsets serves events log list
    → TakesTimes acts_of readings serves events → HasTimes acts_of readings serves events list

-- States that each airspace that an instance holds is known from a beginning of the list, if the log
-- began with the empty airspace, which may have any serial. So Aware and Count hold of it.
abbrev pub FromFilesIsKnown : Type 0
FromFilesIsKnown = (acts_of : List ℕ → List Act) (salt : List ℕ) (serial : ℕ) (offsets : ℕ → ℕ)
    (serves : ℕ → Bool) (events : List PoolEvent) (log : List Batch) (list : List ListedAct)
    → IsOneListFrom acts_of salt (empty_at serial) offsets serves events log list → (i count : ℕ)
    → count ≤ count_given i events → (n : ℕ)
    × IsKnown salt (empty_at serial) (listed_acts (take n list))
    (airspace_at acts_of salt (file_of acts_of salt (empty_at serial) log (offsets i))
    (entries_given (events_at i events)) count)

-- States that a pool whose instances all start at the beginning of the log is the case in which
-- each offset is 0.
abbrev pub FromBeginning : Type 0
FromBeginning = (events : List PoolEvent) (pool : IsPool events)
    → (from : IsPoolFrom (λ i. 0) events) × (from.log ≡ pool.log)
