-- What a database does besides answering requests.
use Rattle.std.specs.Prelude.{◌≡◌, ◌⊎◌, ◌-◌, ℕ, Bool, true, false, Option, Some, None, Result, Ok, Err, IfSome, IsSome, option_and_then}
use Rattle.std.specs.declared.time.Duration.{Duration}
use Rattle.space_core.specs.declared.group_commit.GroupCommit as commits
use Rattle.space_core.specs.declared.space.Space as spaces
use Rattle.service_calls.specs.declared.service.Service.{Service}
use Rattle.service_calls.specs.Purged.{IsPurge}
use Rattle.server_backend.specs.declared.progress.Progress.{Progress}
use Rattle.server_watch.specs.StoreWatch.{outcome_of_purge}
use Rattle.server_watch.specs.declared.purge_fault.PurgeFault.{PurgeFault}
use Rattle.server_watch.specs.declared.purge_fault.PurgeFault.TheVariants as fault
use Rattle.database_backend.specs.Database.{is_open_in, plan_of, retention_of, service_of}
use Rattle.database_backend.specs.PurgePlan.{IsDue, IsEarly, IsLeft, IsPlanned}
use Rattle.database_backend.specs.declared.database.Database.{Database}

-- The maximum number of items that a chunk removes.
abbrev pub chunk_size : ℕ
chunk_size = 16

module _ {S : Type 0} (g : spaces.Ghosts S) (k : commits.Ghosts S) where
  -- Holds if this is the result of a purge chunk: the number of items that it purged, up to a time
  -- of the clock less the retention in seconds, or why it purged none. If the clock returned no
  -- time, nothing was purged.
  abbrev pub IsChunk : (retention : ℕ) → (moment : Option ℕ) → Result ℕ PurgeFault → Service S
      → Service S → Type 0
  IsChunk retention None (Ok count) old new = ⊥
  IsChunk retention None (Err fault.Clock) old new = new ≡ old
  IsChunk retention None (Err (fault.Space why)) old new = ⊥
  IsChunk retention (Some time) (Ok count) old new =
      IsPurge g k (time - retention) chunk_size old new (Ok count)
  IsChunk retention (Some time) (Err fault.Clock) old new = ⊥
  IsChunk retention (Some time) (Err (fault.Space why)) old new =
      IsPurge g k (time - retention) chunk_size old new (Err why)

  -- Holds if this is the result of the chunk, if one ran. Otherwise the service is unchanged.
  abbrev pub TellsChunk : (retention moment : Option ℕ) → Option (Result ℕ PurgeFault) → Service S
      → Service S → Type 0
  TellsChunk retention moment None old new = new ≡ old
  TellsChunk None moment (Some result) old new = ⊥
  TellsChunk (Some retention) moment (Some result) old new = IsChunk retention moment result old new

-- Holds if a chunk is due: there is a retention, no call was made since the last commit, and the
-- plan says so.
pub record IsChunkDue {S : Type 0} (now : Duration) (d : Database S) : Type 0 where
  pub retains : IsSome (retention_of d)
  pub closed : is_open_in d ≡ false
  pub due : IsDue (plan_of d) now

-- Holds if no chunk is due, though there may be a retention.
abbrev pub IsChunkEarly : {S : Type 0} → (now : Duration) → Database S → Type 0
IsChunkEarly now d = (is_open_in d ≡ true) ⊎ IsEarly (plan_of d) now

module _ {S : Type 0} (g : spaces.Ghosts S) (k : commits.Ghosts S) where
  -- Holds if a chunk was purged if one was due and purges were not held, and the next one was
  -- planned. What a purge removed is reported when it ends.
  pub record MakesProgress (moment : Option ℕ) (held : Bool) (now : Duration) (d d' : Database S)
      (made : Progress) : Type 0 where
    pub store : made.store ≡ option_and_then outcome_of_purge made.purged
    pub tells : TellsChunk g k (retention_of d) moment made.purged (service_of d) (service_of d')
    pub due : IfSome made.purged (λ _. IsChunkDue now d)
    pub runs : IsChunkDue now d → held ≡ false → IsSome made.purged
    pub plans : IsChunkDue now d → IsPlanned made.purged now (plan_of d) (plan_of d') made.removed
    pub left : IsSome (retention_of d) → IsChunkEarly now d → IsLeft (plan_of d) (plan_of d')
    pub reports : IfSome made.removed (λ _. IsChunkDue now d)
