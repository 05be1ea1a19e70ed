-- Definitions of the effects of a service over files whose changes can be pending until a batch
-- ends.
use Rattle.std.specs.Prelude.{◌≡◌, List, [], ◌∷◌, ◌++◌, false}
use Rattle.sqlite_disk.specs.declared.Disk as disk
use Rattle.sqlite_disk.specs.declared.Files.{Files}
use Rattle.sqlite_store.specs.declared.store.FileStore.{FileStore}
use Rattle.sqlite_store.specs.FileStore as store
use Rattle.sqlite_trees.specs.View.{IsClean}
use Rattle.sqlite.specs.Recovery.{Image}
use Rattle.sqlite.specs.WalReads.{AreClean}
use Rattle.entity_core.specs.Airspace.{Airspace}
use Rattle.space_core.specs.declared.space.Space as spaces
use Rattle.service_calls.specs.declared.service.Service.{Service}
use Rattle.service_calls.specs.Held.{is_shut, space_of}
use Rattle.service_calls.specs.Batches.{CallRecord, CalledInOrder, MadeBatches, Batch, uncommitted}
use Rattle.service_calls.specs.Purged.{MadeSegments, Segment}
use Rattle.space_quota.specs.QuotaSpace.{QuotaModel}
use Rattle.space_mirror.specs.Mirrored.{MirroredModel, is_pending_in}
use Rattle.space_sql.specs.Found.{FindsSpelt}
use Rattle.space_sql.specs.Holding.{SqlSpaceModel}
use Rattle.space_sql.specs.Restart.{ClosesFiles, FilesHave, FilesLeft, LeavesFiles, without_log}
use Rattle.service_recovery.specs.Crash.{quota_pending_of}
use Rattle.service_recovery.specs.Life.{Continues, Run, run_purged}

-- Holds if a sound and whole space holds some airspace.
abbrev pub SomeIsHeld : {S : Type 0} → spaces.Ghosts S → Type 0
SomeIsHeld {S} space =
    (s : S) → space.is_sound s → space.is_whole s → ∥ ((a : Airspace) × space.holds s a) ∥₁

-- Holds if calls that only read may leave this of a space: it holds only what it held, and is whole
-- if it was.
pub record IsOnlyRead {S : Type 0} (space : spaces.Ghosts S) (old new : S) : Type 0 where
  pub sound : space.is_sound new → space.is_sound old
  pub whole : space.is_sound new → space.is_whole old → space.is_whole new
  pub no_other : space.is_sound new → (a : Airspace) → space.holds new a → space.holds old a

module _ {D : Type 0} {g : disk.Ghosts D} (tables : spaces.Ghosts (SqlSpaceModel (FileStore D g)))
    (space : spaces.Ghosts (QuotaModel (MirroredModel (SqlSpaceModel (FileStore D g))))) where
  -- Holds if a service starts over files: a space was adopted over them, and only read since. Above
  -- it stand a mirror in memory and a quota for each USS. No change is pending.
  pub record StartsOver (image : Image) (old : Service (QuotaModel (MirroredModel (SqlSpaceModel (FileStore D g))))) : Type 0 where
    pub opened : SqlSpaceModel (FileStore D g)
    pub finds : FindsSpelt image tables opened
    pub read : IsOnlyRead tables opened (space_of old).space.store
    pub calm : is_pending_in (space_of old).space ≡ false
    pub goes : is_shut old ≡ false

  -- Holds if the space is sound whenever the space over tables in it is, as the contract of
  -- `Mirrored::into_store` provides.
  abbrev pub IsSoundByStore : QuotaModel (MirroredModel (SqlSpaceModel (FileStore D g))) → Type 0
  IsSoundByStore k = tables.is_sound k.space.store → space.is_sound k

  -- A run of a service over files, in the order in which things happen. A service started over
  -- files and received batches of calls. After some batches, it purged some of what had ended. The
  -- last calls were ended by no commit, so their pending changes are lost. `old` starts over the
  -- files, `segments` lead from `old` to `purged`, `batches` from there to `mid`, and the open batch
  -- `calls` to `new`.
  pub record RunOver (before : Image) : Type 0 where
    pub old : Service (QuotaModel (MirroredModel (SqlSpaceModel (FileStore D g))))
    pub purged : Service (QuotaModel (MirroredModel (SqlSpaceModel (FileStore D g))))
    pub mid : Service (QuotaModel (MirroredModel (SqlSpaceModel (FileStore D g))))
    pub new : Service (QuotaModel (MirroredModel (SqlSpaceModel (FileStore D g))))
    pub segments : List Segment
    pub batches : List Batch
    pub calls : List CallRecord
    pub starts : StartsOver before old
    pub segments_made : MadeSegments space (quota_pending_of tables) old segments purged
    pub batches_made : MadeBatches space (quota_pending_of tables) purged batches mid
    pub calls_made : CalledInOrder space (quota_pending_of tables) mid calls new
    pub sound : IsSoundByStore (space_of new)

  -- The salt, the segments and the batches of a run.
  abbrev pub run_over : {before : Image} → RunOver before → Run
  run_over run = run_purged run.old run.segments (run.batches ++ uncommitted run.calls ∷ [])

  -- The space over tables after a run.
  abbrev pub tables_after : {before : Image} → RunOver before → SqlSpaceModel (FileStore D g)
  tables_after run = (space_of run.new).space.store

  -- States that a run continues its files: the space over tables was abandoned, and a crash left
  -- what it can of the files. `last` is what the space leaves of its store, and `after` is what a
  -- crash leaves of that.
  abbrev pub ContinuesInBatches : Type 0
  ContinuesInBatches =
      (before after : Image) (run : RunOver before) (last : FileStore D g)
      → LeavesFiles (tables_after run) last → IsClean (store.view last) → FilesLeft last after
      → Continues before (run_over run) after

  -- The same if the space was closed, even if the log is gone then.
  abbrev pub ContinuesInBatchesClosed : Type 0
  ContinuesInBatchesClosed =
      (before after : Image) (run : RunOver before) (files : Files D)
      → ClosesFiles (tables_after run) files → AreClean g files.log files.db
      → FilesHave g files after
      → Continues before (run_over run) after × Continues before (run_over run) (without_log after)
