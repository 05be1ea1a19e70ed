-- What the commands over a database return, given the contents of its files, and what they leave
-- there.
use Rattle.std.specs.Prelude.{◌≡◌, ◌⊎◌, ℕ, Bool, List, Option, false, Result, Ok, Err, OnOk, OnErr, IfErr, IsTrue, codes}
use Rattle.std.specs.Io.KnownBytes.{Appends}
use Rattle.sqlite_disk.specs.declared.Disk as disk
use Rattle.sqlite_disk.specs.declared.Files.{Files}
use Rattle.sqlite_store.specs.declared.store.FileStore.{FileStore}
use Rattle.sqlite_store.specs.FileStore as store
use Rattle.sqlite_trees.specs.Tree.{Trees}
use Rattle.sqlite_trees.specs.View.{IsClean}
use Rattle.sqlite.specs.Recovery.{Image}
use Rattle.sqlite.specs.WalReads.{AreClean}
use Rattle.entity_core.specs.Airspace.{Airspace}
use Rattle.entity_purge.specs.Purge.{IsPartlyPurged, purged}
use Rattle.service_recovery.specs.Crash.{quota_pending_of}
use Rattle.service_recovery.specs.Life.{StandFor}
use Rattle.space_core.specs.declared.space.Space as spaces
use Rattle.space_core.specs.Space.{Reads}
use Rattle.space_core.specs.declared.space.SpaceFault.{SpaceFault}
use Rattle.space_sql_open.specs.declared.open_fault.OpenFault.{OpenFault}
use Rattle.space_sql_load.specs.Checking.{loaded_airspace}
use Rattle.space_sql_load.specs.declared.table_check.LoadedAirspace.{LoadedAirspace}
use Rattle.space_quota.specs.QuotaSpace.{QuotaModel}
use Rattle.space_mirror.specs.Mirrored.{MirroredModel, is_pending_in}
use Rattle.space_sql.specs.Closing.{ClosesRemains, KeepsFiles}
use Rattle.space_sql.specs.FailedOpen.{RefusesOpening}
use Rattle.space_sql.specs.Found.{AreUnmade, FilesSpell, FindsSpelt, KeepsAs}
use Rattle.space_sql.specs.Holding.{SqlSpaceModel}
use Rattle.space_sql.specs.Restart.{ClosesFiles, FilesHave, FilesLeft, LeavesFiles, without_log}
use Rattle.space_sql.specs.declared.failed_open.FailedOpen.{FailedOpen}
use Rattle.space_sql.specs.declared.left_files.LeftFiles.{LeftFiles}
use Rattle.space_sql.specs.declared.left_files.LeftFiles.TheVariants.{Nothing, Closed, Unclosed}
use Rattle.space_sql_schema.specs.declared.format.Format.{Format}
use Rattle.space_sql_schema.specs.declared.format.Format.TheVariants.{One, TwoUnindexed, Two, OldOne, OldTwoUnindexed, OldTwo}
use Rattle.token_conf.specs.TokenFile.{TokenFile}
use Rattle.wire_http.specs.declared.moments.Moments as moments
use Rattle.dss_command.specs.Print.{WritesReport, purged_line}
use Rattle.server_base.specs.History.{HistoryEvent}
use Rattle.server_watch.specs.declared.token_watch.TokenSource as sources
use Rattle.server_watch.specs.declared.token_watch.TokenWatch.{TokenWatch}
use Rattle.server_backend.specs.declared.backend.Backend as backends
use Rattle.database_backend.specs.declared.database.Database.{Database as ServedDatabase}
use Rattle.server_clients.specs.ServerEvents.{Setup}
use Rattle.dss_command.specs.Service.{MayServe, ServesClients}
use Rattle.dss_command.specs.PurgeCounts.{IsLess}
use Rattle.dss_command.specs.Purging.{PurgesSpace}
use Rattle.dss_command.specs.declared.purged.PurgeCounts.{PurgeCounts}
use Rattle.dss_command.specs.Stream.{ServesOver, ServesPartOver}
use Rattle.dss_command.specs.declared.fault.Fault.{Fault}
use Rattle.dss_command.specs.declared.fault.Fault.TheVariants.{Database, DatabaseFailed, Memory, Output}
use Rattle.dss_database.specs.declared.failure.Failure.{Failure}

-- The line that is printed for a database that had this format.
abbrev pub format_line : Format → List ℕ
format_line One = codes "format 2, was 1\n"
format_line TwoUnindexed = codes "format 2\n"
format_line Two = codes "format 2\n"
format_line OldOne = codes "format 2, was 1\n"
format_line OldTwoUnindexed = codes "format 2\n"
format_line OldTwo = codes "format 2\n"

-- Holds if the database could not be opened.
abbrev pub IsRefusal : Fault → Type 0
IsRefusal fault = (why : OpenFault) × (fault ≡ Database why)

-- Holds if the database could not be opened, or failed later.
abbrev pub IsOfDatabase : Fault → Type 0
IsOfDatabase fault = IsRefusal fault ⊎ (fault ≡ DatabaseFailed)

module _ {D : Type 0} {g : disk.Ghosts D} where
  -- Holds if files with this content could not be opened: the fault is right for an opening of
  -- them, which left something of them, and closing that left this. If nothing is left, only the
  -- fault `Store` is claimed: no clause shows that no file was opened.
  abbrev pub RefusesDatabase : Image → Failure D g → Type 0
  RefusesDatabase image failure =
      (remains : FailedOpen D g) × (why : OpenFault) × (failure.fault ≡ Database why)
      × RefusesOpening image remains why × ClosesRemains remains failure.left

  -- Holds if this is left of the files of a space that was closed. If the close failed, a crash
  -- leaves nothing else of them than of the space.
  abbrev pub LeavesSpace : SqlSpaceModel (FileStore D g) → LeftFiles D g → Type 0
  LeavesSpace k Nothing = ⊥
  LeavesSpace k (Closed files) = ClosesFiles k files
  LeavesSpace k (Unclosed last) = KeepsFiles k last

  -- How a command ends that closes its space last, given the result of its work: with the fault of
  -- the work, or otherwise as the close does. What is left of the files is what the space held.
  abbrev pub EndsClosing : Result (Unit {0}) Fault → SqlSpaceModel (FileStore D g)
      → Result (Files D) (Failure D g) → Type 0
  EndsClosing (Err why) k (Ok files) = ⊥
  EndsClosing (Err why) k (Err failure) = (failure.fault ≡ why) × LeavesSpace k failure.left
  EndsClosing (Ok x) k (Ok files) = ClosesFiles k files
  EndsClosing (Ok x) k (Err failure) =
      (failure.fault ≡ DatabaseFailed) × LeavesSpace k failure.left

  -- Holds if what is left of the files represents, in format 2, an airspace with this property and
  -- no other. Closed files do so also without their log. It applies as long as the disk returned
  -- what was written. After a failed close it applies to what the store says that a crash leaves,
  -- and to the files that a crash leaves under the condition of `KeepsTrees`.
  abbrev pub StandOnlyFor : (Airspace → Type 0) → LeftFiles D g → Type 0
  StandOnlyFor P Nothing = ⊥
  StandOnlyFor P (Closed files) =
      AreClean g files.log files.db → (left : Image) → FilesHave g files left
      → ∥ ((b : Airspace) × P b × FilesSpell Two left b × FilesSpell Two (without_log left) b) ∥₁
  StandOnlyFor P (Unclosed last) =
      IsClean (store.view last)
      → ((db : Trees) → store.recovers last db → (b : Airspace) × P b × KeepsAs Two db b)
      × (IsTrue (store.view last).is_numbered → (left : Image) → FilesLeft last left
      → ∥ ((b : Airspace) × P b × FilesSpell Two left b) ∥₁)

  -- Holds if what is left of the files represents the airspace that they stood for.
  abbrev pub KeepsAirspaceIn : Image → LeftFiles D g → Type 0
  KeepsAirspaceIn image left =
      (a : Airspace) → StandFor image a → StandOnlyFor (λ b. b ≡ a) left

-- States that the output is the report of the airspace of the space, or the cells of its
-- references. The space was only read.
pub record ReportsSpace {S : Type 0} (space : spaces.Ghosts S) (places : Bool)
    (before after : Option (List ℕ)) (old new : S) (done : Result (Unit {0}) Fault) : Type 0 where
  pub sound : space.is_sound new → space.is_sound old
  pub whole : space.is_sound new → space.is_whole old → space.is_whole new
  pub no_other : space.is_sound new → (a : Airspace) → space.holds new a → space.holds old a
  pub told : OnOk done (space.is_sound new → (a : Airspace) → space.holds old a
      → WritesReport places a before after)
  pub fault : IfErr done (λ fault. (fault ≡ DatabaseFailed) ⊎ (fault ≡ Memory) ⊎ (fault ≡ Output))

module _ {D : Type 0} (g : disk.Ghosts D) (image : Image) where
  -- Holds if the files, also without their log, represent in format 2 the same airspace as before.
  -- It applies as long as the disk returned what was written.
  abbrev pub KeepsAirspace : Files D → Type 0
  KeepsAirspace files =
      AreClean g files.log files.db → (a : Airspace) → StandFor image a
      → (left : Image) → FilesHave g files left
      → ∥ (FilesSpell Two left a × FilesSpell Two (without_log left) a) ∥₁

  -- States that the output is the report of the airspace that the files represented, or the cells
  -- of its references. The files still represent that airspace.
  pub record ReportsFiles (places : Bool) (before after : Option (List ℕ)) (files : Files D)
      : Type 0 where
    pub told : AreClean g files.log files.db → (a : Airspace) → StandFor image a
        → WritesReport places a before after
    pub kept : KeepsAirspace files

  -- States that the output is the line of the format in which the files represented an airspace, or
  -- of format 2 if they had no table. The files now represent it in format 2.
  pub record UpgradesFiles (before after : Option (List ℕ)) (files : Files D) : Type 0 where
    pub told : AreClean g files.log files.db
        → (format : Format) (a : Airspace) → FilesSpell format image a
        → Appends before after (format_line format)
    pub made : AreClean g files.log files.db → AreUnmade image
        → Appends before after (format_line Two)
    pub kept : KeepsAirspace files

  -- States that the output is the line of what a purge removed from the airspace of the files. The
  -- files, also without their log, represent in format 2 the airspace after the purge. This applies
  -- as long as the disk returned what was written.
  pub record PurgesFiles (until : ℕ) (before after : Option (List ℕ)) (files : Files D)
      : Type 0 where
    pub told : AreClean g files.log files.db → (a : Airspace) → StandFor image a
        → (told : PurgeCounts) × IsLess a (purged until a) told × Appends before after (purged_line told)
    pub left : AreClean g files.log files.db → (a : Airspace) → StandFor image a
        → (left : Image) → FilesHave g files left
        → ∥ (FilesSpell Two left (purged until a)
        × FilesSpell Two (without_log left) (purged until a)) ∥₁

-- States that a space was opened from files, purged completely or partly, and closed, successfully
-- or not. The files, after a close or after a crash, represent in format 2 a partly purged state of
-- the airspace that they represented. So does what is left of them.
pub record PurgesPartly {D : Type 0} {g : disk.Ghosts D}
    (tables : spaces.Ghosts (SqlSpaceModel (FileStore D g))) (image : Image) (until : ℕ)
    (left : LeftFiles D g) : Type 0 where
  pub opened : SqlSpaceModel (FileStore D g)
  pub finds : FindsSpelt image tables opened
  pub new : SqlSpaceModel (FileStore D g)
  pub done : Result PurgeCounts SpaceFault
  pub purged : PurgesSpace tables until opened new done
  pub closed : (files : Files D) → ClosesFiles new files → AreClean g files.log files.db
      → (a : Airspace) → StandFor image a → (left : Image) → FilesHave g files left
      → ∥ ((b : Airspace) × IsPartlyPurged until a b
      × FilesSpell Two left b × FilesSpell Two (without_log left) b) ∥₁
  pub crashed : (last : FileStore D g) → LeavesFiles new last → IsClean (store.view last)
      → (a : Airspace) → StandFor image a → (left : Image) → FilesLeft last left
      → ∥ ((b : Airspace) × IsPartlyPurged until a b × FilesSpell Two left b) ∥₁
  pub kept : (a : Airspace) → StandFor image a → StandOnlyFor (IsPartlyPurged until a) left

-- States how a command ends that served a stream over a space, or its first requests, and closed
-- the space last.
pub record ServesClosing {D : Type 0} {g : disk.Ghosts D}
    (space : spaces.Ghosts (SqlSpaceModel (FileStore D g))) (tokens : TokenFile) (now : ℕ)
    (remaining before after : Option (List ℕ)) (old : SqlSpaceModel (FileStore D g))
    (result : Result (Files D) (Failure D g)) : Type 0 where
  pub new : SqlSpaceModel (FileStore D g)
  pub done : Result (Unit {0}) Fault
  pub served : OnOk done (ServesOver space tokens now remaining before after old new)
  pub part : IfErr done (ServesPartOver space tokens now remaining before after old new)
  pub closed : EndsClosing done new result

-- The space of `serve` over tables in a store: a mirror and a quota above them.
abbrev pub ServedModel : Type 0 → Type 0
ServedModel S = QuotaModel (MirroredModel (SqlSpaceModel S))

-- States that the clients of a port were answered over a mirrored space over tables. The space was
-- read at most once for the mirror. All calls were in batches that have ended, with purges between
-- them. Then the space is returned, without the mirror.
--
-- `first` is the space, with its mirror, before the first call, and `last` the one after the last.
-- After `Ok` (`served`), the clients were answered from `first` to `last`. After `Err` (`part`),
-- they were so, or nothing was done.
pub record ServesMirrored {S M T : Type 0} (tables : spaces.Ghosts (SqlSpaceModel S))
    (space : spaces.Ghosts (ServedModel S)) (b : backends.Ghosts (ServedDatabase (ServedModel S)))
    (m : moments.Ghosts M) (t : sources.Ghosts T) (setup : Setup) (keep : Option ℕ)
    (watch : TokenWatch T) (old new : SqlSpaceModel S) (clock clock' : M)
    (past now : Option (List HistoryEvent)) (done : Result (Unit {0}) Fault) : Type 0 where
  pub first : ServedModel S
  pub last : ServedModel S
  pub answer : Result LoadedAirspace SpaceFault
  pub reads : Reads tables.holds tables.is_sound tables.is_whole old first.space.store answer
      (λ a found. loaded_airspace found ≡ a)
  pub calm : is_pending_in first.space ≡ false
  pub served : OnOk done (ServesClients space (quota_pending_of tables) b m t setup keep watch
      first last clock clock' past now)
  pub part : OnErr done (MayServe space (quota_pending_of tables) b m t setup keep watch
      first last clock clock' past now)
  pub sound : tables.is_sound last.space.store → space.is_sound last
  pub released : new ≡ last.space.store

-- States the same, and that the space over tables was closed last.
pub record ClosesServed {D M T : Type 0} {g : disk.Ghosts D}
    (tables : spaces.Ghosts (SqlSpaceModel (FileStore D g)))
    (space : spaces.Ghosts (ServedModel (FileStore D g)))
    (b : backends.Ghosts (ServedDatabase (ServedModel (FileStore D g))))
    (m : moments.Ghosts M) (t : sources.Ghosts T) (setup : Setup) (keep : Option ℕ)
    (watch : TokenWatch T) (old : SqlSpaceModel (FileStore D g)) (clock clock' : M)
    (past now : Option (List HistoryEvent)) (result : Result (Files D) (Failure D g))
    : Type 0 where
  pub new : SqlSpaceModel (FileStore D g)
  pub done : Result (Unit {0}) Fault
  pub served : ServesMirrored tables space b m t setup keep watch old new clock clock' past now done
  pub closed : EndsClosing done new result
