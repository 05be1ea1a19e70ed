-- What `serve` leaves in the files of a database, and what the next start finds there.
use Rattle.std.specs.Prelude.{IsTrue, ℕ, List, Option, Ok, Err}
use mathlib.Core.Logic.{inl, inr}
use Rattle.sqlite_disk.specs.declared.Disk as disk
use Rattle.sqlite_disk.specs.declared.Files.{Files}
use Rattle.sqlite_store.specs.declared.store.FileStore.{FileStore}
use Rattle.sqlite_store.specs.FileStore as store
use Rattle.sqlite_trees.specs.View.{IsClean}
use Rattle.sqlite.specs.Recovery.{Image}
use Rattle.sqlite.specs.WalReads.{AreClean}
use Rattle.entity_core.specs.Airspace.{Airspace}
use Rattle.service_recovery.specs.Crash.{quota_pending_of}
use Rattle.service_recovery.specs.Life.{MayCome, Run, StandFor, run_purged, unasked}
use Rattle.space_core.specs.Space.{IsContent}
use Rattle.space_core.specs.declared.group_commit.GroupCommit as settles
use Rattle.space_core.specs.declared.space.Space as spaces
use Rattle.space_sql.specs.Found.{FindsSpelt}
use Rattle.space_sql.specs.Holding.{SqlSpaceModel}
use Rattle.space_sql.specs.Restart.{FilesHave, FilesLeft, without_log}
use Rattle.space_sql.specs.declared.left_files.LeftFiles.{LeftFiles}
use Rattle.space_sql.specs.declared.left_files.LeftFiles.TheVariants.{Nothing, Closed, Unclosed}
use Rattle.wire_http.specs.declared.moments.Moments as moments
use Rattle.server_base.specs.History.{HistoryEvent}
use Rattle.server_watch.specs.declared.token_watch.TokenSource as sources
use Rattle.server_watch.specs.declared.token_watch.TokenWatch.{TokenWatch}
use Rattle.server_backend.specs.declared.backend.Backend as backends
use Rattle.database_backend.specs.declared.database.Database.{Database}
use Rattle.server_clients.specs.ServerEvents.{Setup}
use Rattle.dss_command.specs.Service.{MayServe, ServesClients, first_of}
use Rattle.dss_database.specs.Files.{ClosesServed, ServedModel}
use Rattle.dss_database.specs.declared.failure.Failure.{Failure}

-- Holds if the next start finds an airspace that may result, in this run, from the one that the
-- files represented, and no other. The replies that the run delivered are those of the policy on
-- the way to it.
abbrev pub FindsAgain : {T : Type 0} → spaces.Ghosts (SqlSpaceModel T) → (before : Image) → Run
    → (after : Image) → Type 0
FindsAgain {T} again before run after =
    (a : Airspace) → StandFor before a
    → (next : SqlSpaceModel T) → FindsSpelt after again next → again.is_sound next
    → ∥ ((b : Airspace) × MayCome a run b × IsContent again.holds next b) ∥₁

module _ {S T M W : Type 0} (space : spaces.Ghosts S) (waiting : settles.Ghosts S)
    (b : backends.Ghosts (Database S)) (m : moments.Ghosts M) (t : sources.Ghosts W)
    (setup : Setup) (keep : Option ℕ) (watch : TokenWatch W)
    (again : spaces.Ghosts (SqlSpaceModel T)) (clock clock' : M)
    (past now : Option (List HistoryEvent)) (before after : Image) where
  -- The batches of a server that answered clients, with the purges between them.
  abbrev pub run_served : {first last : S}
      → ServesClients space waiting b m t setup keep watch first last clock clock' past now → Run
  run_served clients = run_purged (first_of clients) clients.calls.serves.segments
      clients.calls.serves.batches

  -- The same. If nothing was done, it is a run without calls.
  abbrev pub run_if_served : {first last : S}
      → MayServe space waiting b m t setup keep watch first last clock clock' past now → Run
  run_if_served (inl none) = unasked
  run_if_served (inr clients) = run_served clients

  -- States what is known of the files of a database that was served and closed. Clients were
  -- answered in batches, with purges between them: `clients.calls` states that each client was sent
  -- the texts of the replies that the batches delivered. The next start finds a possible result of
  -- these batches, with these replies, even if the log is missing.
  pub record ServedIsFound : Type 0 where
    pub first : S
    pub last : S
    pub clients : ServesClients space waiting b m t setup keep watch first last clock clock' past now
    pub found : FindsAgain again before (run_served clients) after
    pub without_log : FindsAgain again before (run_served clients) (without_log after)

  -- States what is known of the files of a database if `serve` failed: the next start finds a
  -- possible result of the batches of the clients that were answered, with the replies that they
  -- delivered.
  pub record FailedIsFound : Type 0 where
    pub first : S
    pub last : S
    pub clients : MayServe space waiting b m t setup keep watch first last clock clock' past now
    pub found : FindsAgain again before (run_if_served clients) after

-- Holds if `ServedIsFound` is true of what `opened` opens and `serve` then closes, over files whose
-- disk returned what was written.
abbrev pub NextStartFinds : {D T M W : Type 0} {g : disk.Ghosts D}
    → spaces.Ghosts (SqlSpaceModel (FileStore D g)) → spaces.Ghosts (ServedModel (FileStore D g))
    → backends.Ghosts (Database (ServedModel (FileStore D g))) → moments.Ghosts M
    → sources.Ghosts W → spaces.Ghosts (SqlSpaceModel T) → Type 0
NextStartFinds {D} {T} {M} {W} {g} tables space b m t again =
    (before after : Image) (setup : Setup) (keep : Option ℕ) (watch : TokenWatch W)
    (opened : SqlSpaceModel (FileStore D g)) (clock clock' : M)
    (past now : Option (List HistoryEvent)) (files : Files D)
    → FindsSpelt before tables opened
    → ClosesServed tables space b m t setup keep watch opened clock clock' past now (Ok files)
    → AreClean g files.log files.db → FilesHave g files after
    → ServedIsFound space (quota_pending_of tables) b m t setup keep watch again clock clock'
    past now before after

-- ---- after a failure, or after the machine stopped

-- Holds if what is left of the files has this content. Closed files have their own. If the close
-- failed, it is what a crash leaves of them, under the condition of `KeepsTrees`. A machine that
-- stops is a disk on which every later call fails, the close included.
abbrev pub AreLeft : {D : Type 0} {g : disk.Ghosts D} → LeftFiles D g → (after : Image) → Type 0
AreLeft Nothing after = ⊥
AreLeft {D} {g} (Closed files) after = AreClean g files.log files.db × FilesHave g files after
AreLeft (Unclosed last) after =
    IsClean (store.view last) × IsTrue (store.view last).is_numbered × FilesLeft last after

-- Holds if `FailedIsFound` is true of what `opened` opens, and of what is left of its files when
-- `serve` fails.
abbrev pub NextStartFindsLeft : {D T M W : Type 0} {g : disk.Ghosts D}
    → spaces.Ghosts (SqlSpaceModel (FileStore D g)) → spaces.Ghosts (ServedModel (FileStore D g))
    → backends.Ghosts (Database (ServedModel (FileStore D g))) → moments.Ghosts M
    → sources.Ghosts W → spaces.Ghosts (SqlSpaceModel T) → Type 0
NextStartFindsLeft {D} {T} {M} {W} {g} tables space b m t again =
    (before after : Image) (setup : Setup) (keep : Option ℕ) (watch : TokenWatch W)
    (opened : SqlSpaceModel (FileStore D g)) (clock clock' : M)
    (past now : Option (List HistoryEvent)) (failure : Failure D g)
    → FindsSpelt before tables opened
    → ClosesServed tables space b m t setup keep watch opened clock clock' past now (Err failure)
    → AreLeft failure.left after
    → FailedIsFound space (quota_pending_of tables) b m t setup keep watch again clock clock'
    past now before after
