-- Definitions of what a close leaves of the files, whether it succeeds or fails.
use Rattle.std.specs.Prelude.{◌≡◌, IsTrue}
use Rattle.sqlite_disk.specs.declared.Disk as disk
use Rattle.sqlite_disk.specs.declared.Files.{Files}
use Rattle.sqlite_store.specs.declared.store.FileStore.{FileStore}
use Rattle.sqlite_store.specs.FileStore as store
use Rattle.sqlite_trees.specs.Tree.{Trees}
use Rattle.sqlite_trees.specs.View.{IsClean}
use Rattle.sqlite.specs.Closing.{files_left}
use Rattle.sqlite.specs.Files.{HoldsDatabase, file_state, over_files}
use Rattle.sqlite.specs.Held.{Held}
use Rattle.sqlite.specs.Recovery.{Image}
use Rattle.sqlite.specs.State.{HasCleanDisk}
use Rattle.sqlite.specs.WalReads.{AreClean}
use Rattle.space_sql.specs.Holding.{SqlSpaceModel, is_sound_of}
use Rattle.space_sql.specs.Restart.{FilesHave, LeavesFiles, LeavesTrees, without_log}
use Rattle.space_sql.specs.declared.failed_open.FailedOpen.{FailedOpen}
use Rattle.space_sql.specs.declared.failed_open.FailedOpen.TheVariants as of
use Rattle.space_sql.specs.declared.left_files.LeftFiles.{LeftFiles}
use Rattle.space_sql.specs.declared.left_files.LeftFiles.TheVariants.{Nothing, Closed, Unclosed}

module _ {D : Type 0} {g : disk.Ghosts D} where
  -- Holds if the files of a closed connection hold a database that a crash of the connection may
  -- have left, with or without their log.
  pub record ClosesTrees (conn : Held (FileStore D g)) (files : Files D) : Type 0 where
    pub clean : AreClean g files.log files.db → HasCleanDisk (file_state conn)
    pub is_open : AreClean g files.log files.db → IsTrue (file_state conn).is_open
    pub found : AreClean g files.log files.db → (image : Image) → FilesHave g files image
        → ∥ ((db : Trees) × (file_state conn).may_leave db × HoldsDatabase image db
        × HoldsDatabase (without_log image) db) ∥₁

  -- Holds if the close of a connection failed, and a crash leaves of the store only what a crash of
  -- the connection may have left. The files then hold such a database if each tree of the store
  -- still has its number in the catalog. `sqlite` states that of a store that a connection gives
  -- up, and not of one that a failed close returns.
  pub record KeepsTrees (conn : Held (FileStore D g)) (last : FileStore D g) : Type 0 where
    pub clean : IsClean (store.view last) → HasCleanDisk (file_state conn)
    pub kept : (db : Trees) → store.recovers last db → (file_state conn).may_leave db
    pub trees : IsTrue (store.view last).is_numbered → LeavesTrees conn last

  -- Holds if the close of a space failed, and a crash leaves of the store only what a crash of the
  -- space may have left. The files then represent what the space held, under the same condition.
  pub record KeepsFiles (k : SqlSpaceModel (FileStore D g)) (last : FileStore D g) : Type 0 where
    pub sound : IsClean (store.view last) → is_sound_of over_files k
    pub kept : (db : Trees) → store.recovers last db → (file_state k.conn).may_leave db
    pub files : IsTrue (store.view last).is_numbered → LeavesFiles k last

  -- Holds if this is left of the files of a failed opening once they are closed. If no database was
  -- opened in them, the close changes nothing.
  abbrev pub ClosesRemains : FailedOpen D g → LeftFiles D g → Type 0
  ClosesRemains of.Nothing left = left ≡ Nothing
  ClosesRemains (of.Files rest) (Closed files) = (files.log, files.db) ≡ files_left rest
  ClosesRemains (of.Files rest) _ = ⊥
  ClosesRemains (of.Connection conn) Nothing = ⊥
  ClosesRemains (of.Connection conn) (Closed files) = ClosesTrees conn files
  ClosesRemains (of.Connection conn) (Unclosed last) = KeepsTrees conn last
