-- Definitions of why an opening failed, by what is left of the files.
use Rattle.std.specs.Prelude.{◌≡◌, ◌≢◌, ◌⊎◌, ⊤}
use Rattle.sqlite_disk.specs.declared.Disk as disk
use Rattle.sqlite_disk.specs.declared.Files.{Files}
use Rattle.sqlite_trees.specs.Tree.{Trees}
use Rattle.sqlite.specs.Files as kit
use Rattle.sqlite.specs.Files.{HoldsDatabase, IsCleanLeft, IsNothing, file_state, image_of}
use Rattle.sqlite.specs.Recovery.{Image}
use Rattle.sqlite.specs.State.{HasCleanDisk}
use Rattle.sqlite.specs.WalFiles.{outcomes}
use Rattle.sqlite.specs.declared.file.Leftover.{Leftover}
use Rattle.space_sql_open.specs.declared.open_fault.OpenFault.{OpenFault}
use Rattle.space_sql_open.specs.declared.open_fault.OpenFault.TheVariants.{Store, Version}
use Rattle.space_sql.specs.Found.{RefusesFound}
use Rattle.space_sql.specs.declared.failed_open.FailedOpen.{FailedOpen}
use Rattle.space_sql.specs.declared.failed_open.FailedOpen.TheVariants as of

-- Holds if files can be opened: they hold a database whose rows obey the rules of its tables, or no
-- database was created in them yet.
abbrev pub CanBeOpened : Image → Type 0
CanBeOpened image = ((db : Trees) × HoldsDatabase image db) ⊎ IsNothing image

-- Holds if the two files have this content, and a crash leaves nothing else of them.
abbrev pub AreAt : {D : Type 0} → disk.Ghosts D → Image → Files D → Type 0
AreAt g image files =
    (image_of g files ≡ image)
    × ((after : Image) → outcomes g files.log files.db after → after ≡ image)

module _ {D : Type 0} {g : disk.Ghosts D} where
  -- Holds if the fault is right for opened files without a database in them. It is `Store` if they
  -- can be opened, and never `Version`, since `meta` was not read. A crash leaves of them what the
  -- kit says that an opening leaves.
  pub record RefusesFiles (image : Image) (left : Leftover D g) (fault : OpenFault) : Type 0 where
    pub due : IsCleanLeft left → CanBeOpened image → fault ≡ Store
    pub unread : fault ≢ Version
    pub kept : IsCleanLeft left
        → (files : Files D) × AreAt g image files × kit.LeavesFiles files left

  -- Holds if the fault is right for an opening of files with this content. It is `Store` if no file
  -- was opened.
  abbrev pub RefusesOpening : Image → FailedOpen D g → OpenFault → Type 0
  RefusesOpening image of.Nothing fault = fault ≡ Store
  RefusesOpening image (of.Files left) fault = RefusesFiles image left fault
  RefusesOpening image (of.Connection conn) fault = RefusesFound image (file_state conn) fault

  -- Holds if the disk has returned what was written so far.
  abbrev pub IsCleanIn : FailedOpen D g → Type 0
  IsCleanIn of.Nothing = ⊤
  IsCleanIn (of.Files left) = IsCleanLeft left
  IsCleanIn (of.Connection conn) = HasCleanDisk (file_state conn)
