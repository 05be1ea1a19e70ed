-- Definitions that relate one run to the next: the two files of a space after a crash, and what is
-- recovered.
use Rattle.std.specs.Prelude.{◌≡◌, ◌⊎◌, []}
use Rattle.sqlite_disk.specs.declared.Disk as disk
use Rattle.sqlite_disk.specs.declared.Files.{Files}
use Rattle.sqlite_store.specs.declared.store.FileStore.{FileStore}
use Rattle.sqlite_store.specs.FileStore as store
use Rattle.sqlite_trees.specs.View.{IsClean}
use Rattle.sqlite_trees.specs.declared.store.Store as stores
use Rattle.sqlite.specs.Held.{Held, state}
use Rattle.sqlite_trees.specs.Tree.{Trees}
use Rattle.sqlite.specs.Files.{HoldsDatabase, file_state, image_of, over_files}
use Rattle.sqlite.specs.Recovery.{Image}
use Rattle.sqlite.specs.State.{HasCleanDisk}
use Rattle.sqlite.specs.WalFiles.{outcomes}
use Rattle.sqlite.specs.WalReads.{AreClean}
use Rattle.entity_core.specs.Airspace.{Airspace}
use Rattle.space_core.specs.Space.{IsContent}
use Rattle.space_core.specs.declared.space.Space.{Ghosts}
use Rattle.space_sql_schema.specs.declared.format.Format.{Format}
use Rattle.space_sql_schema.specs.declared.format.Format.TheVariants.{Two}
use Rattle.space_sql_open.specs.declared.open_fault.OpenFault.{OpenFault}
use Rattle.space_sql_open.specs.declared.open_fault.OpenFault.TheVariants.{Store}
use Rattle.space_sql.specs.Found.{FilesSpell, FindsSpelt, RefusesFound}
use Rattle.space_sql.specs.Holding.{SqlSpaceModel, holds_of, is_sound_of, is_whole_of}
use Rattle.space_sql.specs.FailedOpen.{IsCleanIn, RefusesOpening}
use Rattle.space_sql.specs.declared.failed_open.FailedOpen.{FailedOpen}

-- Holds if the two files have this content, or a crash leaves it of them.
abbrev pub FilesHave : {D : Type 0} → disk.Ghosts D → Files D → Image → Type 0
FilesHave g files image = (image ≡ image_of g files) ⊎ outcomes g files.log files.db image

-- The content of the database file, without the log.
abbrev pub without_log : Image → Image
without_log image = record image { log = [] }

module _ {D : Type 0} {g : disk.Ghosts D} where
  -- Holds if the log and the file of a store may have this content after a crash at this time.
  abbrev pub FilesLeft : FileStore D g → Image → Type 0
  FilesLeft it image = (store.state it).may_leave image

  -- Holds if, after a crash, the files of an abandoned connection hold a database that a crash of
  -- the connection may have left. The store of the connection is `last`.
  pub record LeavesTrees (conn : Held (FileStore D g)) (last : FileStore D g) : Type 0 where
    pub clean : IsClean (store.view last) → HasCleanDisk (file_state conn)
    pub found : IsClean (store.view last) → (image : Image) → FilesLeft last image
        → ∥ ((db : Trees) × (file_state conn).may_leave db × HoldsDatabase image db) ∥₁

  -- Holds if, after a crash, the files of an abandoned space hold tables of format 2 that represent
  -- an airspace that the space held. If it held exactly one, they represent that one.
  pub record LeavesFiles (k : SqlSpaceModel (FileStore D g)) (last : FileStore D g) : Type 0 where
    pub sound : IsClean (store.view last) → is_sound_of over_files k
    pub trees : LeavesTrees k.conn last
    pub held : IsClean (store.view last) → is_whole_of over_files k
        → (image : Image) → FilesLeft last image
        → ∥ ((a : Airspace) × holds_of over_files k a × FilesSpell Two image a) ∥₁
    pub content : IsClean (store.view last) → is_whole_of over_files k
        → (a : Airspace) → IsContent (holds_of over_files) k a
        → (image : Image) → FilesLeft last image → ∥ FilesSpell Two image a ∥₁

  -- Holds if the files of a closed space represent an airspace that it held, with or without their
  -- log.
  pub record ClosesFiles (k : SqlSpaceModel (FileStore D g)) (files : Files D) : Type 0 where
    pub sound : AreClean g files.log files.db → is_sound_of over_files k
    pub held : AreClean g files.log files.db → is_whole_of over_files k
        → (image : Image) → FilesHave g files image
        → ∥ ((a : Airspace) × holds_of over_files k a × FilesSpell Two image a
        × FilesSpell Two (without_log image) a) ∥₁

-- Holds if the next run finds files that represent an airspace in format 2: a space adopted over
-- them holds exactly that airspace, and the only fault of adopting is `Store`.
pub record NextFinds {S : Type 0} (g : stores.Ghosts S) (space : Ghosts (SqlSpaceModel S))
    (image : Image) (a : Airspace) : Type 0 where
  pub found : (next : SqlSpaceModel S) → FindsSpelt image space next → space.is_sound next
      → ∥ IsContent space.holds next a ∥₁
  pub refused : (back : Held S) (fault : OpenFault) → RefusesFound image (state g back) fault
      → HasCleanDisk (state g back) → fault ≡ Store

abbrev pub NextRun : {S : Type 0} → stores.Ghosts S → Ghosts (SqlSpaceModel S) → Type 0
NextRun g space =
    (image : Image) (a : Airspace) → ∥ FilesSpell Two image a ∥₁ → NextFinds g space image a

-- States that an opening that fails over files that represent an airspace in either format returns
-- `Store`, even if no connection is returned.
abbrev pub NextRefused : {D : Type 0} → disk.Ghosts D → Type 0
NextRefused {D} g =
    (image : Image) (format : Format) (a : Airspace) → ∥ FilesSpell format image a ∥₁
    → (remains : FailedOpen D g) (fault : OpenFault)
    → RefusesOpening image remains fault → IsCleanIn remains → fault ≡ Store

-- States that a failed opening keeps the airspace that the files represent, for example if the
-- upgrade of format 1 was interrupted. If the returned connection is abandoned and a crash follows,
-- a space opened over what is left holds exactly that airspace.
abbrev pub RefusedIsFound : {D T : Type 0} → disk.Ghosts D → Ghosts (SqlSpaceModel T) → Type 0
RefusedIsFound {D} {T} g again =
    (before after : Image) (format : Format) (a : Airspace) (back : Held (FileStore D g))
    (fault : OpenFault) (last : FileStore D g) (next : SqlSpaceModel T)
    → FilesSpell format before a → RefusesFound before (file_state back) fault
    → LeavesTrees back last → IsClean (store.view last) → FilesLeft last after
    → FindsSpelt after again next → again.is_sound next → ∥ IsContent again.holds next a ∥₁
