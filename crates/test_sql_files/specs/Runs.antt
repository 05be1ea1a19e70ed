-- Runs of a service over files, each for one call. They meet all premises of the laws of
-- `service_recovery` about such runs.
use Rattle.std.specs.Prelude.{◌≡◌, ℕ, List, [], ◌∷◌, IsSome, false}
use Rattle.std.specs.FinMap.{get}
use Rattle.sqlite_disk.specs.declared.Disk as disk
use Rattle.sqlite_disk.specs.declared.Files.{Files}
use Rattle.sqlite_store.specs.declared.store.FileStore.{FileStore}
use Rattle.sqlite_store.specs.FileStore as store
use Rattle.sqlite_trees.specs.View.{IsClean}
use Rattle.sqlite.specs.Files.{image_of}
use Rattle.sqlite.specs.Held.{Held}
use Rattle.sqlite.specs.Recovery.{Image}
use Rattle.sqlite.specs.WalReads.{AreClean}
use Rattle.entity_core.specs.Airspace.{Airspace, empty_at}
use Rattle.entity_core.specs.Entity.{kind_of}
use Rattle.policy_core.specs.declared.call.Put.{Put}
use Rattle.policy_core.specs.declared.call.Operation.TheVariants.{Create}
use Rattle.space_core.specs.Space.{IsContent}
use Rattle.space_core.specs.declared.space.Space as spaces
use Rattle.service_step.specs.Step.{step}
use Rattle.service_step.specs.declared.reply.Reply.{Reply}
use Rattle.service_step.specs.declared.reply.Reply.TheVariants.{Done}
use Rattle.service_calls.specs.declared.service.Service.{Service}
use Rattle.service_calls.specs.Held.{is_shut, salt_of, space_of}
use Rattle.service_calls.specs.Run.{IsReplyTo, TimedCall, replies_of}
use Rattle.service_recovery.specs.Life.{Lives, Run, alone}
use Rattle.space_sql_schema.specs.declared.format.Format.TheVariants.{Two}
use Rattle.space_sql.specs.Found.{AreUnmade, FilesSpell, FindsSpelt}
use Rattle.space_sql.specs.Holding.{SqlSpaceModel}
use Rattle.space_sql.specs.Restart.{ClosesFiles, FilesLeft, LeavesFiles}
use Rattle.test_sql_files.specs.declared.runs.Told.{Told}

-- The airspace of the policy after a call.
abbrev pub after : List ℕ → Airspace → TimedCall → Airspace
after salt a call = (step salt a call.0 call.1).0

-- A run with this call and this reply.
abbrev pub run_for : List ℕ → TimedCall → Reply → Run
run_for salt call reply =
    record { salt = salt; segments = []; batches = alone (call ∷ []) (reply ∷ []) ∷ [] }

-- Holds if the airspace has each entity that the call creates.
abbrev pub HasCreated : TimedCall → Airspace → Type 0
HasCreated call a = (id : ℕ) (put : Put) → call.1.op ≡ Create id put
    → IsSome (get a.entities (kind_of put.nature, id))

module _ {S : Type 0} (space : spaces.Ghosts (SqlSpaceModel S)) where
  -- A service was started over files with this content, and replied to this call.
  pub record StartedRun (before : Image) (salt : List ℕ) (call : TimedCall) (reply : Reply)
      : Type 0 where
    pub old : Service (SqlSpaceModel S)
    pub new : Service (SqlSpaceModel S)
    pub salted : salt_of old ≡ salt
    pub goes : is_shut old ≡ false
    pub finds : FindsSpelt before space (space_of old)
    pub replies : IsReplyTo space old new call.0 call.1 reply

  -- This is the connection of its space after the call.
  abbrev pub LeavesConnection : Image → List ℕ → TimedCall → Reply → Held S → Type 0
  LeavesConnection before salt call reply conn =
      (run : StartedRun before salt call reply) × (conn ≡ (space_of run.new).conn)

module _ {D : Type 0} {g : disk.Ghosts D}
    (space : spaces.Ghosts (SqlSpaceModel (FileStore D g))) where
  -- Then its space was closed, and these are the files.
  pub record ClosedRun (before : Image) (salt : List ℕ) (call : TimedCall) (reply : Reply)
      (files : Files D) : Type 0 where
    pub run : StartedRun space before salt call reply
    pub closes : ClosesFiles (space_of run.new) files

  -- Or its space was abandoned, and a crash left these files.
  pub record CrashedRun (before : Image) (salt : List ℕ) (call : TimedCall) (reply : Reply)
      (files : Files D) : Type 0 where
    pub run : StartedRun space before salt call reply
    pub last : FileStore D g
    pub leaves : LeavesFiles (space_of run.new) last
    pub clean : AreClean g files.log files.db → IsClean (store.view last)
    pub left : AreClean g files.log files.db → FilesLeft last (image_of g files)

  -- Three runs in sequence, with an answer to each call. The first and the last are closed. The
  -- second is ended by a crash.
  pub record ThreeRuns (salt : List ℕ) (first second third : TimedCall) (told : Told)
      (new last : Files D) : Type 0 where
    pub closed : Files D
    pub crashed : Files D
    pub first_run : ClosedRun (image_of g new) salt first (Done told.first) closed
    pub second_run : CrashedRun (image_of g closed) salt second (Done told.second) crashed
    pub third_run : ClosedRun (image_of g crashed) salt third (Done told.third) last

  -- Three runs that begin with new files on a disk that returned what was written. They are a life,
  -- and the answers are those of the policy in order, beginning with an empty airspace. The second
  -- opening finds exactly the airspace after the first call, with what that call created. The third
  -- opening finds exactly the one after the second call.
  pub record Life (salt : List ℕ) (first second third : TimedCall) (told : Told) : Type 0 where
    pub new : Files D
    pub last : Files D
    pub runs : ThreeRuns salt first second third told new last
    pub clean : AreClean g runs.closed.log runs.closed.db
        × AreClean g runs.crashed.log runs.crashed.db × AreClean g last.log last.db
    pub unmade : AreUnmade (image_of g new)
    pub lives : Lives (image_of g new) (run_for salt first (Done told.first)
        ∷ run_for salt second (Done told.second) ∷ run_for salt third (Done told.third) ∷ [])
        (image_of g last)
    pub created : HasCreated first (after salt (empty_at 0) first)
    pub spelt : ∥ FilesSpell Two (image_of g runs.closed) (after salt (empty_at 0) first) ∥₁
    pub sound : space.is_sound (space_of runs.second_run.run.old)
        × space.is_sound (space_of runs.third_run.run.old)
    pub found : ∥ IsContent space.holds (space_of runs.second_run.run.old)
        (after salt (empty_at 0) first) ∥₁
    pub found_again : ∥ IsContent space.holds (space_of runs.third_run.run.old)
        (after salt (after salt (empty_at 0) first) second) ∥₁
    pub answers : ∥ Done told.first ∷ Done told.second ∷ Done told.third ∷ []
        ≡ replies_of salt (empty_at 0) (first ∷ second ∷ third ∷ []) ∥₁
