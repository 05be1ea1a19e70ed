-- Definitions of what the next run finds after a call of a service over files and a crash.
use Rattle.std.specs.Prelude.{◌≡◌, ◌⊎◌, ℕ, false}
use Rattle.sqlite_disk.specs.declared.Disk as disk
use Rattle.sqlite_store.specs.declared.store.FileStore.{FileStore}
use Rattle.sqlite_store.specs.FileStore as store
use Rattle.sqlite_trees.specs.View.{IsClean}
use Rattle.sqlite.specs.Files.{over_files}
use Rattle.sqlite.specs.Recovery.{Image}
use Rattle.entity_core.specs.Airspace.{Airspace}
use Rattle.policy_core.specs.declared.call.Call.{Call}
use Rattle.space_core.specs.Space.{IsContent}
use Rattle.space_core.specs.declared.space.Space as spaces
use Rattle.service_step.specs.declared.reply.Reply.{Reply}
use Rattle.service_step.specs.declared.reply.Reply.TheVariants.{Done, Denied, Fault, Stopped}
use Rattle.service_calls.specs.declared.service.Service.{Service}
use Rattle.service_calls.specs.Held.{is_shut, salt_of, space_of}
use Rattle.service_calls.specs.Run.{IsReplyTo}
use Rattle.service_step.specs.Step.{step}
use Rattle.space_sql.specs.Found.{FindsSpelt}
use Rattle.space_sql.specs.Holding.{SqlSpaceModel, holds_of, is_whole_of}
use Rattle.space_sql.specs.Restart.{FilesLeft, LeavesFiles}

-- Holds if P holds of the airspace that is due after this reply. After an answer, that is the
-- airspace of the policy's step. After a denial or a fault, it is the one before. After `Stopped`,
-- it is one of the two.
abbrev pub IsDueAfter : (before after : Airspace) → Reply → (P : Airspace → Type 0) → Type 0
IsDueAfter before after (Done answer) P = P after
IsDueAfter before after (Denied _ _) P = P before
IsDueAfter before after Fault P = P before
IsDueAfter before after Stopped P = P before ⊎ P after

-- States that a space opened over the files after a call and a crash holds exactly the airspace
-- that is due. The service over files had one airspace, answered a call, and its store was
-- abandoned. A crash left what it may of the files.
abbrev pub RestartAfterCall : {D T : Type 0} {g : disk.Ghosts D}
    → spaces.Ghosts (SqlSpaceModel (FileStore D g)) → spaces.Ghosts (SqlSpaceModel T) → Type 0
RestartAfterCall {D} {T} {g} space again =
    (old new : Service (SqlSpaceModel (FileStore D g))) (now : ℕ) (call : Call) (reply : Reply)
    (last : FileStore D g) (image : Image) (next : SqlSpaceModel T) (a : Airspace)
    → is_shut old ≡ false → is_whole_of over_files (space_of old)
    → IsContent (holds_of over_files) (space_of old) a
    → IsReplyTo space old new now call reply
    → LeavesFiles (space_of new) last → IsClean (store.view last) → FilesLeft last image
    → FindsSpelt image again next → again.is_sound next
    → ∥ IsDueAfter a (step (salt_of old) a now call).0 reply (IsContent again.holds next) ∥₁
