-- Proofs that relate a call to the next run.
use Rattle.std.specs.Prelude.{◌≡◌, ℕ, false}
use Rattle.std.proofs.Common.{inl, inr}
use Rattle.std.proofs.Math.Logic.{∥∥₁_map}
use Rattle.sqlite_disk.specs.declared.Disk as disk
use Rattle.sqlite_store.specs.declared.store.FileStore.{FileStore}
use Rattle.sqlite_store.specs.FileStore as store
use Rattle.sqlite_trees.specs.Tree.{Trees}
use Rattle.sqlite_trees.specs.View.{IsClean}
use Rattle.sqlite.specs.Files.{HoldsDatabase, over_files}
use Rattle.sqlite.specs.Recovery.{Image}
use Rattle.entity_core.specs.Airspace.{Airspace}
use Rattle.policy_core.specs.declared.call.Call.{Call}
use Rattle.space_core.specs.Space.{IsContent}
use Rattle.space_core.specs.declared.space.Space.{Ghosts}
use Rattle.service_step.specs.declared.reply.Reply.{Reply}
use Rattle.service_step.specs.declared.reply.Reply.TheVariants.{Done, Denied, Fault, Stopped}
use Rattle.service_calls.specs.declared.service.Service.{Service}
use Rattle.service_calls.specs.Held.{is_shut, salt_of, space_of}
use Rattle.service_calls.specs.Run.{IsReplyTo}
use Rattle.service_step.specs.Step.{step}
use Rattle.space_sql_schema.specs.declared.format.Format.TheVariants.{Two}
use Rattle.space_sql.specs.Found.{FindsSpelt}
use Rattle.space_sql.specs.Holding.{AreTablesOf, SqlSpaceModel, holds_of, is_whole_of}
use Rattle.space_sql.specs.Restart.{FilesLeft, LeavesFiles}
use Rattle.service_recovery.specs.Crash.{PersistsAfter}
use Rattle.service_recovery.specs.Restart.{IsDueAfter}
use Rattle.service_recovery.proofs.Crashes.{crash_leaves, words_of}

module _ {T : Type 0} (again : Ghosts (SqlSpaceModel T)) (next : SqlSpaceModel T) (image : Image) (finds : FindsSpelt image again next) (sound : again.is_sound next) (db : Trees) (holds : HoldsDatabase image db) where
  opened_as : (b : Airspace) → AreTablesOf db b → IsContent again.holds next b
  opened_as b keeps = finds.spelt sound Two b (db, holds, keeps)

  due_after : (before after : Airspace) (reply : Reply) → PersistsAfter before after reply db → IsDueAfter before after reply (IsContent again.holds next)
  due_after before after (Done answer) kept = opened_as after kept
  due_after before after (Denied _ _) kept = opened_as before kept
  due_after before after Fault kept = opened_as before kept
  due_after before after Stopped kept = elim kept [
    | inl old ↦ inl (opened_as before old)
    | inr new ↦ inr (opened_as after new)
  ]

pub restarts : {D T : Type 0} {g : disk.Ghosts D} (again : Ghosts (SqlSpaceModel T)) (old new : Service (SqlSpaceModel (FileStore D g))) (now : ℕ) (call : Call) (reply : Reply) (last : FileStore D g) (image : Image) (next : SqlSpaceModel T) (a : Airspace)
    → is_shut old ≡ false → is_whole_of over_files (space_of old) → IsContent (holds_of over_files) (space_of old) a → IsReplyTo (words_of over_files) old new now call reply → LeavesFiles (space_of new) last → IsClean (store.view last) → FilesLeft last image
    → FindsSpelt image again next → again.is_sound next → ∥ IsDueAfter a (step (salt_of old) a now call).0 reply (IsContent again.holds next) ∥₁
restarts again old new now call reply last image next a goes whole content is left clean may finds sound = ∥∥₁_map (left.trees.found clean image may) (λ it.
    let kept = (crash_leaves over_files old new now call reply is).leaves goes (left.sound clean) whole a content it.0 it.1 in
    due_after again next image finds sound it.0 it.2 a (step (salt_of old) a now call).0 reply kept)
