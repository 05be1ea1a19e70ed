-- Definitions of the effects of a crash on a service over tables.
use Rattle.std.specs.Prelude.{◌≡◌, ◌⊎◌, ◌||◌, ℕ, List, Result, Ok, Err, true, false}
use Rattle.sqlite_trees.specs.Tree.{Trees}
use Rattle.sqlite_trees.specs.declared.store.Store.{Ghosts}
use Rattle.entity_core.specs.Airspace.{Airspace}
use Rattle.policy_core.specs.declared.call.Call.{Call}
use Rattle.space_core.specs.Space.{IsContent}
use Rattle.space_core.specs.declared.group_commit.GroupCommit as settles
use Rattle.space_core.specs.declared.space.Space as spaces
use Rattle.space_core.specs.declared.space.SpaceFault.{SpaceFault}
use Rattle.space_core.specs.declared.space.SpaceFault.TheVariants.{Unchanged, Broken}
use Rattle.service_step.specs.declared.reply.Reply.{Reply}
use Rattle.service_step.specs.declared.reply.Reply.TheVariants.{Done, Denied, Fault, Stopped}
use Rattle.service_calls.specs.declared.service.Service.{Service}
use Rattle.service_calls.specs.Held.{is_shut, salt_of, space_of}
use Rattle.service_calls.specs.Batches.{IsCommitted}
use Rattle.service_calls.specs.Run.{IsReplyTo}
use Rattle.service_step.specs.Step.{step}
use Rattle.space_quota.specs.QuotaSpace.{QuotaModel}
use Rattle.space_mirror.specs.Mirrored.{MirroredModel, persists_in, is_pending_in}
use Rattle.space_sql.specs.Crash.{may_leave_of}
use Rattle.space_sql.specs.Holding.{AreTablesOf, SqlSpaceModel, holds_of, is_sound_of, is_whole_of}

-- Holds if the trees store the airspace that is due after this reply. After an answer, that is the
-- airspace of the policy's step. After a denial or a fault, it is the one before. After `Stopped`,
-- it is one of the two. A call that changes nothing has one airspace before and after it.
abbrev pub PersistsAfter : (before after : Airspace) → Reply → Trees → Type 0
PersistsAfter before after (Done answer) db = AreTablesOf db after
PersistsAfter before after (Denied _ _) db = AreTablesOf db before
PersistsAfter before after Fault db = AreTablesOf db before
PersistsAfter before after Stopped db = AreTablesOf db before ⊎ AreTablesOf db after

-- Holds if a crash after a call leaves what its reply says, when the space held exactly one
-- airspace before it.
abbrev pub LeavesAfter : {S : Type 0} → Ghosts S → List ℕ → ℕ → Call → Reply → (old new : SqlSpaceModel S)
    → Type 0
LeavesAfter g salt now call reply old new =
    is_sound_of g new → is_whole_of g old → (a : Airspace) → IsContent (holds_of g) old a
    → (db : Trees) → may_leave_of g new db → PersistsAfter a (step salt a now call).0 reply db

-- Holds if a crash after a call leaves what its reply says, when the service had not stopped and
-- had one airspace. If it had stopped, it is unchanged, and so is what a crash leaves of it.
pub record CrashLeaves {S : Type 0} (g : Ghosts S) (salt : List ℕ) (now : ℕ) (call : Call)
    (old new : Service (SqlSpaceModel S)) (reply : Reply) : Type 0 where
  pub leaves : is_shut old ≡ false
      → LeavesAfter g salt now call reply (space_of old) (space_of new)
  pub stays : is_shut old ≡ true → new ≡ old

-- States that it holds after each call, by what is known of its reply.
abbrev pub CrashAfterCall : {S : Type 0} → Ghosts S → spaces.Ghosts (SqlSpaceModel S) → Type 0
CrashAfterCall {S} g space = (old new : Service (SqlSpaceModel S)) (now : ℕ) (call : Call) (reply : Reply)
    → IsReplyTo space old new now call reply → CrashLeaves g (salt_of old) now call old new reply

-- The durable airspace and the pending changes of a space whose changes can be pending, given the
-- space over tables in it.
abbrev pub pending_of : {S : Type 0} → spaces.Ghosts S → settles.Ghosts (MirroredModel S)
pending_of tables = record { persists = persists_in tables; is_pending = is_pending_in }

-- The same for such a space below a quota for each USS.
abbrev pub quota_pending_of : {S : Type 0} → spaces.Ghosts S → settles.Ghosts (QuotaModel (MirroredModel S))
quota_pending_of tables =
    record { persists = λ k a. persists_in tables k.space a; is_pending = λ k. is_pending_in k.space }

-- Holds if a crash after a call of a service whose changes can be pending leaves what it should. If
-- no change is pending before and after the call, it leaves what the reply says. Otherwise the call
-- does not change the tables, nor what a crash leaves of them.
pub record CrashLeavesGrouped {S : Type 0} (g : Ghosts S) (salt : List ℕ) (now : ℕ)
    (call : Call) (old new : Service (MirroredModel (SqlSpaceModel S))) (reply : Reply) : Type 0 where
  pub alone : is_shut old ≡ false
      → is_pending_in (space_of old) ≡ false → is_pending_in (space_of new) ≡ false
      → LeavesAfter g salt now call reply (space_of old).store (space_of new).store
  pub waiting : (is_pending_in (space_of old) || is_pending_in (space_of new)) ≡ true
      → (space_of new).store ≡ (space_of old).store
  pub stays : is_shut old ≡ true → new ≡ old

abbrev pub CrashAfterGroupedCall : {S : Type 0} → Ghosts S → spaces.Ghosts (MirroredModel (SqlSpaceModel S))
    → Type 0
CrashAfterGroupedCall {S} g space =
    (old new : Service (MirroredModel (SqlSpaceModel S))) (now : ℕ) (call : Call) (reply : Reply)
    → IsReplyTo space old new now call reply
    → CrashLeavesGrouped g (salt_of old) now call old new reply

-- Holds if the trees store the airspace that is due after a batch ended so: the visible one, the
-- last durable one, or one of the two.
abbrev pub PersistsCommitted : (kept seen : Airspace) → Result (Unit {0}) SpaceFault → Trees → Type 0
PersistsCommitted kept seen (Ok x) db = AreTablesOf db seen
PersistsCommitted kept seen (Err Unchanged) db = AreTablesOf db kept
PersistsCommitted kept seen (Err Broken) db = AreTablesOf db kept ⊎ AreTablesOf db seen

-- States that it holds after each batch, by the outcome of its commit.
abbrev pub CrashAfterBatch : {S : Type 0} → Ghosts S → spaces.Ghosts (SqlSpaceModel S)
    → spaces.Ghosts (MirroredModel (SqlSpaceModel S)) → Type 0
CrashAfterBatch {S} g tables space =
    (old new : Service (MirroredModel (SqlSpaceModel S))) (result : Result (Unit {0}) SpaceFault)
    → IsCommitted space (pending_of tables) old new result
    → is_sound_of g (space_of new).store → is_whole_of g (space_of old).store
    → (kept seen : Airspace) → IsContent (holds_of g) (space_of old).store kept
    → space.holds (space_of old) seen
    → (db : Trees) → may_leave_of g (space_of new).store db → PersistsCommitted kept seen result db

-- Holds if a crash leaves something of a space after a call, and whatever it leaves stores the
-- airspace that is due. The airspace before the call was `before`.
pub record LeavesDue {S : Type 0} (g : Ghosts S) (salt : List ℕ) (before : Airspace) (now : ℕ)
    (call : Call) (reply : Reply) (k : SqlSpaceModel S) : Type 0 where
  pub some : ∥ ((db : Trees) × may_leave_of g k db) ∥₁
  pub each : (db : Trees) → may_leave_of g k db
      → PersistsAfter before (step salt before now call).0 reply db
