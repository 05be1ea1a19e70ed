-- Definitions of the effects of a service over files in its whole life: runs in sequence, each
-- ended by a stop or a crash.
use Rattle.std.specs.Prelude.{◌≡◌, ◌⊎◌, ◌↔◌, ℕ, List, [], ◌∷◌, ◌++◌, Ok, false}
use Rattle.std.specs.List.{AllByRecursion}
use Rattle.sqlite_disk.specs.declared.Disk as disk
use Rattle.sqlite_disk.specs.declared.Files.{Files}
use Rattle.sqlite_store.specs.declared.store.FileStore.{FileStore}
use Rattle.sqlite_store.specs.FileStore as store
use Rattle.sqlite_trees.specs.View.{IsClean}
use Rattle.sqlite.specs.Files.{file_state}
use Rattle.sqlite.specs.Held.{Held}
use Rattle.sqlite.specs.Recovery.{Image}
use Rattle.sqlite.specs.WalReads.{AreClean}
use Rattle.entity_core.specs.Airspace.{Airspace, empty_at}
use Rattle.entity_purge.specs.Purge.{IsPartlyPurged}
use Rattle.space_core.specs.Space.{IsContent}
use Rattle.space_core.specs.declared.space.Space as spaces
use Rattle.service_step.specs.declared.reply.Reply.{Reply}
use Rattle.service_calls.specs.declared.service.Service.{Service}
use Rattle.service_calls.specs.Held.{is_shut, salt_of, space_of}
use Rattle.service_calls.specs.Batches.{CallRecord, MayHavePersisted, Batch, all_timed, all_delivered}
use Rattle.service_calls.specs.Run.{AskedInOrder, MayHaveStepped, TimedCall, airspace_after, answered_calls, has_stopped}
use Rattle.service_calls.specs.Purged.{AreDeliveredAndDurable, Segment, airspace_after_batches, all_delivered_in}
use Rattle.space_sql_schema.specs.declared.format.Format.{Format}
use Rattle.space_sql_open.specs.declared.open_fault.OpenFault.{OpenFault}
use Rattle.space_sql.specs.Closing.{ClosesTrees}
use Rattle.space_sql.specs.Found.{AreUnmade, FilesSpell, FindsSpelt, RefusesFound}
use Rattle.space_sql.specs.Holding.{SqlSpaceModel}
use Rattle.space_sql.specs.Restart.{ClosesFiles, FilesHave, FilesLeft, LeavesFiles, LeavesTrees, without_log}

-- Holds if the files stand for the airspace: they represent it in a format, or have no table, and
-- it is the empty one.
abbrev pub StandFor : Image → Airspace → Type 0
StandFor image a =
    ((format : Format) × FilesSpell format image a) ⊎ (AreUnmade image × (a ≡ empty_at 0))

-- A run of a service over files: its salt, and the batches of calls that it received. After each
-- segment, some of what had ended was purged. The last batches follow the segments. A purge of
-- files that no service uses is a run without calls.
pub record Run : Type 0 where
  pub salt : List ℕ
  pub segments : List Segment
  pub batches : List Batch

-- The run of a service that received these batches.
abbrev pub run_purged : {S : Type 0} → Service S → List Segment → List Batch → Run
run_purged old segments batches =
    record { salt = salt_of old; segments = segments; batches = batches }

-- The same without purges.
abbrev pub run_of : {S : Type 0} → Service S → List Batch → Run
run_of old batches = run_purged old [] batches

-- A run whose opening failed.
abbrev pub unasked : Run
unasked = record { salt = []; segments = []; batches = [] }

-- Calls with their replies, none of which has a pending change.
abbrev pub made_at_once : List TimedCall → List Reply → List CallRecord
made_at_once [] rs = []
made_at_once (c ∷ cs) [] = []
made_at_once (c ∷ cs) (r ∷ rs) = record { timed = c; reply = r; waits = false } ∷ made_at_once cs rs

-- The single batch of a service over a space without pending changes.
abbrev pub alone : List TimedCall → List Reply → Batch
alone calls replies = record { calls = made_at_once calls replies; settled = Ok tt }

-- States what may be durable of such a batch: exactly what its calls may have made of the airspace.
-- Calls that were answered take the policy's steps. A call that returned `Stopped`, if there is
-- one, may take its step.
abbrev pub AloneIsStepped : Type 0
AloneIsStepped =
    (salt : List ℕ) (a b : Airspace) (calls : List TimedCall) (replies : List Reply)
    → MayHavePersisted salt a (alone calls replies ∷ []) b ↔ MayHaveStepped salt a calls replies b

-- Holds if the airspace can follow from the other one in this run: by the policy's steps for the
-- calls that were answered, with the replies that the run delivered. Of the first batch with a
-- `Stopped`, if there is one, the calls without pending changes count, or all calls up to the
-- `Stopped`, with its own call or without it. Only what had ended was purged between two segments.
--
-- Example: a run without segments has one batch of two calls. The first creates an intent and has
-- the reply `Done`, which is deferred. The second deletes a constraint and has the reply `Stopped`.
-- Three airspaces can follow from `a`: `a` itself, `a` with the intent, and `a` with the intent and
-- without the constraint. If the second reply is `Done` too and the batch was committed, only the
-- last one can follow.
abbrev pub MayCome : Airspace → Run → Airspace → Type 0
MayCome a run b = AreDeliveredAndDurable run.salt a run.segments run.batches b

-- Holds if files that stood for an airspace before the run stand for one that may follow from it
-- after the run.
abbrev pub Continues : Image → Run → Image → Type 0
Continues before run after =
    (a : Airspace) → StandFor before a → ∥ ((b : Airspace) × MayCome a run b × StandFor after b) ∥₁

-- States that a run continues its files. A space was opened over files, and a service over it
-- received calls in order, each once. Then it was abandoned, and a crash left what it may of the
-- files.
abbrev pub ContinuesServed : {D : Type 0} {g : disk.Ghosts D}
    → spaces.Ghosts (SqlSpaceModel (FileStore D g)) → Type 0
ContinuesServed {D} {g} space =
    (before after : Image) (old new : Service (SqlSpaceModel (FileStore D g)))
    (calls : List TimedCall) (replies : List Reply) (last : FileStore D g)
    → is_shut old ≡ false → FindsSpelt before space (space_of old)
    → AskedInOrder space old calls replies new
    → LeavesFiles (space_of new) last → IsClean (store.view last) → FilesLeft last after
    → Continues before (run_of old (alone calls replies ∷ [])) after

-- The same if the space was closed, even if the log is gone then.
abbrev pub ContinuesClosed : {D : Type 0} {g : disk.Ghosts D}
    → spaces.Ghosts (SqlSpaceModel (FileStore D g)) → Type 0
ContinuesClosed {D} {g} space =
    (before after : Image) (old new : Service (SqlSpaceModel (FileStore D g)))
    (calls : List TimedCall) (replies : List Reply) (files : Files D)
    → is_shut old ≡ false → FindsSpelt before space (space_of old)
    → AskedInOrder space old calls replies new
    → ClosesFiles (space_of new) files → AreClean g files.log files.db → FilesHave g files after
    → Continues before (run_of old (alone calls replies ∷ [])) after
    × Continues before (run_of old (alone calls replies ∷ [])) (without_log after)

-- States that a failed opening continues its files: the returned connection was abandoned, and a
-- crash left what it may of the files.
abbrev pub ContinuesRefused : {D : Type 0} → disk.Ghosts D → Type 0
ContinuesRefused {D} g =
    (before after : Image) (back : Held (FileStore D g)) (fault : OpenFault)
    (last : FileStore D g)
    → RefusesFound before (file_state back) fault
    → LeavesTrees back last → IsClean (store.view last) → FilesLeft last after
    → Continues before unasked after

-- The same if `FailedOpen::close` closed the connection and returned its files, even if the log is
-- gone then.
abbrev pub ContinuesRefusedClosed : {D : Type 0} → disk.Ghosts D → Type 0
ContinuesRefusedClosed {D} g =
    (before after : Image) (back : Held (FileStore D g)) (fault : OpenFault) (files : Files D)
    → RefusesFound before (file_state back) fault
    → ClosesTrees back files → AreClean g files.log files.db → FilesHave g files after
    → Continues before unasked after × Continues before unasked (without_log after)

-- Holds if the runs follow each other, each over what the previous one left.
abbrev pub Lives : Image → List Run → Image → Type 0
Lives before [] after = after ≡ before
Lives before (run ∷ runs) after =
    (left : Image) × Continues before run left × Lives left runs after

-- Holds if the airspace may follow from another one in these runs.
abbrev pub MayComeOfAll : Airspace → List Run → Airspace → Type 0
MayComeOfAll a [] b = b ≡ a
MayComeOfAll a (run ∷ runs) b = (c : Airspace) × MayCome a run c × MayComeOfAll c runs b

-- States that after all runs the files stand for an airspace that may follow from the first one.
abbrev pub LifeLeaves : Type 0
LifeLeaves =
    (before after : Image) (runs : List Run) (a : Airspace)
    → StandFor before a → Lives before runs after
    → ∥ ((b : Airspace) × MayComeOfAll a runs b × StandFor after b) ∥₁

-- States that a space opened over them holds exactly such an airspace.
abbrev pub LifeIsFound : {T : Type 0} → spaces.Ghosts (SqlSpaceModel T) → Type 0
LifeIsFound {T} again =
    (before after : Image) (runs : List Run) (a : Airspace) (next : SqlSpaceModel T)
    → StandFor before a → Lives before runs after
    → FindsSpelt after again next → again.is_sound next
    → ∥ ((b : Airspace) × MayComeOfAll a runs b × IsContent again.holds next b) ∥₁

-- States that only one airspace may follow from a run that purged nothing and in which no call
-- returned `Stopped`: the policy's, after all calls that were answered.
abbrev pub UnstoppedIsExpected : Type 0
UnstoppedIsExpected =
    (a b : Airspace) (run : Run) → run.segments ≡ [] → has_stopped (all_delivered run.batches) ≡ false
    → MayCome a run b
    → b ≡ airspace_after run.salt a (answered_calls (all_timed run.batches) (all_delivered run.batches))

-- Holds if the airspace is due after segments and batches: the policy's after all calls that were
-- answered, with some of what had ended purged after each segment.
abbrev pub IsExpectedAfter : List ℕ → Airspace → List Segment → List Batch → Airspace → Type 0
IsExpectedAfter salt a [] batches b = b ≡ airspace_after_batches salt a batches
IsExpectedAfter salt a (segment ∷ segments) batches b =
    (c : Airspace) × IsPartlyPurged segment.until (airspace_after_batches salt a segment.batches) c
    × IsExpectedAfter salt c segments batches b

-- States that only such an airspace may follow from a run in which no call returned `Stopped`.
abbrev pub UnstoppedIsDuePurged : Type 0
UnstoppedIsDuePurged =
    (a b : Airspace) (run : Run) → has_stopped (all_delivered_in run.segments run.batches) ≡ false
    → MayCome a run b → IsExpectedAfter run.salt a run.segments run.batches b

-- Holds if the batches have no calls.
abbrev pub AreEmpty : List Batch → Type 0
AreEmpty batches = AllByRecursion (λ batch. batch.calls ≡ []) batches

-- Holds if a run has no calls and only purged some of what had ended by a time.
abbrev pub PurgesOnly : ℕ → Run → Type 0
PurgesOnly until run = AllByRecursion (λ s. AreEmpty s.batches × (s.until ≡ until)) run.segments
    × AreEmpty run.batches

abbrev pub PurgeRunIsPartly : Type 0
PurgeRunIsPartly =
    (until : ℕ) (a b : Airspace) (run : Run) → PurgesOnly until run → MayCome a run b
    → IsPartlyPurged until a b

-- States that calls received over several connections, one after the other, are one list of calls.
abbrev pub AskedOn : {S : Type 0} → spaces.Ghosts S → Type 0
AskedOn {S} space =
    (old mid new : Service S) (calls more : List TimedCall) (replies later : List Reply)
    → AskedInOrder space old calls replies mid → AskedInOrder space mid more later new
    → AskedInOrder space old (calls ++ more) (replies ++ later) new
