-- From one start of `serve` to the next.
use Rattle.std.specs.Prelude.{◌≡◌, ◌∷◌, ◌⊎◌, ℕ, List, [], ◌++◌, Option, Result, Ok, Err, OnOk, OnErr, refl}
use Rattle.std.proofs.Common.{inl, inr, sym, ap, subst, ◌∙◌}
use Rattle.std.proofs.Math.Logic.{∥∥₁_map}
use Rattle.sqlite_disk.specs.declared.Disk as disk
use Rattle.sqlite_disk.specs.declared.Files.{Files}
use Rattle.sqlite_store.specs.declared.store.FileStore.{FileStore}
use Rattle.sqlite.specs.Files.{over_files}
use Rattle.sqlite.specs.Recovery.{Image}
use Rattle.sqlite.specs.WalReads.{AreClean}
use Rattle.sqlite_store.specs.FileStore as store
use Rattle.sqlite_trees.specs.View.{IsClean}
use Rattle.entity_core.specs.Airspace.{Airspace}
use Rattle.service_calls.specs.declared.service.Service.{Service}
use Rattle.service_calls.specs.Held.{salt_of, space_of}
use Rattle.service_calls.specs.Batches.{Batch, uncommitted}
use Rattle.service_calls.specs.Purged.{Segment}
use Rattle.service_recovery.specs.Crash.{quota_pending_of}
use Rattle.service_recovery.specs.InBatches.{ContinuesInBatches, ContinuesInBatchesClosed, IsOnlyRead, IsSoundByStore, RunOver, StartsOver}
use Rattle.service_recovery.specs.Life.{Continues, StandFor, run_purged, unasked}
use Rattle.service_recovery.proofs.Crashes.{words_of}
use Rattle.service_recovery.proofs.Persisting.{both_without_empty, unasked_comes}
use Rattle.service_recovery.proofs.Lives.{content_found}
use Rattle.space_core.specs.declared.space.Space.{Ghosts}
use Rattle.space_mirror.specs.Mirrored.{is_pending_in}
use Rattle.space_sql.specs.Found.{FindsSpelt}
use Rattle.space_sql.specs.Holding.{SqlSpaceModel, holds_of, is_sound_of, is_whole_of}
use Rattle.space_sql.specs.Restart.{ClosesFiles, FilesHave, FilesLeft, LeavesFiles}
use Rattle.space_sql.specs.declared.left_files.LeftFiles.{LeftFiles}
use Rattle.space_sql.specs.declared.left_files.LeftFiles.TheVariants.{Nothing, Closed, Unclosed}
use Rattle.space_core.specs.Space.{IsContent}
use Rattle.space_sql_schema.specs.declared.format.Format.TheVariants.{Two}
use Rattle.wire_http.specs.declared.moments.Moments as moments
use Rattle.server_base.specs.History.{HistoryEvent}
use Rattle.server_watch.specs.declared.token_watch.TokenSource as sources
use Rattle.server_watch.specs.declared.token_watch.TokenWatch.{TokenWatch}
use Rattle.server_backend.specs.declared.backend.Backend as backends
use Rattle.database_backend.specs.declared.database.Database.{Database}
use Rattle.server_clients.specs.ServerEvents.{Setup}
use Rattle.dss_command.specs.Service.{MayServe, ServesClients, first_of, last_of}
use Rattle.dss_command.specs.declared.fault.Fault.{Fault}
use Rattle.dss_database.specs.Files.{ClosesServed, EndsClosing, LeavesSpace, ServedModel, ServesMirrored}
use Rattle.dss_database.specs.declared.failure.Failure.{Failure}
use Rattle.dss_database.specs.Served.{AreLeft, FailedIsFound, FindsAgain, ServedIsFound, run_if_served}

finds_again : {S T : Type 0} (again : Ghosts (SqlSpaceModel T)) (before after : Image) (old : Service S) (segments : List Segment) (batches : List Batch) → Continues before (run_purged old segments (batches ++ uncommitted [] ∷ [])) after → FindsAgain again before (run_purged old segments batches) after
finds_again again before after old segments batches continues a stands next finds sound = ∥∥₁_map (continues a stands) (λ it.
    (it.0, both_without_empty (salt_of old) a it.0 segments batches it.1, content_found after again next finds sound it.0 it.2))

finds_unasked : {T : Type 0} (again : Ghosts (SqlSpaceModel T)) (before after : Image) → Continues before unasked after → FindsAgain again before unasked after
finds_unasked again before after continues a stands next finds sound = ∥∥₁_map (continues a stands) (λ it.
    (it.0, it.1, content_found after again next finds sound it.0 it.2))

-- Files are closed only after work that succeeded.
work_done : {D : Type 0} {g : disk.Ghosts D} (P : Type 0) (k : SqlSpaceModel (FileStore D g)) (done : Result (Unit {0}) Fault) (files : Files D) → OnOk done P → EndsClosing done k (Ok files) → P × ClosesFiles k files
work_done P k (Ok x) files p closes = (p, closes)
work_done P k (Err why) files p never = absurd never

-- After a failure something is left of the space.
space_left : {D : Type 0} {g : disk.Ghosts D} (k : SqlSpaceModel (FileStore D g)) (done : Result (Unit {0}) Fault) (failure : Failure D g) → EndsClosing done k (Err failure) → LeavesSpace k failure.left
space_left k (Ok x) failure ends = ends.1
space_left k (Err why) failure ends = ends.1

-- No call was made, or clients were answered, however the work ended.
served_or_not : (N P : Type 0) (done : Result (Unit {0}) Fault) → OnOk done P → OnErr done (N ⊎ P) → N ⊎ P
served_or_not N P (Ok x) served part = inr served
served_or_not N P (Err why) served part = part

module _ {D M W : Type 0} {g : disk.Ghosts D} (space : Ghosts (ServedModel (FileStore D g))) (b : backends.Ghosts (Database (ServedModel (FileStore D g)))) (m : moments.Ghosts M) (t : sources.Ghosts W)
    (before : Image) (setup : Setup) (keep : Option ℕ) (watch : TokenWatch W) (opened new : SqlSpaceModel (FileStore D g)) (clock clock' : M) (past now : Option (List HistoryEvent)) (done : Result (Unit {0}) Fault) (finds : FindsSpelt before (words_of over_files) opened)
    (copied : ServesMirrored (words_of over_files) space b m t setup keep watch opened new clock clock' past now done) where
  read : IsOnlyRead (words_of over_files) opened copied.first.space.store
  read = record { sound = copied.reads.sound; whole = copied.reads.whole; no_other = copied.reads.no_other }

  module _ (clients : ServesClients space (quota_pending_of (words_of over_files)) b m t setup keep watch copied.first copied.last clock clock' past now) where
    starts : StartsOver (words_of over_files) space before (first_of clients)
    starts = record {
      opened = opened;
      finds = finds;
      read = subst (λ (k : ServedModel (FileStore D g)). IsOnlyRead (words_of over_files) opened k.space.store) (sym clients.starts.space_is) read;
      calm = ap (λ (k : ServedModel (FileStore D g)). is_pending_in k.space) clients.starts.space_is ∙ copied.calm;
      goes = clients.starts.goes;
    }

    by_store : IsSoundByStore (words_of over_files) space (space_of (last_of clients))
    by_store = subst (λ (k : ServedModel (FileStore D g)). IsSoundByStore (words_of over_files) space k) clients.ends copied.sound

    released : new ≡ (space_of (last_of clients)).space.store
    released = copied.released ∙ ap (λ (k : ServedModel (FileStore D g)). k.space.store) clients.ends

    closed : (files : Files D) → ClosesFiles new files → ClosesFiles (space_of (last_of clients)).space.store files
    closed files closes = subst (λ (k : SqlSpaceModel (FileStore D g)). ClosesFiles k files) released closes

    left : (last : FileStore D g) → LeavesFiles new last → LeavesFiles (space_of (last_of clients)).space.store last
    left last leaves = subst (λ (k : SqlSpaceModel (FileStore D g)). LeavesFiles k last) released leaves

    abbrev run : RunOver (words_of over_files) space before
    run = record {
      old = first_of clients;
      purged = clients.calls.serves.last;
      mid = last_of clients;
      new = last_of clients;
      segments = clients.calls.serves.segments;
      batches = clients.calls.serves.batches;
      calls = [];
      starts = starts;
      segments_made = clients.calls.serves.segments_made;
      batches_made = clients.calls.serves.made;
      calls_made = refl;
      sound = by_store;
    }

    module _ {T : Type 0} (again : Ghosts (SqlSpaceModel T)) (after : Image) (law : ContinuesInBatchesClosed (words_of over_files) space) where
      served_found : (files : Files D) → ClosesFiles new files → AreClean g files.log files.db → FilesHave g files after
          → ServedIsFound space (quota_pending_of (words_of over_files)) b m t setup keep watch again clock clock' past now before after
      served_found files closes clean have =
          let both = law before after run files (closed files closes) clean have in
          record {
            first = copied.first;
            last = copied.last;
            clients = clients;
            found = finds_again again before after (first_of clients) clients.calls.serves.segments clients.calls.serves.batches both.0;
            without_log = finds_again again before _ (first_of clients) clients.calls.serves.segments clients.calls.serves.batches both.1;
          }

      served_left : ContinuesInBatches (words_of over_files) space → (rest : LeftFiles D g) → LeavesSpace new rest → AreLeft rest after
          → FindsAgain again before (run_purged (first_of clients) clients.calls.serves.segments clients.calls.serves.batches) after
      served_left crash Nothing never are = absurd never
      served_left crash (Closed files) closes are =
          finds_again again before after (first_of clients) clients.calls.serves.segments clients.calls.serves.batches (law before after run files (closed files closes) are.0 are.1).0
      served_left crash (Unclosed last) keeps are =
          finds_again again before after (first_of clients) clients.calls.serves.segments clients.calls.serves.batches (crash before after run last (left last (keeps.files are.1)) are.0 are.2)

  -- No call was made.
  module _ (same : copied.last ≡ copied.first) (a : Airspace) (stands : StandFor before a) where
    abbrev start : SqlSpaceModel (FileStore D g)
    start = copied.first.space.store

    still : new ≡ start
    still = copied.released ∙ ap (λ (k : ServedModel (FileStore D g)). k.space.store) same

    content : is_sound_of over_files start → IsContent (holds_of over_files) opened a
    content sound = content_found before (words_of over_files) opened finds (read.sound sound) a stands

    start_whole : is_sound_of over_files start → is_whole_of over_files start
    start_whole sound = read.whole sound (finds.whole (read.sound sound) a (content sound).held)

    only : is_sound_of over_files start → (b : Airspace) → holds_of over_files start b → b ≡ a
    only sound b held = (content sound).only b (read.no_other sound b held)

    still_closed : (after : Image) (files : Files D) → ClosesFiles start files → AreClean g files.log files.db → FilesHave g files after → ∥ StandFor after a ∥₁
    still_closed after files closes clean have =
        let sound = closes.sound clean in
        ∥∥₁_map (closes.held clean (start_whole sound) after have) (λ it. subst (λ (b : Airspace). StandFor after b) (only sound it.0 it.1) (inl (Two, it.2)))

    still_left : (after : Image) (last : FileStore D g) → LeavesFiles start last → IsClean (store.view last) → FilesLeft last after → ∥ StandFor after a ∥₁
    still_left after last leaves clean may =
        let sound = leaves.sound clean in
        ∥∥₁_map (leaves.held clean (start_whole sound) after may) (λ it. subst (λ (b : Airspace). StandFor after b) (only sound it.0 it.1) (inl (Two, it.2)))

    still_stands : (after : Image) (rest : LeftFiles D g) → LeavesSpace new rest → AreLeft rest after → ∥ StandFor after a ∥₁
    still_stands after Nothing never are = absurd never
    still_stands after (Closed files) closes are = still_closed after files (subst (λ (k : SqlSpaceModel (FileStore D g)). ClosesFiles k files) still closes) are.0 are.1
    still_stands after (Unclosed last) keeps are = still_left after last (subst (λ (k : SqlSpaceModel (FileStore D g)). LeavesFiles k last) still (keeps.files are.1)) are.0 are.2

  unasked_left : {T : Type 0} (again : Ghosts (SqlSpaceModel T)) (after : Image) (rest : LeftFiles D g) → copied.last ≡ copied.first → LeavesSpace new rest → AreLeft rest after → FindsAgain again before unasked after
  unasked_left again after rest same leaves are =
      finds_unasked again before after (λ a stands. ∥∥₁_map (still_stands same a stands after rest leaves are) (λ it. (a, unasked_comes [] a, it)))

  found_left : {T : Type 0} (again : Ghosts (SqlSpaceModel T)) (after : Image) → ContinuesInBatchesClosed (words_of over_files) space → ContinuesInBatches (words_of over_files) space → (rest : LeftFiles D g)
      → LeavesSpace new rest → AreLeft rest after → (clients : MayServe space (quota_pending_of (words_of over_files)) b m t setup keep watch copied.first copied.last clock clock' past now)
      → FindsAgain again before (run_if_served space (quota_pending_of (words_of over_files)) b m t setup keep watch again clock clock' past now before after clients) after
  found_left again after closed_law crash_law rest leaves are (inl none) = unasked_left again after rest none.0 leaves are
  found_left again after closed_law crash_law rest leaves are (inr clients) = served_left clients again after closed_law crash_law rest leaves are

pub next_start_finds : {D T M W : Type 0} {g : disk.Ghosts D} (space : Ghosts (ServedModel (FileStore D g))) (b : backends.Ghosts (Database (ServedModel (FileStore D g)))) (m : moments.Ghosts M) (t : sources.Ghosts W) (again : Ghosts (SqlSpaceModel T))
    → ContinuesInBatchesClosed (words_of over_files) space → (before after : Image) (setup : Setup) (keep : Option ℕ) (watch : TokenWatch W) (opened : SqlSpaceModel (FileStore D g)) (clock clock' : M) (past now : Option (List HistoryEvent)) (files : Files D) → FindsSpelt before (words_of over_files) opened
    → ClosesServed (words_of over_files) space b m t setup keep watch opened clock clock' past now (Ok files) → AreClean g files.log files.db → FilesHave g files after → ServedIsFound space (quota_pending_of (words_of over_files)) b m t setup keep watch again clock clock' past now before after
next_start_finds space b m t again law before after setup keep watch opened clock clock' past now files finds it clean have =
    let both = work_done (ServesClients space (quota_pending_of (words_of over_files)) b m t setup keep watch it.served.first it.served.last clock clock' past now) it.new it.done files it.served.served it.closed in
    served_found space b m t before setup keep watch opened it.new clock clock' past now it.done finds it.served both.0 again after law files both.1 clean have

pub next_start_finds_left : {D T M W : Type 0} {g : disk.Ghosts D} (space : Ghosts (ServedModel (FileStore D g))) (b : backends.Ghosts (Database (ServedModel (FileStore D g)))) (m : moments.Ghosts M) (t : sources.Ghosts W) (again : Ghosts (SqlSpaceModel T))
    → ContinuesInBatchesClosed (words_of over_files) space → ContinuesInBatches (words_of over_files) space
    → (before after : Image) (setup : Setup) (keep : Option ℕ) (watch : TokenWatch W) (opened : SqlSpaceModel (FileStore D g)) (clock clock' : M) (past now : Option (List HistoryEvent)) (failure : Failure D g) → FindsSpelt before (words_of over_files) opened
    → ClosesServed (words_of over_files) space b m t setup keep watch opened clock clock' past now (Err failure) → AreLeft failure.left after → FailedIsFound space (quota_pending_of (words_of over_files)) b m t setup keep watch again clock clock' past now before after
next_start_finds_left space b m t again closed_law crash_law before after setup keep watch opened clock clock' past now failure finds it are =
    let clients = served_or_not ((it.served.last ≡ it.served.first) × (clock' ≡ clock) × (now ≡ past)) (ServesClients space (quota_pending_of (words_of over_files)) b m t setup keep watch it.served.first it.served.last clock clock' past now) it.done it.served.served it.served.part in
    record {
      first = it.served.first;
      last = it.served.last;
      clients = clients;
      found = found_left space b m t before setup keep watch opened it.new clock clock' past now it.done finds it.served again after closed_law crash_law failure.left (space_left it.new it.done failure it.closed) are clients;
    }
