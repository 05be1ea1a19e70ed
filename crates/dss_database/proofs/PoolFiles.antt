-- A database of a pool: what a log made of it, and what was loaded of it.
use Rattle.std.specs.Prelude.{◌≡◌, ◌⊎◌, ℕ, List, [], length, Option, None, Result, Ok, Err, IfErr, IfOk, OnOk, false, refl}
use Rattle.std.proofs.Common.{ap, sym, subst, inl, inr, ◌∙◌}
use Rattle.std.proofs.Math.Logic.{∥∥₁_elim, ∥∥₁_map}
use Rattle.std.proofs.Math.Nat.{ℕ_set}
use mathlib.Core.List.{is_set}
use mathlib.Core.Sum.{⊎_set}
use Rattle.sqlite_disk.specs.declared.Disk as disk
use Rattle.sqlite_disk.specs.declared.Files.{Files}
use Rattle.sqlite_store.specs.declared.store.FileStore.{FileStore}
use Rattle.sqlite.specs.Recovery.{Image}
use Rattle.sqlite.specs.WalReads.{AreClean}
use Rattle.entity_core.specs.Airspace.{Airspace}
use Rattle.pool_core.specs.Log.{Continues, LogEvent}
use Rattle.pool_core.specs.declared.log.Log as logs
use Rattle.pool_follow.specs.Follower.{Follows, HasFollowed, ReachesEnd, Stays, airspace_of, entries_in}
use Rattle.pool_follow.specs.Parts.{count_taken, log_of, salt_in, space_in}
use Rattle.pool_follow.specs.declared.follow_fault.FollowFault.{FollowFault}
use Rattle.pool_follow.specs.declared.follower.Follower.{Follower}
use Rattle.service_calls.specs.Held.{space_of}
use Rattle.service_calls.specs.declared.service.Service.{Service}
use Rattle.service_recovery.specs.Crash.{pending_of}
use Rattle.service_recovery.specs.InBatches.{IsOnlyRead, SomeIsHeld}
use Rattle.service_recovery.specs.Life.{StandFor}
use Rattle.service_recovery.proofs.Lives.{content_found}
use Rattle.space_core.specs.Space.{IsContent, Reads}
use Rattle.space_core.specs.declared.space.Space as spaces
use Rattle.space_core.specs.declared.space.SpaceFault.{SpaceFault}
use Rattle.space_memory.specs.Memory.{content_of}
use Rattle.space_memory.specs.declared.memory.MemorySpace.{MemorySpace}
use Rattle.space_mirror.specs.Mirrored.{MirroredModel, is_pending_in}
use Rattle.space_sql.specs.Found.{FilesSpell, FindsSpelt}
use Rattle.space_sql.specs.Holding.{SqlSpaceModel}
use Rattle.space_sql.specs.Restart.{ClosesFiles, FilesHave, without_log}
use Rattle.space_sql.specs.declared.left_files.LeftFiles.{LeftFiles}
use Rattle.space_sql_load.specs.Checking.{loaded_airspace}
use Rattle.space_sql_load.specs.declared.table_check.LoadedAirspace.{LoadedAirspace}
use Rattle.space_sql_schema.specs.declared.format.Format.TheVariants.{Two}
use Rattle.dss_command.specs.declared.fault.Fault.{Fault}
use Rattle.dss_command.specs.declared.fault.Fault.TheVariants.{DatabaseFailed, Memory}
use Rattle.dss_database.specs.Files.{EndsClosing, IsOfDatabase, KeepsAirspace, KeepsAirspaceIn, LeavesSpace}
use Rattle.dss_database.specs.PoolFiles.{EndsFollowing, FollowsFiles, FollowsLog, FollowsSpace, IsOfFollowing, LoadsFiles, LoadsSpace}
use Rattle.dss_database.specs.declared.failure.Failure.{Failure}
use Rattle.dss_database.proofs.Purging.{IsGroupOver}
use Rattle.dss_database.proofs.Reporting.{IsOver, done_closed, kept_after, stand_only}

-- ---- following over a store

events_set : IsSet LogEvent
events_set = hlevel (ℕ_set, ⊎_set, is_set)

history_set : IsSet (Option (List LogEvent))
history_set = hlevel (events_set, ⊎_set, is_set)

module _ {L S : Type 0} (gl : logs.Ghosts L) (tables : spaces.Ghosts S) (space : spaces.Ghosts (MirroredModel S)) (some : SomeIsHeld tables) (over : IsGroupOver tables space) where
  -- A space holds the same after it was read, also if that broke it.
  content_read : {T : Type 0} (P : Airspace → T → Type 0) (old new : S) (answer : Result T SpaceFault) → Reads tables.holds tables.is_sound tables.is_whole old new answer P → tables.is_sound new → tables.is_whole old → (a : Airspace) → IsContent tables.holds old a
      → ∥ IsContent tables.holds new a ∥₁
  content_read P old new answer reads sound whole a content =
      ∥∥₁_map (some new sound (reads.whole sound whole)) (λ it.
      let only = λ (b : Airspace) (held : tables.holds new b). content.only b (reads.no_other sound b held) in
      record { held = subst (λ b. tables.holds new b) (only it.0 it.1) it.1; only = only })

  module _ (salt : List ℕ) (past : Option (List LogEvent)) (old : S) (first : MirroredModel S) (service : Service (MirroredModel S)) (started ended : Follower L (MirroredModel S)) (serves : space_of service ≡ first)
      (starts : (start : Airspace) → (space.is_sound (space_of service) → IsContent space.holds (space_of service) start) → HasFollowed gl space past start [] started) (same : space_in started ≡ first) (salted : salt_in started ≡ salt)
      (calm : is_pending_in first ≡ false) (stays : Stays gl space started ended) (follows : Follows gl space (pending_of tables) started ended) where
    -- From one airspace of the tables before to the one after.
    from_content : (a : Airspace) → IsContent tables.holds first.store a → HasFollowed gl space past a follows.events ended
    from_content a content = follows.did.after past a [] (starts a (λ sound. subst (λ (k : MirroredModel S). IsContent space.holds k a) (sym serves) (record {
      held = (over.holds first a calm).1 content.held;
      only = λ b held. content.only b ((over.holds first b calm).0 held);
    })))

    went_on : (a : Airspace) → ∥ IsContent tables.holds first.store a ∥₁ → FollowsLog past (gl.history (log_of ended)) follows.events
    went_on a content = record {
      logged = ∥∥₁_elim content (history_set _ _) (λ it. (from_content a it).logged);
      end = subst (λ n. ReachesEnd follows.events n) (∥∥₁_elim content (ℕ_set (count_taken ended) (length (entries_in follows.events))) (λ it. (from_content a it).taken)) follows.end;
    }

    made : space.is_sound (space_in ended) → (a : Airspace) → ∥ IsContent tables.holds first.store a ∥₁ → ∥ IsContent tables.holds (space_in ended).store (airspace_of salt a follows.events) ∥₁
    made sound a content = ∥∥₁_map content (λ it.
        let after = (from_content a it).held sound in
        subst (λ (s : List ℕ). IsContent tables.holds (space_in ended).store (airspace_of s a follows.events)) (stays.salt ∙ salted) (record {
          held = (over.holds (space_in ended) _ follows.calm).0 after.held;
          only = λ b held. after.only b ((over.holds (space_in ended) b follows.calm).1 held);
        }))

    by_store : {T : Type 0} (P : Airspace → T → Type 0) (answer : Result T SpaceFault) → Reads tables.holds tables.is_sound tables.is_whole old first.store answer P → (tables.is_sound (space_in ended).store → space.is_sound (space_in ended))
        → FollowsSpace tables salt past (gl.history (log_of ended)) old (space_in ended).store
    by_store P answer reads sound =
        let was_sound = λ (is : tables.is_sound (space_in ended).store). over.sound first (subst (λ (k : MirroredModel S). space.is_sound k) same (stays.sound (sound is))) in
        let read = λ (is : tables.is_sound (space_in ended).store) (whole : tables.is_whole old) (a : Airspace) (content : IsContent tables.holds old a). content_read P old first.store answer reads (was_sound is) whole a content in
        record {
          events = follows.events;
          sound = λ is. reads.sound (was_sound is);
          whole = λ is whole. (over.whole (space_in ended)).0 (stays.whole (sound is) (subst (λ (k : MirroredModel S). space.is_whole k) (sym same) ((over.whole first).1 (reads.whole (was_sound is) whole))));
          followed = λ is whole a content. went_on a (read is whole a content);
          content = λ is whole a content. made (sound is) a (read is whole a content);
        }

    -- The same, of the parts of the follower.
    pub followed_by_store : {T : Type 0} (P : Airspace → T → Type 0) (answer : Result T SpaceFault) → Reads tables.holds tables.is_sound tables.is_whole old first.store answer P → (log : L) (mirrored : MirroredModel S) (new : S) → log ≡ log_of ended → mirrored ≡ space_in ended
        → new ≡ mirrored.store → (tables.is_sound new → space.is_sound mirrored) → FollowsSpace tables salt past (gl.history log) old new
    followed_by_store P answer reads log mirrored new log_is mirrored_is new_is sound =
        let store_is = new_is ∙ ap (λ (k : MirroredModel S). k.store) mirrored_is in
        subst (λ (s : S). FollowsSpace tables salt past (gl.history log) old s) (sym store_is) (subst (λ (l : L). FollowsSpace tables salt past (gl.history l) old (space_in ended).store) (sym log_is)
        (by_store P answer reads (λ is. subst (λ (k : MirroredModel S). space.is_sound k) mirrored_is (sound (subst (λ (s : S). tables.is_sound s) (sym store_is) is)))))

-- ---- how following ends

-- A property that holds after following.
pub end_ok : (P Q : Type 0) (followed : Result (Unit {0}) FollowFault) (done : Result (Unit {0}) Fault) → EndsFollowing followed done → OnOk followed P → (P → Q) → OnOk done Q
end_ok P Q (Ok x) done ends p then = subst (λ (d : Result (Unit {0}) Fault). OnOk d Q) (sym ends) (then p)
end_ok P Q (Err why) done ends p then = subst (λ (d : Result (Unit {0}) Fault). OnOk d Q) (sym ends) tt

pub end_told : (followed : Result (Unit {0}) FollowFault) (done : Result (Unit {0}) Fault) → EndsFollowing followed done → IfErr done IsOfFollowing
end_told (Ok x) done ends = subst (λ (d : Result (Unit {0}) Fault). IfErr d IsOfFollowing) (sym ends) tt
end_told (Err why) done ends = subst (λ (d : Result (Unit {0}) Fault). IfErr d IsOfFollowing) (sym ends) (why, refl)

-- ---- over files

module _ {D : Type 0} {g : disk.Ghosts D} (space : spaces.Ghosts (SqlSpaceModel (FileStore D g))) (image : Image) (old new : SqlSpaceModel (FileStore D g)) (finds : FindsSpelt image space old) (over : IsOver space) where
  -- ---- a log that was followed

  follow_closed : (salt : List ℕ) (past now : Option (List LogEvent)) → FollowsSpace space salt past now old new → (files : Files D) → ClosesFiles new files → FollowsFiles g image salt past now files
  follow_closed salt past now follows files closes =
      let sound = λ (clean : AreClean g files.log files.db). over.sound new (closes.sound clean) in
      let content = λ (clean : AreClean g files.log files.db) (a : Airspace) (stands : StandFor image a). content_found image space old finds (follows.sound (sound clean)) a stands in
      let whole = λ (clean : AreClean g files.log files.db) (a : Airspace) (stands : StandFor image a). finds.whole (follows.sound (sound clean)) a (content clean a stands).held in
      record {
        events = follows.events;
        followed = λ clean a stands. follows.followed (sound clean) (whole clean a stands) a (content clean a stands);
        left = λ clean a stands left have.
            let held = closes.held clean (over.whole new (follows.whole (sound clean) (whole clean a stands))) left have in
            ∥∥₁_elim (follows.content (sound clean) (whole clean a stands) a (content clean a stands)) squash₁ (λ after. ∥∥₁_map held (λ it.
            let same = after.only it.0 (over.holds new it.0 it.1) in
            (subst (λ b. FilesSpell Two left b) same it.2, subst (λ b. FilesSpell Two (without_log left) b) same it.3)));
      }

  pub follow_told : (salt : List ℕ) (past now : Option (List LogEvent)) (done : Result (Unit {0}) Fault) (result : Result (Files D) (Failure D g)) → OnOk done (FollowsSpace space salt past now old new) → EndsClosing done new result → IfOk result (FollowsFiles g image salt past now)
  follow_told salt past now done result follows ends = done_closed new (FollowsSpace space salt past now old new) (FollowsFiles g image salt past now) done result follows ends (follow_closed salt past now)

  -- ---- loading

  -- A space that was only read since it was opened has the airspace of the files.
  still : IsOnlyRead space old new → space.is_sound new → (a : Airspace) → StandFor image a → space.is_whole new × ((b : Airspace) → space.holds new b → b ≡ a)
  still read is a stands =
      let content = content_found image space old finds (read.sound is) a stands in
      (read.whole is (finds.whole (read.sound is) a content.held), λ b held. content.only b (read.no_other is b held))

  -- So has what is left of its files after the close.
  pub read_left : IsOnlyRead space old new → (left : LeftFiles D g) → LeavesSpace new left → KeepsAirspaceIn image left
  read_left read left leaves a stands = stand_only space (λ b. b ≡ a) over new left leaves (λ is. still read is a stands)

  pub load_told : (memory : MemorySpace) → LoadsSpace space old new (Ok memory) → (files : Files D) → ClosesFiles new files → LoadsFiles g image memory files
  load_told memory loads files closes = record {
    loaded = λ clean a stands.
        let is = over.sound new (closes.sound clean) in
        loads.loaded is a (content_found image space old finds (loads.read.sound is) a stands).held;
    kept = kept_after space image None None over new files closes (still loads.read);
  }

-- ---- loading over a store

module _ {S : Type 0} (tables : spaces.Ghosts S) (old new : S) (read : IsOnlyRead tables old new) where
  -- A loaded airspace came into memory, or memory ran out.
  pub from_loaded : (loaded : LoadedAirspace) → (tables.is_sound new → (a : Airspace) → tables.holds old a → loaded_airspace loaded ≡ a) → (done : Result MemorySpace Fault) → IfOk done (λ memory. content_of memory ≡ loaded_airspace loaded) → IfErr done (λ why. why ≡ Memory)
      → LoadsSpace tables old new done
  from_loaded loaded all (Ok memory) content why = record { read = read; loaded = λ sound a held. content ∙ all sound a held; fault = tt }
  from_loaded loaded all (Err fault) content why = record { read = read; loaded = tt; fault = inr why }

  -- The tables could not be read.
  pub from_nothing : LoadsSpace tables old new (Err DatabaseFailed)
  from_nothing = record { read = read; loaded = tt; fault = inl refl }

-- ---- faults

-- The fault of a log that could not be followed.
pub why_unfollowed : {D : Type 0} {g : disk.Ghosts D} (k : SqlSpaceModel (FileStore D g)) (done : Result (Unit {0}) Fault) (result : Result (Files D) (Failure D g)) → IfErr done IsOfFollowing → EndsClosing done k result
    → IfErr result (λ failure. IsOfDatabase failure.fault ⊎ IsOfFollowing failure.fault)
why_unfollowed k (Ok x) (Ok files) why closes = tt
why_unfollowed k (Ok x) (Err failure) why ends = inl (inr ends.0)
why_unfollowed k (Err fault) (Ok files) why never = tt
why_unfollowed k (Err fault) (Err failure) why ends = inr (subst (λ (f : Fault). IsOfFollowing f) (sym ends.0) why)

-- The fault of a failed loading.
pub why_unloaded : (why found : Fault) → found ≡ why → (why ≡ DatabaseFailed) ⊎ (why ≡ Memory) → IsOfDatabase found ⊎ (found ≡ Memory)
why_unloaded why found same kind = subst (λ (f : Fault). IsOfDatabase f ⊎ (f ≡ Memory)) (sym same) (elim kind [
  | inl it ↦ inl (inr it)
  | inr it ↦ inr it
])
