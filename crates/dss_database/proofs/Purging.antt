-- A purge through the mirror purges the tables, and so the files.
use Rattle.std.specs.Prelude.{◌≡◌, ◌↔◌, ◌⊎◌, ℕ, Bool, true, false, List, Option, Result, Ok, Err, IfErr, IfOk, IsErr, refl}
use Rattle.std.proofs.Common.{arith, sym, ap, subst, inl, inr, ◌∙◌}
use Rattle.std.proofs.Math.Logic.{∥∥₁_map}
use Rattle.std.specs.Io.KnownBytes.{Appends}
use Rattle.sqlite_disk.specs.declared.Disk as disk
use Rattle.sqlite_disk.specs.declared.Files.{Files}
use Rattle.sqlite_store.specs.declared.store.FileStore.{FileStore}
use Rattle.sqlite.specs.Recovery.{Image}
use Rattle.sqlite.specs.WalReads.{AreClean}
use Rattle.entity_core.specs.Airspace.{Airspace}
use Rattle.entity_purge.specs.Purge.{IsPartlyPurged, purged}
use Rattle.entity_purge.proofs.Chunks.{purged_partly}
use Rattle.service_recovery.specs.Life.{StandFor}
use Rattle.service_recovery.proofs.Lives.{content_found}
use Rattle.space_core.specs.Space.{IsContent, Reads, ReportsFault, is_broken_after}
use Rattle.space_core.specs.declared.space.Space as spaces
use Rattle.space_core.specs.declared.space.SpaceFault.{SpaceFault}
use Rattle.space_core.specs.declared.space.SpaceFault.TheVariants.{Broken, Unchanged}
use Rattle.space_sql_load.specs.declared.table_check.LoadedAirspace.{LoadedAirspace}
use Rattle.space_mirror.specs.Mirrored.{MirroredModel, is_pending_in}
use Rattle.space_sql.specs.Found.{FilesSpell, FindsSpelt}
use Rattle.space_sql.specs.Holding.{SqlSpaceModel}
use Rattle.space_sql.specs.Restart.{ClosesFiles, FilesHave, without_log}
use Rattle.space_sql.specs.declared.left_files.LeftFiles.{LeftFiles}
use Rattle.space_sql_schema.specs.declared.format.Format.TheVariants.{Two}
use Rattle.dss_command.specs.Purging.{LeavesPurged, PurgesSpace}
use Rattle.dss_command.specs.declared.purged.PurgeCounts.{PurgeCounts}
use Rattle.dss_command.specs.Print.{purged_line}
use Rattle.dss_command.specs.declared.fault.Fault.{Fault}
use Rattle.dss_command.specs.declared.fault.Fault.TheVariants.{DatabaseFailed, Output}
use Rattle.dss_database.specs.Files.{EndsClosing, IsOfDatabase, LeavesSpace, PurgesFiles, PurgesPartly}
use Rattle.dss_database.specs.declared.failure.Failure.{Failure}
use Rattle.dss_database.proofs.Reporting.{IsOver, stand_only}

-- Relates the properties of a mirrored space without pending changes to those of its store.
pub record IsGroupOver {S : Type 0} (tables : spaces.Ghosts S) (space : spaces.Ghosts (MirroredModel S)) : Type 0 where
  pub holds : (k : MirroredModel S) (a : Airspace) → is_pending_in k ≡ false → space.holds k a ↔ tables.holds k.store a
  pub whole : (k : MirroredModel S) → space.is_whole k ↔ tables.is_whole k.store
  pub sound : (k : MirroredModel S) → space.is_sound k → tables.is_sound k.store
  pub broken : (k : MirroredModel S) → tables.is_broken k.store ≡ true → space.is_broken k ≡ true

still_broken : {T : Type 0} (was now : Bool) (answer : Result T SpaceFault) → now ≡ is_broken_after was answer → was ≡ true → now ≡ true
still_broken was now (Ok x) is broken = is ∙ broken
still_broken was now (Err Unchanged) is broken = is ∙ broken
still_broken was now (Err Broken) is broken = is

-- A read keeps the content, or breaks the space.
content_or_broken : {S T : Type 0} (g : spaces.Ghosts S) (P : Airspace → T → Type 0) (s t : S) (answer : Result T SpaceFault) → ReportsFault (g.refusals s) (g.refusals t) (g.is_broken s) (g.is_broken t) answer
    → Reads g.holds g.is_sound g.is_whole s t answer P → g.is_sound t → (a : Airspace) → IsContent g.holds s a → IsContent g.holds t a ⊎ (g.is_broken t ≡ true)
content_or_broken g P s t (Ok x) tells reads is a content = inl (record { held = reads.stays is a content.held; only = λ b held. content.only b (reads.no_other is b held) })
content_or_broken g P s t (Err Unchanged) tells reads is a content = inl (record { held = reads.stays is a content.held; only = λ b held. content.only b (reads.no_other is b held) })
content_or_broken g P s t (Err Broken) tells reads is a content = inr tells.breaks

-- Nothing is purged from a broken space.
nothing_went : {S : Type 0} (Holds : S → Airspace → Type 0) (until : ℕ) (a : Airspace) (s : S) (told : Result PurgeCounts SpaceFault) → IsErr told → ((b : Airspace) → Holds s b → b ≡ a) → LeavesPurged Holds until a s told
nothing_went Holds until a s (Ok counts) never only = absurd (let wrong : false ≡ true = never in cc)
nothing_went Holds until a s (Err why) fails only = λ b held. subst (λ (c : Airspace). IsPartlyPurged until a c) (sym (only b held)) (record { entities = λ k e there. there; subscriptions = λ id s there. there; same = refl })

-- The content after a purge, carried over to an equivalent representation.
left_too : {S T : Type 0} (Holds : S → Airspace → Type 0) (Held : T → Airspace → Type 0) (until : ℕ) (a : Airspace) (s : S) (t : T) (told : Result PurgeCounts SpaceFault) → ((b : Airspace) → Holds s b ↔ Held t b)
    → LeavesPurged Holds until a s told → LeavesPurged Held until a t told
left_too Holds Held until a s t (Ok counts) same left = (record { held = (same (purged until a)).0 left.0.held; only = λ b held. left.0.only b ((same b).1 held) }, left.1)
left_too Holds Held until a s t (Err why) same left = λ b held. left b ((same b).1 held)

module _ {S T : Type 0} (tables : spaces.Ghosts S) (space : spaces.Ghosts (MirroredModel S)) (until : ℕ) (old : S) (first last : MirroredModel S) (P : Airspace → T → Type 0) (answer : Result T SpaceFault)
    (told : Result PurgeCounts SpaceFault) (tells : ReportsFault (tables.refusals old) (tables.refusals first.store) (tables.is_broken old) (tables.is_broken first.store) answer) (reads : Reads tables.holds tables.is_sound tables.is_whole old first.store answer P)
    (calm : is_pending_in first ≡ false) (still : is_pending_in last ≡ is_pending_in first) (sound : tables.is_sound last.store → space.is_sound last) (purges : PurgesSpace space until first last told) (over : IsGroupOver tables space) where
  was_sound : tables.is_sound last.store → tables.is_sound first.store
  was_sound is = over.sound first (purges.sound (sound is))

  leaves : tables.is_sound last.store → (a : Airspace) → IsContent tables.holds old a → LeavesPurged tables.holds until a last.store told
  leaves is a content = elim (content_or_broken tables P old first.store answer tells reads (was_sound is) a content) [
    | inl read ↦ left_too space.holds tables.holds until a last last.store told (λ b. over.holds last b (still ∙ calm))
        (purges.left (sound is) a (record { held = (over.holds first a calm).1 read.held; only = λ b held. read.only b ((over.holds first b calm).0 held) }))
    | inr broken ↦ nothing_went tables.holds until a last.store told (purges.stays_broken (over.broken first broken))
        (λ b held. content.only b (reads.no_other (was_sound is) b ((over.holds first b calm).0 (purges.frozen (sound is) (over.broken first broken) b ((over.holds last b (still ∙ calm)).1 held)))))
  ]

  pub purged_by_store : PurgesSpace tables until old last.store told
  purged_by_store = record {
    sound = λ is. reads.sound (was_sound is);
    whole = λ is whole. (over.whole last).0 (purges.whole (sound is) ((over.whole first).1 (reads.whole (was_sound is) whole)));
    left = leaves;
    stays_broken = λ broken. purges.stays_broken (over.broken first (still_broken (tables.is_broken old) (tables.is_broken first.store) answer tells.breaks broken));
    frozen = λ is broken b held.
        let is_broken = over.broken first (still_broken (tables.is_broken old) (tables.is_broken first.store) answer tells.breaks broken) in
        reads.no_other (was_sound is) b ((over.holds first b calm).0 (purges.frozen (sound is) is_broken b ((over.holds last b (still ∙ calm)).1 held)));
  }

-- What is left is partly purged, however the purge ended.
partly_left : {S : Type 0} (Holds : S → Airspace → Type 0) (until : ℕ) (a : Airspace) (s : S) (told : Result PurgeCounts SpaceFault) → LeavesPurged Holds until a s told → (b : Airspace) → Holds s b → IsPartlyPurged until a b
partly_left Holds until a s (Ok counts) left b held = subst (λ (c : Airspace). IsPartlyPurged until a c) (sym (left.0.only b held)) (purged_partly until until a (omega arith))
partly_left Holds until a s (Err why) left b held = left b held

module _ {D : Type 0} {g : disk.Ghosts D} (space : spaces.Ghosts (SqlSpaceModel (FileStore D g))) (image : Image) (until : ℕ) (old new : SqlSpaceModel (FileStore D g)) (finds : FindsSpelt image space old) (over : IsOver space) where
  -- Closed files represent every property that holds of each possible airspace of the space.
  spelt : (P : Airspace → Type 0) (files : Files D) → ClosesFiles new files → AreClean g files.log files.db → space.is_whole new → ((b : Airspace) → space.holds new b → P b) → (left : Image) → FilesHave g files left
      → ∥ ((b : Airspace) × P b × FilesSpell Two left b × FilesSpell Two (without_log left) b) ∥₁
  spelt P files closes clean whole each left have = ∥∥₁_map (closes.held clean (over.whole new whole) left have) (λ it. (it.0, each it.0 (over.holds new it.0 it.1), it.2, it.3))

  module _ (told : Result PurgeCounts SpaceFault) (purges : PurgesSpace space until old new told) where
    content : space.is_sound new → (a : Airspace) → StandFor image a → IsContent space.holds old a
    content is a stands = content_found image space old finds (purges.sound is) a stands

    whole : space.is_sound new → (a : Airspace) → StandFor image a → space.is_whole new
    whole is a stands = purges.whole is (finds.whole (purges.sound is) a (content is a stands).held)

    partly : space.is_sound new → (a : Airspace) → StandFor image a → (b : Airspace) → space.holds new b → IsPartlyPurged until a b
    partly is a stands = partly_left space.holds until a new told (purges.left is a (content is a stands))

    pub stands_partly : (left : LeftFiles D g) → LeavesSpace new left → PurgesPartly space image until left
    stands_partly rest leaves = record {
      opened = old;
      finds = finds;
      new = new;
      done = told;
      purged = purges;
      closed = λ files closes clean a stands left have.
          let is = over.sound new (closes.sound clean) in
          spelt (IsPartlyPurged until a) files closes clean (whole is a stands) (partly is a stands) left have;
      crashed = λ last left clean a stands after may.
          let is = over.sound new (left.sound clean) in
          ∥∥₁_map (left.held clean (over.whole new (whole is a stands)) after may) (λ it. (it.0, partly is a stands it.0 (over.holds new it.0 it.1), it.2));
      kept = λ a stands. stand_only space (IsPartlyPurged until a) over new rest leaves (λ is. (whole is a stands, partly is a stands));
    }

  closed_told : (counts : PurgeCounts) → PurgesSpace space until old new (Ok counts) → (files : Files D) → ClosesFiles new files → (before after : Option (List ℕ)) → Appends before after (purged_line counts) → PurgesFiles g image until before after files
  closed_told counts purges files closes before after wrote = record {
    told = λ clean a stands.
        let is = over.sound new (closes.sound clean) in
        (counts, (purges.left is a (content (Ok counts) purges is a stands)).1, wrote);
    left = λ clean a stands left have.
        let is = over.sound new (closes.sound clean) in
        let all = purges.left is a (content (Ok counts) purges is a stands) in
        ∥∥₁_map (spelt (λ b. b ≡ purged until a) files closes clean (whole (Ok counts) purges is a stands) (λ b held. all.0.only b held) left have)
        (λ it. (subst (λ b. FilesSpell Two left b) it.1 it.2, subst (λ b. FilesSpell Two (without_log left) b) it.1 it.3));
  }

  pub purge_told : (told : Result PurgeCounts SpaceFault) (counts : PurgeCounts) → told ≡ Ok counts → PurgesSpace space until old new told → (files : Files D) → ClosesFiles new files → (before after : Option (List ℕ)) → Appends before after (purged_line counts) → PurgesFiles g image until before after files
  purge_told told counts is purges = closed_told counts (subst (λ (t : Result PurgeCounts SpaceFault). PurgesSpace space until old new t) is purges)

-- ---- results of the command

-- If the work ended in a fault, nothing is claimed of closed files.
pub untold : {D : Type 0} {g : disk.Ghosts D} (k : SqlSpaceModel (FileStore D g)) (why : Fault) (result : Result (Files D) (Failure D g)) (P : Files D → Type 0) → EndsClosing (Err why) k result → IfOk result P
untold k why (Ok files) P never = absurd never
untold k why (Err failure) P ends = tt

pub told_failed : {D X : Type 0} {g : disk.Ghosts D} (k : SqlSpaceModel (FileStore D g)) (result : Result (Files D) (Failure D g)) (output : X) → EndsClosing (Err DatabaseFailed) k result
    → IfErr result (λ failure. (IsOfDatabase failure.fault × (output ≡ output)) ⊎ (failure.fault ≡ Output))
told_failed k (Ok files) output never = tt
told_failed k (Err failure) output ends = inl (inr ends.0, refl)
