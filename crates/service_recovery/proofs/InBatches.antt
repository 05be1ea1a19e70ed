-- Proofs about a run in batches: what is durable of it is recovered.
use Rattle.std.specs.Prelude.{◌≡◌, ◌∷◌, List, [], ◌++◌, refl}
use Rattle.std.proofs.Common.{inl, sym, subst}
use Rattle.std.proofs.Math.Logic.{∥∥₁_elim, ∥∥₁_map}
use Rattle.sqlite_disk.specs.declared.Disk as disk
use Rattle.sqlite_disk.specs.declared.Files.{Files}
use Rattle.sqlite_store.specs.declared.store.FileStore.{FileStore}
use Rattle.sqlite_store.specs.FileStore as store
use Rattle.sqlite_trees.specs.View.{IsClean}
use Rattle.sqlite.specs.Files.{over_files}
use Rattle.sqlite.specs.Recovery.{Image}
use Rattle.sqlite.specs.WalReads.{AreClean}
use Rattle.entity_core.specs.Airspace.{Airspace}
use Rattle.space_core.specs.Space.{IsContent}
use Rattle.space_core.specs.declared.group_commit.GroupCommit as settles
use Rattle.space_core.specs.declared.space.Space.{Ghosts}
use Rattle.service_calls.specs.declared.service.Service.{Service}
use Rattle.service_calls.specs.Held.{salt_of, space_of}
use Rattle.service_calls.specs.Batches.{CallRecord, CalledInOrder, MadeBatches, Batch, uncommitted}
use Rattle.service_calls.specs.Purged.{MadeSegments, AreDeliveredAndDurable, OpenSegmentIsNotDurable, Segment}
use Rattle.space_quota.specs.QuotaSpace.{QuotaModel}
use Rattle.space_mirror.specs.Mirrored.{MirroredModel}
use Rattle.space_sql_schema.specs.declared.format.Format.TheVariants.{Two}
use Rattle.space_sql.specs.Holding.{SqlSpaceModel, holds_of, is_sound_of, is_whole_of}
use Rattle.space_sql.specs.Restart.{ClosesFiles, FilesHave, FilesLeft, LeavesFiles, without_log}
use Rattle.service_recovery.specs.Crash.{quota_pending_of}
use Rattle.service_recovery.specs.InBatches.{IsSoundByStore, SomeIsHeld, StartsOver}
use Rattle.service_recovery.specs.Life.{Continues, StandFor, run_purged}
use Rattle.service_recovery.proofs.Crashes.{words_of}
use Rattle.service_recovery.proofs.Grouping.{IsBoundOver}
use Rattle.service_recovery.proofs.Lives.{content_found}

-- Lemmas about a space that was sound if it is, and stays whole.
module _ {S : Type 0} (g : Ghosts S) (k : settles.Ghosts S) where
  made_sound : (old new : Service S) (calls : List CallRecord) → CalledInOrder g k old calls new → g.is_sound (space_of new) → g.is_sound (space_of old)
  made_sound old new [] same sound = subst (λ s. g.is_sound (space_of s)) same sound
  made_sound old new (m ∷ ms) made sound = made.1.stays.sound (made_sound made.0 new ms made.3 sound)

  made_whole : (old new : Service S) (calls : List CallRecord) → CalledInOrder g k old calls new → g.is_sound (space_of new) → g.is_whole (space_of old) → g.is_whole (space_of new)
  made_whole old new [] same sound whole = subst (λ s. g.is_whole (space_of s)) (sym same) whole
  made_whole old new (m ∷ ms) made sound whole = made_whole made.0 new ms made.3 sound (made.1.stays.whole (made_sound made.0 new ms made.3 sound) whole)

  batches_sound : (old new : Service S) (batches : List Batch) → MadeBatches g k old batches new → g.is_sound (space_of new) → g.is_sound (space_of old)
  batches_sound old new [] same sound = subst (λ s. g.is_sound (space_of s)) same sound
  batches_sound old new (r ∷ rs) made sound = made_sound old made.0 r.calls made.2 (made.3.settles.sound (batches_sound made.1 new rs made.4 sound))

  batches_whole : (old new : Service S) (batches : List Batch) → MadeBatches g k old batches new → g.is_sound (space_of new) → g.is_whole (space_of old) → g.is_whole (space_of new)
  batches_whole old new [] same sound whole = subst (λ s. g.is_whole (space_of s)) (sym same) whole
  batches_whole old new (r ∷ rs) made sound whole =
      let end = batches_sound made.1 new rs made.4 sound in
      batches_whole made.1 new rs made.4 sound (made.3.settles.whole end (made_whole old made.0 r.calls made.2 (made.3.settles.sound end) whole))

  segments_sound : (old new : Service S) (segments : List Segment) → MadeSegments g k old segments new → g.is_sound (space_of new) → g.is_sound (space_of old)
  segments_sound old new [] same sound = subst (λ s. g.is_sound (space_of s)) same sound
  segments_sound old new (s ∷ ss) made sound = batches_sound old made.0 s.batches made.2 (made.3.2.sound (segments_sound made.1 new ss made.4 sound))

  segments_whole : (old new : Service S) (segments : List Segment) → MadeSegments g k old segments new → g.is_sound (space_of new) → g.is_whole (space_of old) → g.is_whole (space_of new)
  segments_whole old new [] same sound whole = subst (λ s. g.is_whole (space_of s)) (sym same) whole
  segments_whole old new (s ∷ ss) made sound whole =
      let end = segments_sound made.1 new ss made.4 sound in
      segments_whole made.1 new ss made.4 sound (made.3.2.whole end (batches_whole old made.0 s.batches made.2 (made.3.2.sound end) whole))

module _ {D : Type 0} {g : disk.Ghosts D} (space : Ghosts (QuotaModel (MirroredModel (SqlSpaceModel (FileStore D g))))) (over : IsBoundOver (words_of over_files) space) (some : SomeIsHeld {S = SqlSpaceModel (FileStore D g)} (words_of over_files)) (law : OpenSegmentIsNotDurable space (quota_pending_of (words_of over_files)))
    (before : Image) (old purged mid new : Service (QuotaModel (MirroredModel (SqlSpaceModel (FileStore D g))))) (segments : List Segment) (batches : List Batch) (calls : List CallRecord)
    (starts : StartsOver (words_of over_files) space before old) (segments_made : MadeSegments space (quota_pending_of (words_of over_files)) old segments purged) (batches_made : MadeBatches space (quota_pending_of (words_of over_files)) purged batches mid) (calls_made : CalledInOrder space (quota_pending_of (words_of over_files)) mid calls new) (by_store : IsSoundByStore (words_of over_files) space (space_of new)) where
  -- Lemmas about a run at its end, while its store is sound.
  module _ (sound : is_sound_of over_files (space_of new).space.store) (a : Airspace) (stands : StandFor before a) where
    mid_sound : space.is_sound (space_of mid)
    mid_sound = made_sound space (quota_pending_of (words_of over_files)) mid new calls calls_made (by_store sound)

    purged_sound : space.is_sound (space_of purged)
    purged_sound = batches_sound space (quota_pending_of (words_of over_files)) purged mid batches batches_made mid_sound

    first_sound : is_sound_of over_files (space_of old).space.store
    first_sound = over.sound (space_of old) (segments_sound space (quota_pending_of (words_of over_files)) old purged segments segments_made purged_sound)

    opened : IsContent (holds_of over_files) starts.opened a
    opened = content_found before (words_of over_files) starts.opened starts.finds (starts.read.sound first_sound) a stands

    first_whole : is_whole_of over_files (space_of old).space.store
    first_whole = starts.read.whole first_sound (starts.finds.whole (starts.read.sound first_sound) a opened.held)

    only : (b : Airspace) → holds_of over_files (space_of old).space.store b → b ≡ a
    only b held = opened.only b (starts.read.no_other first_sound b held)

    -- A space that was only read still holds the airspace, since it holds one.
    first : ∥ IsContent (holds_of over_files) (space_of old).space.store a ∥₁
    first = ∥∥₁_map (some (space_of old).space.store first_sound first_whole) (λ it. record {
      held = subst (λ b. holds_of over_files (space_of old).space.store b) (only it.0 it.1) it.1;
      only = only;
    })

    last_whole : is_whole_of over_files (space_of new).space.store
    last_whole =
        over.store_whole (space_of new) (made_whole space (quota_pending_of (words_of over_files)) mid new calls calls_made (by_store sound)
        (batches_whole space (quota_pending_of (words_of over_files)) purged mid batches batches_made mid_sound
        (segments_whole space (quota_pending_of (words_of over_files)) old purged segments segments_made purged_sound (over.whole (space_of old) first_whole))))

    kept : IsContent (holds_of over_files) (space_of old).space.store a → (b : Airspace) → holds_of over_files (space_of new).space.store b → AreDeliveredAndDurable (salt_of old) a segments (batches ++ uncommitted calls ∷ []) b
    kept content b held =
        (law old mid new segments batches calls a (record {
          goes = starts.goes;
          calm = starts.calm;
          content = over.calm_content (space_of old) a starts.calm content;
          last = purged;
          segments_made = segments_made;
          made = batches_made;
          sound = mid_sound;
        }) calls_made (by_store sound)).both b held

  pub served : (after : Image) (last : FileStore D g) → LeavesFiles (space_of new).space.store last → IsClean (store.view last) → FilesLeft last after → Continues before (run_purged old segments (batches ++ uncommitted calls ∷ [])) after
  served after last left clean may a stands =
      let sound = left.sound clean in
      ∥∥₁_elim (first sound a stands) squash₁ (λ content.
      ∥∥₁_map (left.held clean (last_whole sound a stands) after may) (λ it. (it.0, kept sound a stands content it.0 it.1, inl (Two, it.2))))

  pub closed : (after : Image) (files : Files D) → ClosesFiles (space_of new).space.store files → AreClean g files.log files.db → FilesHave g files after
      → Continues before (run_purged old segments (batches ++ uncommitted calls ∷ [])) after × Continues before (run_purged old segments (batches ++ uncommitted calls ∷ [])) (without_log after)
  closed after files closes clean have =
      let sound = closes.sound clean in
      let found = λ (a : Airspace) (stands : StandFor before a). closes.held clean (last_whole sound a stands) after have in (
        (λ a stands. ∥∥₁_elim (first sound a stands) squash₁ (λ content. ∥∥₁_map (found a stands) (λ it. (it.0, kept sound a stands content it.0 it.1, inl (Two, it.2))))),
        (λ a stands. ∥∥₁_elim (first sound a stands) squash₁ (λ content. ∥∥₁_map (found a stands) (λ it. (it.0, kept sound a stands content it.0 it.1, inl (Two, it.3))))),
      )
