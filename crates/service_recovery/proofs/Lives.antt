-- Proofs about successive runs.
use Rattle.std.specs.Prelude.{◌≡◌, ◌∷◌, ℕ, List, [], ◌++◌, false, refl}
use Rattle.std.proofs.Common.{inl, inr, sym, subst}
use Rattle.std.proofs.Math.Logic.{∥∥₁_elim, ∥∥₁_map}
use Rattle.sqlite_disk.specs.declared.Disk as disk
use Rattle.sqlite_disk.specs.declared.Files.{Files}
use Rattle.sqlite_store.specs.declared.store.FileStore.{FileStore}
use Rattle.sqlite_store.specs.FileStore as store
use Rattle.sqlite_trees.specs.Tree.{Trees}
use Rattle.sqlite_trees.specs.View.{IsClean}
use Rattle.sqlite.specs.Files.{HoldsDatabase, file_state, over_files}
use Rattle.sqlite.specs.Held.{Held}
use Rattle.sqlite.specs.Recovery.{Image}
use Rattle.sqlite.specs.State.{HasCleanDisk}
use Rattle.sqlite.specs.WalReads.{AreClean}
use Rattle.entity_core.specs.Airspace.{Airspace}
use Rattle.space_core.specs.Space.{IsContent}
use Rattle.space_core.specs.declared.space.Space.{Ghosts}
use Rattle.service_step.specs.Step.{step}
use Rattle.service_step.specs.declared.reply.Reply.{Reply}
use Rattle.service_step.specs.declared.reply.Reply.TheVariants.{Done, Denied, Fault, Stopped}
use Rattle.service_calls.specs.declared.service.Service.{Service}
use Rattle.service_calls.specs.Held.{is_shut, salt_of, space_of}
use Rattle.service_calls.specs.Run.{Answered, AskedInOrder, MayHaveStepped, TimedCall, airspace_after, answered_calls, has_stopped}
use Rattle.service_calls.proofs.Runs.{answered}
use Rattle.space_sql_schema.specs.declared.format.Format.TheVariants.{Two}
use Rattle.space_sql_open.specs.declared.open_fault.OpenFault.{OpenFault}
use Rattle.space_sql.specs.Closing.{ClosesTrees}
use Rattle.space_sql.specs.Found.{FilesSpell, FindsSpelt, RefusesFound}
use Rattle.space_sql.specs.Holding.{SqlSpaceModel, holds_of, is_sound_of, is_whole_of}
use Rattle.space_sql.specs.Restart.{ClosesFiles, FilesHave, FilesLeft, LeavesFiles, LeavesTrees, without_log}
use Rattle.service_calls.specs.Purged.{AreDeliveredAndDurable}
use Rattle.service_recovery.specs.Life.{Continues, Lives, MayComeOfAll, Run, StandFor, alone, run_of, unasked}
use Rattle.service_recovery.proofs.Crashes.{words_of}
use Rattle.service_recovery.proofs.Persisting.{alone_is_stepped, alone_is_told, unasked_comes}

pub content_found : {T : Type 0} (image : Image) (space : Ghosts (SqlSpaceModel T)) (k : SqlSpaceModel T) → FindsSpelt image space k → space.is_sound k → (a : Airspace) → StandFor image a → IsContent space.holds k a
content_found image space k finds sound a (inl it) = finds.spelt sound it.0 a it.1
content_found image space k finds sound a (inr it) = subst (λ b. IsContent space.holds k b) (sym it.1) (finds.new sound it.0)

module _ {D : Type 0} {g : disk.Ghosts D} (before : Image) (old new : Service (SqlSpaceModel (FileStore D g))) (calls : List TimedCall) (replies : List Reply) (goes : is_shut old ≡ false) (finds : FindsSpelt before (words_of over_files) (space_of old)) (asked : AskedInOrder (words_of over_files) old calls replies new) where
  -- The calls of a run, at its end, were answered.
  all : Answered (words_of over_files) old calls replies new
  all = answered (words_of over_files) old calls replies new asked

  content : is_sound_of over_files (space_of new) → (a : Airspace) → StandFor before a → IsContent (holds_of over_files) (space_of old) a
  content sound a stands = content_found before (words_of over_files) (space_of old) finds (all.stays.sound sound) a stands

  whole : is_sound_of over_files (space_of new) → (a : Airspace) → StandFor before a → is_whole_of over_files (space_of new)
  whole sound a stands = all.stays.whole sound (finds.whole (all.stays.sound sound) a (content sound a stands).held)

  kept : is_sound_of over_files (space_of new) → (a : Airspace) → StandFor before a → (b : Airspace) → holds_of over_files (space_of new) b → AreDeliveredAndDurable (salt_of old) a [] (alone calls replies ∷ []) b
  kept sound a stands b held =
      let runs = all.runs goes sound a (content sound a stands) in
      (alone_is_told (salt_of old) a calls replies all.one_each runs.replies, (alone_is_stepped (salt_of old) a b calls replies).1 (runs.kept b held))

  pub served : (after : Image) (last : FileStore D g) → LeavesFiles (space_of new) last → IsClean (store.view last) → FilesLeft last after → Continues before (run_of old (alone calls replies ∷ [])) after
  served after last left clean may a stands =
      let sound = left.sound clean in
      ∥∥₁_map (left.held clean (whole sound a stands) after may) (λ it. (it.0, kept sound a stands it.0 it.1, inl (Two, it.2)))

  pub closed : (after : Image) (files : Files D) → ClosesFiles (space_of new) files → AreClean g files.log files.db → FilesHave g files after → Continues before (run_of old (alone calls replies ∷ [])) after × Continues before (run_of old (alone calls replies ∷ [])) (without_log after)
  closed after files closes clean have =
      let sound = closes.sound clean in
      let found = λ (a : Airspace) (stands : StandFor before a). closes.held clean (whole sound a stands) after have in (
        (λ a stands. ∥∥₁_map (found a stands) (λ it. (it.0, kept sound a stands it.0 it.1, inl (Two, it.2)))),
        (λ a stands. ∥∥₁_map (found a stands) (λ it. (it.0, kept sound a stands it.0 it.1, inl (Two, it.3)))),
      )

module _ {D : Type 0} {g : disk.Ghosts D} (before : Image) (back : Held (FileStore D g)) (fault : OpenFault) (refuses : RefusesFound before (file_state back) fault) where
  stands_on : (after : Image) → HasCleanDisk (file_state back) → (a : Airspace) → StandFor before a → (db : Trees) → (file_state back).may_leave db → HoldsDatabase after db → StandFor after a
  stands_on after clean a (inl it) db may holds = elim (refuses.spelt clean it.0 a it.1 db may) [
    | inl same ↦ inl (it.0, (db, holds, same))
    | inr second ↦ inl (Two, (db, holds, second))
  ]
  stands_on after clean a (inr it) db may holds = elim (refuses.unmade clean it.0 db may) [
    | inl empty ↦ inr (inr (db, holds, empty), it.1)
    | inr made ↦ inl (Two, subst (λ b. FilesSpell Two after b) (sym it.1) (db, holds, made))
  ]

  pub refused : (after : Image) (last : FileStore D g) → LeavesTrees back last → IsClean (store.view last) → FilesLeft last after → Continues before unasked after
  refused after last left clean may a stands = ∥∥₁_map (left.found clean after may) (λ it. (a, unasked_comes [] a, stands_on after (left.clean clean) a stands it.0 it.1 it.2))

  pub refused_closed : (after : Image) (files : Files D) → ClosesTrees back files → AreClean g files.log files.db → FilesHave g files after → Continues before unasked after × Continues before unasked (without_log after)
  refused_closed after files closes clean have = (
    (λ a stands. ∥∥₁_map (closes.found clean after have) (λ it. (a, unasked_comes [] a, stands_on after (closes.clean clean) a stands it.0 it.1 it.2))),
    (λ a stands. ∥∥₁_map (closes.found clean after have) (λ it. (a, unasked_comes [] a, stands_on (without_log after) (closes.clean clean) a stands it.0 it.1 it.3))),
  )

pub life_leaves : (before after : Image) (runs : List Run) (a : Airspace) → StandFor before a → Lives before runs after → ∥ ((b : Airspace) × MayComeOfAll a runs b × StandFor after b) ∥₁
life_leaves before after [] a stands same = ∣ (a, refl, subst (λ image. StandFor image a) (sym same) stands) ∣₁
life_leaves before after (run ∷ runs) a stands lives = ∥∥₁_elim (lives.1 a stands) squash₁ (λ it.
    ∥∥₁_map (life_leaves lives.0 after runs it.0 it.2 lives.2) (λ end. (end.0, (it.0, it.1, end.1), end.2)))

pub life_is_found : {T : Type 0} (again : Ghosts (SqlSpaceModel T)) (before after : Image) (runs : List Run) (a : Airspace) (next : SqlSpaceModel T) → StandFor before a → Lives before runs after → FindsSpelt after again next → again.is_sound next
    → ∥ ((b : Airspace) × MayComeOfAll a runs b × IsContent again.holds next b) ∥₁
life_is_found again before after runs a next stands lives finds sound = ∥∥₁_map (life_leaves before after runs a stands lives) (λ it.
    (it.0, it.1, content_found after again next finds sound it.0 it.2))

pub asked_on : {S : Type 0} (space : Ghosts S) (old mid new : Service S) (calls more : List TimedCall) (replies later : List Reply) → AskedInOrder space old calls replies mid → AskedInOrder space mid more later new → AskedInOrder space old (calls ++ more) (replies ++ later) new
asked_on space old mid new [] more [] later same asked = subst (λ s. AskedInOrder space s more later new) same asked
asked_on space old mid new [] more (r ∷ rs) later never asked = absurd never
asked_on space old mid new (c ∷ cs) more [] later never asked = absurd never
asked_on space old mid new (c ∷ cs) more (r ∷ rs) later first asked = (first.0, first.1, asked_on space first.0 mid new cs more rs later first.2 asked)
