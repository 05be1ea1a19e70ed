-- Properties of a space are properties of the files from which it was opened.
use Rattle.std.proofs.Common.{◌≡◌, ℕ, Bool, true, false, List, Option, refl, sym, ap, subst, inl, inr, ◌∙◌}
use Rattle.std.specs.Prelude.{◌⊎◌, IfErr, IfOk, IsErrAnd, OnOk, Result, Ok, Err, codes, if◌then◌else◌}
use Rattle.std.proofs.Math.Logic.{∥∥₁_map}
use Rattle.std.specs.Io.KnownBytes.{Appends}
use Rattle.sqlite_disk.specs.declared.Disk as disk
use Rattle.sqlite_disk.specs.declared.Files.{Files}
use Rattle.sqlite_store.specs.declared.store.FileStore.{FileStore}
use Rattle.sqlite.specs.Files.{over_files}
use Rattle.sqlite.specs.Recovery.{Image}
use Rattle.entity_core.specs.Airspace.{Airspace}
use Rattle.service_recovery.specs.Life.{StandFor}
use Rattle.service_recovery.proofs.Lives.{content_found}
use Rattle.space_core.specs.declared.space.Space as spaces
use Rattle.space_sql.specs.Found.{FilesSpell, FindsSpelt}
use Rattle.space_sql.specs.OpenResult.{is_first}
use Rattle.space_sql.specs.Holding.{SqlSpaceModel, holds_of, is_sound_of, is_whole_of}
use Rattle.space_sql.specs.Restart.{ClosesFiles, without_log}
use Rattle.space_sql.specs.declared.left_files.LeftFiles.{LeftFiles}
use Rattle.space_sql.specs.declared.left_files.LeftFiles.TheVariants.{Nothing, Closed, Unclosed}
use Rattle.space_sql_schema.specs.declared.format.Format.{Format}
use Rattle.space_sql_schema.specs.declared.format.Format.TheVariants.{One, TwoUnindexed, Two, OldOne, OldTwoUnindexed, OldTwo}
use Rattle.dss_command.specs.Print.{WritesReport}
use Rattle.dss_command.specs.declared.fault.Fault.{Fault}
use Rattle.dss_command.specs.declared.fault.Fault.TheVariants.{DatabaseFailed, Memory, Output}
use Rattle.dss_database.specs.Copies.{ReportsCopy}
use Rattle.dss_database.specs.Files.{EndsClosing, IsOfDatabase, KeepsAirspace, KeepsAirspaceIn, LeavesSpace, ReportsFiles, ReportsSpace, StandOnlyFor, UpgradesFiles, format_line}
use Rattle.dss_database.specs.declared.failure.Failure.{Failure}

module _ {D : Type 0} {g : disk.Ghosts D} (k : SqlSpaceModel (FileStore D g)) where
  -- A property that holds after successful work, of the files that were closed then.
  pub done_closed : (P : Type 0) (Q : Files D → Type 0) (done : Result (Unit {0}) Fault) (result : Result (Files D) (Failure D g))
      → OnOk done P → EndsClosing done k result → (P → (files : Files D) → ClosesFiles k files → Q files) → IfOk result Q
  done_closed P Q (Ok x) (Ok files) p closes both = both p files closes
  done_closed P Q (Ok x) (Err failure) p ends both = tt
  done_closed P Q (Err why) (Ok files) p never both = absurd never
  done_closed P Q (Err why) (Err failure) p ends both = tt

  -- The properties of work that succeeded.
  pub on_closed : (P : Type 0) (done : Result (Unit {0}) Fault) (result : Result (Files D) (Failure D g)) → OnOk done P → EndsClosing done k result → OnOk result P
  on_closed P (Ok x) (Ok files) p closes = p
  on_closed P (Ok x) (Err failure) p ends = tt
  on_closed P (Err why) (Ok files) p never = absurd never
  on_closed P (Err why) (Err failure) p ends = tt

  -- The fault that a failed report returns.
  pub why_unreported : (done : Result (Unit {0}) Fault) (result : Result (Files D) (Failure D g))
      → IfErr done (λ fault. (fault ≡ DatabaseFailed) ⊎ (fault ≡ Memory) ⊎ (fault ≡ Output)) → EndsClosing done k result
      → IfErr result (λ failure. IsOfDatabase failure.fault ⊎ (failure.fault ≡ Memory) ⊎ (failure.fault ≡ Output))
  why_unreported (Ok x) (Ok files) why closes = tt
  why_unreported (Ok x) (Err failure) why ends = inl (inr ends.0)
  why_unreported (Err fault) (Ok files) why never = tt
  why_unreported (Err fault) (Err failure) why ends = subst (λ f. IsOfDatabase f ⊎ (f ≡ Memory) ⊎ (f ≡ Output)) (sym ends.0) (elim why [
    | inl it ↦ inl (inr it)
    | inr it ↦ inr it
  ])

  -- The fault of a failed close after successful work.
  pub why_unclosed : (result : Result (Files D) (Failure D g)) → EndsClosing (Ok tt) k result → IfErr result (λ failure. IsOfDatabase failure.fault)
  why_unclosed (Ok files) closes = tt
  why_unclosed (Err failure) ends = inr ends.0

  -- A property of what the close left after a fault.
  pub left_anyway : (R : Failure D g → Type 0) (Q : LeftFiles D g → Type 0) (done : Result (Unit {0}) Fault) (result : Result (Files D) (Failure D g))
      → EndsClosing done k result → ((left : LeftFiles D g) → LeavesSpace k left → Q left) → IfErr result (λ failure. R failure ⊎ Q failure.left)
  left_anyway R Q (Ok x) (Ok files) closes each = tt
  left_anyway R Q (Ok x) (Err failure) ends each = inr (each failure.left ends.1)
  left_anyway R Q (Err why) (Ok files) never each = tt
  left_anyway R Q (Err why) (Err failure) ends each = inr (each failure.left ends.1)

-- A property of a fault that is passed on.
pub passed_on : {X D : Type 0} {g : disk.Ghosts D} (P : Failure D g → Type 0) (result : Result X (Failure D g)) (e : Failure D g) → IsErrAnd result (λ y. y ≡ e) → P e → IfErr result P
passed_on P (Ok x) e is p = tt
passed_on P (Err y) e is p = subst P (sym is) p

-- States that the properties of a space over files carry over from its store to the space.
pub record IsOver {D : Type 0} {g : disk.Ghosts D} (space : spaces.Ghosts (SqlSpaceModel (FileStore D g))) : Type 0 where
  pub sound : (k : SqlSpaceModel (FileStore D g)) → is_sound_of over_files k → space.is_sound k
  pub whole : (k : SqlSpaceModel (FileStore D g)) → space.is_whole k → is_whole_of over_files k
  pub holds : (k : SqlSpaceModel (FileStore D g)) (a : Airspace) → holds_of over_files k a → space.holds k a

-- What is left of a closed space represents what the space may hold.
pub stand_only : {D : Type 0} {g : disk.Ghosts D} (space : spaces.Ghosts (SqlSpaceModel (FileStore D g))) (P : Airspace → Type 0) → IsOver space → (k : SqlSpaceModel (FileStore D g)) (left : LeftFiles D g) → LeavesSpace k left
    → (space.is_sound k → space.is_whole k × ((b : Airspace) → space.holds k b → P b)) → StandOnlyFor P left
stand_only space P over k Nothing never known = absurd never
stand_only space P over k (Closed files) closes known = λ clean image have.
    let is = known (over.sound k (closes.sound clean)) in
    ∥∥₁_map (closes.held clean (over.whole k is.0) image have) (λ it. (it.0, is.1 it.0 (over.holds k it.0 it.1), it.2, it.3))
stand_only space P over k (Unclosed last) keeps known = λ clean.
    let is = known (over.sound k (keeps.sound clean)) in (
      (λ db may. let kept = over.whole k is.0 db (keeps.kept db may) in (kept.0, is.1 kept.0 (over.holds k kept.0 (db, keeps.kept db may, kept.1)), kept.1)),
      (λ numbered image may. ∥∥₁_map ((keeps.files numbered).held clean (over.whole k is.0) image may) (λ it. (it.0, is.1 it.0 (over.holds k it.0 it.1), it.2))),
    )

-- The line that says if a space had format 1 is the line of the format.
line_told : (upgraded : Bool) (format : Format) → upgraded ≡ is_first format
    → (if upgraded then codes "format 2, was 1\n" else codes "format 2\n") ≡ format_line format
line_told upgraded One tells = ap (λ (b : Bool). if b then codes "format 2, was 1\n" else codes "format 2\n") tells
line_told upgraded TwoUnindexed tells = ap (λ (b : Bool). if b then codes "format 2, was 1\n" else codes "format 2\n") tells
line_told upgraded Two tells = ap (λ (b : Bool). if b then codes "format 2, was 1\n" else codes "format 2\n") tells
line_told upgraded OldOne tells = ap (λ (b : Bool). if b then codes "format 2, was 1\n" else codes "format 2\n") tells
line_told upgraded OldTwoUnindexed tells = ap (λ (b : Bool). if b then codes "format 2, was 1\n" else codes "format 2\n") tells
line_told upgraded OldTwo tells = ap (λ (b : Bool). if b then codes "format 2, was 1\n" else codes "format 2\n") tells

module _ {D : Type 0} {g : disk.Ghosts D} (space : spaces.Ghosts (SqlSpaceModel (FileStore D g))) (image : Image) (before after : Option (List ℕ)) where
  -- Closed files represent the only airspace that the space may hold.
  pub kept_after : IsOver space → (new : SqlSpaceModel (FileStore D g)) (files : Files D) → ClosesFiles new files
      → (space.is_sound new → (a : Airspace) → StandFor image a → space.is_whole new × ((b : Airspace) → space.holds new b → b ≡ a))
      → KeepsAirspace g image files
  kept_after over new files closes known clean a stands left have =
      let is = known (over.sound new (closes.sound clean)) a stands in
      ∥∥₁_map (closes.held clean (over.whole new is.0) left have) (λ it.
      let same = is.1 it.0 (over.holds new it.0 it.1) in
      (subst (λ b. FilesSpell Two left b) same it.2, subst (λ b. FilesSpell Two (without_log left) b) same it.3))

  pub report_told : (places : Bool) (old new : SqlSpaceModel (FileStore D g)) (done : Result (Unit {0}) Fault) (result : Result (Files D) (Failure D g)) → FindsSpelt image space old → ReportsSpace space places before after old new done → EndsClosing done new result → IsOver space
      → IfOk result (ReportsFiles g image places before after)
  report_told places old new done result finds reports ends over =
      done_closed new (space.is_sound new → (a : Airspace) → space.holds old a → WritesReport places a before after) (ReportsFiles g image places before after) done result reports.told ends (λ told files closes. record {
        told = λ clean a stands. let is = over.sound new (closes.sound clean) in told is a (content_found image space old finds (reports.sound is) a stands).held;
        kept = kept_after over new files closes (λ is a stands.
            let content = content_found image space old finds (reports.sound is) a stands in
            (reports.whole is (finds.whole (reports.sound is) a content.held), λ b held. content.only b (reports.no_other is b held)));
      })

  -- The report of a copy is that of the airspace that its files represent.
  pub copy_told : (old new : SqlSpaceModel (FileStore D g)) (done : Result (Unit {0}) Fault) → FindsSpelt image space old → ReportsSpace space false before after old new done → OnOk done (ReportsCopy space image before after new)
  copy_told old new (Ok x) finds reports = λ is a stands. reports.told is a (content_found image space old finds (reports.sound is) a stands).held
  copy_told old new (Err why) finds reports = tt

  -- What is left after a report that failed represents the same airspace as before.
  pub report_left : (places : Bool) (old new : SqlSpaceModel (FileStore D g)) (done : Result (Unit {0}) Fault) → FindsSpelt image space old → ReportsSpace space places before after old new done → IsOver space
      → (left : LeftFiles D g) → LeavesSpace new left → KeepsAirspaceIn image left
  report_left places old new done finds reports over left leaves a stands = stand_only space (λ b. b ≡ a) over new left leaves (λ is.
      let content = content_found image space old finds (reports.sound is) a stands in
      (reports.whole is (finds.whole (reports.sound is) a content.held), λ b held. content.only b (reports.no_other is b held)))

  -- What is left of files that were opened, and failed to close, represents the same airspace.
  pub settled_left : (k : SqlSpaceModel (FileStore D g)) → FindsSpelt image space k → IsOver space → (left : LeftFiles D g) → LeavesSpace k left → KeepsAirspaceIn image left
  settled_left k finds over left leaves a stands = stand_only space (λ b. b ≡ a) over k left leaves (λ is.
      let content = content_found image space k finds is a stands in (finds.whole is a content.held, content.only))

  -- Files that were opened and closed represent the same airspace as before.
  pub settled_kept : (k : SqlSpaceModel (FileStore D g)) (files : Files D) → FindsSpelt image space k → ClosesFiles k files → IsOver space → KeepsAirspace g image files
  settled_kept k files finds closes over = kept_after over k files closes (λ is a stands.
      let content = content_found image space k finds is a stands in (finds.whole is a content.held, content.only))

  pub upgrade_told : (k : SqlSpaceModel (FileStore D g)) (files : Files D) (upgraded : Bool) → upgraded ≡ k.upgraded → FindsSpelt image space k → ClosesFiles k files
      → Appends before after (if upgraded then codes "format 2, was 1\n" else codes "format 2\n") → IsOver space → UpgradesFiles g image before after files
  upgrade_told k files upgraded same finds closes told over = record {
    told = λ clean format a spelt.
        let tells : upgraded ≡ is_first format = same ∙ (finds.upgraded (over.sound k (closes.sound clean)) format a spelt) in
        subst (λ (line : List ℕ). Appends before after line) (line_told upgraded format tells) told;
    made = λ clean none.
        let no : upgraded ≡ false = same ∙ finds.made (over.sound k (closes.sound clean)) none in
        subst (λ (b : Bool). Appends before after (if b then codes "format 2, was 1\n" else codes "format 2\n")) no told;
    kept = settled_kept k files finds closes over;
  }
