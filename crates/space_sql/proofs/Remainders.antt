-- Proofs about the reasons why files are not opened.
use Rattle.std.specs.Prelude.{◌≡◌, ◌≢◌, ℕ, Bool, cond, List, [], ◌∷◌}
use Rattle.std.proofs.Common.{inl, inr, sym, subst, subst₂, ◌∙◌}
use Rattle.std.proofs.lemmas.Grind.{not_there}
use Rattle.sqlite_disk.specs.declared.Disk as disk
use Rattle.sqlite_disk.specs.declared.Files.{Files}
use Rattle.sqlite_disk.specs.Events.{Event, replay, settled}
use Rattle.sqlite_disk.specs.History.{MayLeave}
use Rattle.sqlite_trees.specs.declared.error.StoreError.{StoreError}
use Rattle.sqlite_trees.specs.declared.error.StoreError.TheVariants as stored
use Rattle.sqlite.specs.Files as kit
use Rattle.sqlite.specs.Files.{FailsToOpenFiles, IsCleanLeft, file_state}
use Rattle.sqlite.specs.Opening.{FailsAs}
use Rattle.sqlite.specs.Recovery.{Image}
use Rattle.sqlite.specs.State.{store_error}
use Rattle.sqlite.specs.declared.error.Error.{Error}
use Rattle.sqlite.specs.declared.error.Error.TheVariants.{SqliteFailure}
use Rattle.sqlite.specs.declared.error.ErrorCode.TheVariants.{NotADatabase}
use Rattle.sqlite.specs.declared.file.Leftover.{Leftover}
use Rattle.entity_core.specs.Airspace.{Airspace}
use Rattle.space_sql_schema.specs.declared.format.Format.{Format}
use Rattle.space_sql_open.specs.declared.open_fault.OpenFault.{OpenFault}
use Rattle.space_sql_open.specs.declared.open_fault.OpenFault.TheVariants.{Store, Version}
use Rattle.space_sql.specs.Found.{FilesSpell}
use Rattle.space_sql.specs.FailedOpen.{AreAt, CanBeOpened, IsCleanIn, RefusesFiles, RefusesOpening}
use Rattle.space_sql.specs.declared.failed_open.FailedOpen.{FailedOpen}
use Rattle.space_sql.specs.declared.failed_open.FailedOpen.TheVariants as of
use Rattle.space_sql.proofs.Crashes.{is_store}
use Rattle.space_sql.proofs.Restarts.{next_fault}

-- ---- newly opened files

settled_leaves : (mixes : Bool) (start : List ℕ) (key : ℕ) (c : List ℕ) → (let m = replay start (settled key ∷ []) in MayLeave mixes m.seen m.synced m.steps c) → c ≡ start
settled_leaves mixes start key c (inl same) = same
settled_leaves mixes start key c (inr same) = same

-- A crash leaves the content that they had.
pub opened_leaves : (mixes : Bool) (log db : List ℕ) (is_log own : Bool) (events : List Event) (key : ℕ) → is_log ≡ own → events ≡ settled key ∷ [] → (c : List ℕ) → (let m = replay (cond is_log log db) events in MayLeave mixes m.seen m.synced m.steps c) → c ≡ cond own log db
opened_leaves mixes log db is_log own events key which same c may =
    settled_leaves mixes (cond own log db) key c (subst₂ (λ b e. let m = replay (cond b log db) e in MayLeave mixes m.seen m.synced m.steps c) which same may)

-- ---- faults

not_named : (kind : StoreError) → store_error kind ≡ SqliteFailure NotADatabase → ⊥
not_named stored.OutOfMemory is = cc
not_named stored.Io is = cc
not_named stored.Corrupt is = cc
not_named stored.Full is = cc
not_named stored.Broken is = cc
not_named stored.Unstorable is = cc

-- Files that can be opened are not rejected with `NotADatabase`.
not_refused : (kind : StoreError) (old new : ℕ) (AtLimit Wanted : Type 0) (e : Error) → FailsAs kind old new AtLimit Wanted e → Wanted → e ≢ SqliteFailure NotADatabase
not_refused kind old new AtLimit Wanted e (inl memory) wanted is = let no = sym memory ∙ is in cc
not_refused kind old new AtLimit Wanted e (inr (inl refused)) wanted is = refused.1 wanted
not_refused kind old new AtLimit Wanted e (inr (inr (inl fault))) wanted is = not_named kind (sym fault.0 ∙ is)
not_refused kind old new AtLimit Wanted e (inr (inr (inr full))) wanted is = let no = sym full.0 ∙ is in cc

module _ {D : Type 0} {g : disk.Ghosts D} where
  pub refuses_files : (image : Image) (files : Files D) (left : Leftover D g) (error : Error) (fault : OpenFault) → AreAt g image files → (IsCleanLeft left → FailsToOpenFiles files left error × kit.LeavesFiles files left)
      → (error ≢ SqliteFailure NotADatabase → fault ≡ Store) → fault ≢ Version → RefusesFiles image left fault
  refuses_files image files left error fault at fails store unread = record {
    due = λ clean can. store (not_refused _ _ _ _ _ error (fails clean).0 (subst CanBeOpened (sym at.0) can));
    unread = unread;
    kept = λ clean. (files, at, (fails clean).1);
  }

  -- Files that represent an airspace are rejected only with `Store`.
  pub next_refused : (image : Image) (format : Format) (a : Airspace) → ∥ FilesSpell format image a ∥₁ → (remains : FailedOpen D g) (fault : OpenFault) → RefusesOpening image remains fault → IsCleanIn remains → fault ≡ Store
  next_refused image format a files of.Nothing fault refuses clean = refuses
  next_refused image format a files (of.Files left) fault refuses clean = is_store fault (λ other. not_there files (λ it. other (refuses.due clean (inl (it.0, it.1)))))
  next_refused image format a files (of.Connection conn) fault refuses clean = next_fault image format a files (file_state conn) fault refuses clean
