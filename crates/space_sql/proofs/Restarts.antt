-- Proofs that relate one run to the next.
use Rattle.std.specs.Prelude.{◌≡◌, IsTrue, false}
use Rattle.std.proofs.Common.{inl, inr, arith, subst}
use Rattle.std.proofs.Math.Logic.{∥∥₁_map}
use Rattle.std.proofs.lemmas.Grind.{not_there}
use Rattle.sqlite_disk.specs.declared.Disk as disk
use Rattle.sqlite_store.specs.declared.store.FileStore.{FileStore}
use Rattle.sqlite_store.specs.FileStore as store
use Rattle.sqlite_trees.specs.View.{IsClean, IsQuiet}
use Rattle.sqlite.specs.Files.{file_state, over_files}
use Rattle.sqlite_trees.specs.declared.store.Store as stores
use Rattle.sqlite.specs.Held.{AreDatabases, Held, state}
use Rattle.sqlite.specs.Recovery.{Image}
use Rattle.sqlite.specs.State.{State, HasCleanDisk}
use Rattle.sqlite.proofs.Theorems.{opens_again}
use Rattle.entity_core.specs.Airspace.{Airspace}
use Rattle.space_core.specs.Space.{IsContent}
use Rattle.space_core.specs.declared.space.Space.{Ghosts}
use Rattle.space_sql_schema.specs.declared.format.Format.{Format}
use Rattle.space_sql_schema.specs.declared.format.Format.TheVariants.{Two}
use Rattle.space_sql_open.specs.declared.open_fault.OpenFault.{OpenFault}
use Rattle.space_sql_open.specs.declared.open_fault.OpenFault.TheVariants.{Store}
use Rattle.space_sql.specs.Found.{FilesSpell, FindsSpelt, RefusesFound, tables_of}
use Rattle.space_sql.specs.Holding.{SqlSpaceModel, holds_of, is_whole_of}
use Rattle.space_sql.specs.Restart.{FilesLeft, LeavesFiles, LeavesTrees, NextFinds}
use Rattle.space_sql.proofs.Crashes.{is_store, not_refused}

module _ {D : Type 0} {g : disk.Ghosts D} (conn : Held (FileStore D g)) (last : FileStore D g) (numbered : IsClean (store.view last) → IsTrue (store.view last).is_numbered) (sound : IsClean (store.view last) → AreDatabases (store.recovers last)) (quiet : IsQuiet store.view store.faults store.recovers store.is_shielded conn.store last) where
  pub leaves_trees : LeavesTrees conn last
  leaves_trees = record {
    clean = λ clean. omega (arith, quiet.clean, clean);
    found = λ clean image may. ∥∥₁_map (opens_again last (numbered clean) (sound clean) image may) (λ it. (it.0, quiet.outcomes it.0 it.1, it.2));
  }

module _ {D : Type 0} {g : disk.Ghosts D} (k : SqlSpaceModel (FileStore D g)) (last : FileStore D g) (left : LeavesTrees k.conn last) (live : HasCleanDisk (state over_files k.conn) → k.broken ≡ false → IsTrue (state over_files k.conn).is_open) where
  found_held : IsClean (store.view last) → is_whole_of over_files k → (image : Image) → FilesLeft last image → ∥ ((a : Airspace) × holds_of over_files k a × FilesSpell Two image a) ∥₁
  found_held clean whole image may = ∥∥₁_map (left.found clean image may) (λ it.
      let kept = whole it.0 it.1 in
      (kept.0, (it.0, it.1, kept.1), (it.0, it.2, kept.1)))

  pub leaves_files : LeavesFiles k last
  leaves_files = record {
    sound = λ clean. let before = left.clean clean in record { clean = before; live = live before };
    trees = left;
    held = found_held;
    content = λ clean whole a is image may. ∥∥₁_map (found_held clean whole image may) (λ it. subst (λ b. FilesSpell Two image b) (is.only it.0 it.1) it.2);
  }

next_held : {S : Type 0} (space : Ghosts (SqlSpaceModel S)) (image : Image) (a : Airspace) → ∥ FilesSpell Two image a ∥₁ → (next : SqlSpaceModel S) → FindsSpelt image space next → space.is_sound next → ∥ IsContent space.holds next a ∥₁
next_held space image a files next finds sound = ∥∥₁_map files (λ it. finds.spelt sound Two a it)

pub next_fault : (image : Image) (format : Format) (a : Airspace) → ∥ FilesSpell format image a ∥₁ → (back : State) (fault : OpenFault) → RefusesFound image back fault → HasCleanDisk back → fault ≡ Store
next_fault image format a files back fault refuses clean = is_store fault (λ other. not_there files (λ it. not_refused format (tables_of format it.0) a fault it.2.1 (refuses.due clean format it.0 (it.1, it.2.0)) other))

pub next_finds : {S : Type 0} (g : stores.Ghosts S) (space : Ghosts (SqlSpaceModel S)) (image : Image) (a : Airspace) → ∥ FilesSpell Two image a ∥₁ → NextFinds g space image a
next_finds g space image a files = record { found = next_held space image a files; refused = λ back fault. next_fault image Two a files (state g back) fault }

module _ {D T : Type 0} {g : disk.Ghosts D} (again : Ghosts (SqlSpaceModel T)) (before after : Image) (back : Held (FileStore D g)) (fault : OpenFault) (last : FileStore D g) (next : SqlSpaceModel T) where
  pub refused_is_found : (format : Format) (a : Airspace) → FilesSpell format before a → RefusesFound before (file_state back) fault → LeavesTrees back last → IsClean (store.view last) → FilesLeft last after → FindsSpelt after again next → again.is_sound next → ∥ IsContent again.holds next a ∥₁
  refused_is_found format a spelt refuses left clean may finds sound = ∥∥₁_map (left.found clean after may) (λ it. elim (refuses.spelt (left.clean clean) format a spelt it.0 it.1) [
    | inl same ↦ finds.spelt sound format a (it.0, it.2, same)
    | inr second ↦ finds.spelt sound Two a (it.0, it.2, second)
  ])
