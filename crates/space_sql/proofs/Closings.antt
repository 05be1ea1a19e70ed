-- Proofs about the files after a close.
use Rattle.std.specs.Prelude.{◌≡◌, IsTrue, false}
use Rattle.std.proofs.Common.{inl, inr, arith, sym, subst}
use Rattle.std.proofs.Math.Logic.{∥∥₁_elim, ∥∥₁_map}
use Rattle.sqlite_disk.specs.declared.Disk as disk
use Rattle.sqlite_disk.specs.declared.Files.{Files}
use Rattle.sqlite_store.specs.declared.store.FileStore.{FileStore}
use Rattle.sqlite.specs.Closing.{HoldsAlone, IsCopied}
use Rattle.sqlite.specs.Files.{IsClosed, file_state}
use Rattle.sqlite.specs.Held.{Held}
use Rattle.sqlite.specs.Recovery.{Image}
use Rattle.sqlite.specs.State.{HasCleanDisk}
use Rattle.sqlite.specs.WalReads.{AreClean}
use Rattle.space_sql.specs.Closing.{ClosesTrees, KeepsFiles, KeepsTrees}
use Rattle.space_sql.specs.Holding.{SqlSpaceModel}
use Rattle.space_sql.specs.Restart.{ClosesFiles, FilesHave}
use Rattle.space_sql.proofs.Restarts.{leaves_files, leaves_trees}

module _ {D : Type 0} {g : disk.Ghosts D} (conn : Held (FileStore D g)) where
  module _ (files : Files D) (stays : IsTrue (file_state conn).is_open → (file_state conn).may_leave (file_state conn).committed.trees) (copied : AreClean g files.log files.db → IsCopied conn files) where
    is_copied : AreClean g files.log files.db → (image : Image) → FilesHave g files image → HoldsAlone image (file_state conn).committed.trees
    is_copied clean image have = elim have [
      | inl seen ↦ subst (λ i. HoldsAlone i (file_state conn).committed.trees) (sym seen) (copied clean).seen
      | inr left ↦ (copied clean).left image left
    ]

    pub closes_trees : ClosesTrees conn files
    closes_trees = record {
      clean = λ clean. (copied clean).was_clean;
      is_open = λ clean. (copied clean).was_open;
      found = λ clean image have.
          let it = is_copied clean image have in
          ∥∥₁_elim it.both squash₁ (λ both. ∥∥₁_map it.alone (λ alone. ((file_state conn).committed.trees, stays (copied clean).was_open, both, alone)));
    }

  pub keeps_trees : (last : FileStore D g) → IsClosed conn last → KeepsTrees conn last
  keeps_trees last closed = record {
    clean = λ clean. omega (arith, closed.quiet.clean, clean);
    kept = λ db may. closed.quiet.outcomes db may;
    trees = λ numbered. leaves_trees conn last (λ clean. numbered) closed.sound closed.quiet;
  }

module _ {D : Type 0} {g : disk.Ghosts D} (k : SqlSpaceModel (FileStore D g)) where
  pub closes_files : (files : Files D) → ClosesTrees k.conn files → ClosesFiles k files
  closes_files files closes = record {
    sound = λ clean. record { clean = closes.clean clean; live = λ works. closes.is_open clean };
    held = λ clean whole image have. ∥∥₁_map (closes.found clean image have) (λ it.
        let kept = whole it.0 it.1 in
        (kept.0, (it.0, it.1, kept.1), (it.0, it.2, kept.1), (it.0, it.3, kept.1)));
  }

  pub keeps_files : (last : FileStore D g) → (HasCleanDisk (file_state k.conn) → k.broken ≡ false → IsTrue (file_state k.conn).is_open) → KeepsTrees k.conn last → KeepsFiles k last
  keeps_files last live keeps = record {
    sound = λ clean. let before = keeps.clean clean in record { clean = before; live = live before };
    kept = keeps.kept;
    files = λ numbered. leaves_files k last (keeps.trees numbered) live;
  }
