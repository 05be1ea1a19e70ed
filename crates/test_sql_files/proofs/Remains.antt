-- Proofs about files that a crash leaves.
use Rattle.std.specs.Prelude.{◌≡◌, ◌&&◌, Bool, true, false, IsTrue, refl}
use Rattle.std.proofs.Common.{inl, inr, arith, subst}
use Rattle.std.proofs.Math.Logic.{∥∥₁_map}
use Rattle.sqlite_disk.specs.declared.Disk as disk
use Rattle.sqlite_pool.specs.Pool.{state, files}
use Rattle.sqlite_pool.specs.declared.pool.Pool.{Pool}
use Rattle.sqlite_store.specs.declared.store.FileStore.{FileStore}
use Rattle.sqlite_store.specs.FileStore as store
use Rattle.sqlite_trees.specs.Tree.{Trees}
use Rattle.sqlite_trees.specs.View.{IsClean}
use Rattle.sqlite_trees.proofs.Doubt.{no_doubt}
use Rattle.sqlite_wal.specs.Files.{outcomes}
use Rattle.sqlite_wal.specs.Reads.{AreClean}
use Rattle.sqlite.specs.Files.{file_state, over_files}
use Rattle.sqlite.specs.Held.{Held}
use Rattle.sqlite.specs.Recovery.{Image}
use Rattle.sqlite.specs.State.{Survives}
use Rattle.entity_core.specs.Airspace.{Airspace}
use Rattle.space_sql_schema.specs.declared.format.Format.TheVariants.{Two}
use Rattle.space_sql.specs.Found.{FilesSpell}
use Rattle.space_sql.specs.Holding.{SqlSpaceModel, holds_of, is_whole_of}
use Rattle.space_sql.specs.Restart.{FilesLeft, LeavesFiles, LeavesTrees}
use Rattle.space_sql.proofs.Restarts.{leaves_trees}
use Rattle.test_sql_files.specs.Files.{GivesUp}

parts : (a b : Bool) → IsTrue (a && b) → IsTrue a × IsTrue b
parts true b h = (refl, h)
parts false b h = absurd (let e = h in cc)

joined : (a b : Bool) → IsTrue a → IsTrue b → IsTrue (a && b)
joined true b h k = k
joined false b h k = absurd (let e = h in cc)

module _ {D : Type 0} {g : disk.Ghosts D} where
  -- The store is clean if its files are, and a crash leaves of it what it leaves of the files.
  pool_leaves : (it : Pool D g) → AreClean g (files it).0 (files it).1 → (image : Image)
      → outcomes g (files it).0 (files it).1 image → (state it).may_leave image
  unfolding state files
  pool_leaves it clean image left = (clean, left)

  pool_clean : (it : Pool D g) → AreClean g (files it).0 (files it).1 → IsTrue (state it).is_clean
  unfolding state files
  pool_clean it clean = clean

  pub store_clean : (it : FileStore D g) → AreClean g (store.files it).0 (store.files it).1 → IsClean (store.view it)
  store_clean it clean = no_doubt _ (pool_clean it.pool clean)

  pub store_leaves : (it : FileStore D g) → AreClean g (store.files it).0 (store.files it).1 → (image : Image)
      → outcomes g (store.files it).0 (store.files it).1 image → FilesLeft it image
  store_leaves it clean image left = pool_leaves it.pool clean image left

  -- The same for what a crash left of both files.
  module _ (it : FileStore D g) (log db left_log left_db : D) (is : (log, db) ≡ store.files it) (log_clean : IsTrue (g.is_clean left_log) → IsTrue (g.is_clean log)) (db_clean : IsTrue (g.is_clean left_db) → IsTrue (g.is_clean db)) (clean : AreClean g left_log left_db) where
    were_clean : AreClean g (store.files it).0 (store.files it).1
    were_clean =
        let both = parts _ _ clean in
        subst (λ (p : D × D). AreClean g p.0 p.1) is (joined _ _ (log_clean both.0) (db_clean both.1))

    pub crashed_clean : IsClean (store.view it)
    crashed_clean = store_clean it were_clean

    pub crashed_left : g.may_leave log (g.seen left_log) → g.may_leave db (g.seen left_db) → FilesLeft it (record { log = g.seen left_log; db = g.seen left_db })
    crashed_left may_log may_db =
        let image : Image = record { log = g.seen left_log; db = g.seen left_db } in
        store_leaves it were_clean image (subst (λ (p : D × D). outcomes g p.0 p.1 image) is (may_log, may_db))

  -- What is left of a connection is what was left of it before a call that commits nothing.
  leaves_earlier : (old new : Held (FileStore D g)) (last : FileStore D g) → Survives (file_state old) (file_state new) (λ _. ⊥) → LeavesTrees new last → LeavesTrees old last
  leaves_earlier old new last went left = record {
    clean = λ clean. omega (arith, went.clean, left.clean clean);
    found = λ clean image may. ∥∥₁_map (left.found clean image may) (λ it. (it.0, earlier clean it.0 it.1, it.2));
  }
    where
      earlier : IsClean (store.view last) → (db : Trees) → (file_state new).may_leave db → (file_state old).may_leave db
      earlier clean db may = elim (went.crash (left.clean clean) db may) [
        | inl before ↦ before
        | inr none ↦ absurd none
      ]

  module _ (k : SqlSpaceModel (FileStore D g)) (last : FileStore D g) (left : LeavesTrees k.conn last) (alive : IsClean (store.view last) → IsTrue (file_state k.conn).is_open) where
    found_held : IsClean (store.view last) → is_whole_of over_files k → (image : Image) → FilesLeft last image → ∥ ((a : Airspace) × holds_of over_files k a × FilesSpell Two image a) ∥₁
    found_held clean whole image may = ∥∥₁_map (left.found clean image may) (λ it.
        let kept = whole it.0 it.1 in
        (kept.0, (it.0, it.1, kept.1), (it.0, it.2, kept.1)))

    alive_leaves : LeavesFiles k last
    alive_leaves = record {
      sound = λ clean. record { clean = left.clean clean; live = λ works. alive clean };
      trees = left;
      held = found_held;
      content = λ clean whole a is image may. ∥∥₁_map (found_held clean whole image may) (λ it. subst (λ b. FilesSpell Two image b) (is.only it.0 it.1) it.2);
    }

  -- What is left of a space whose connection was given up.
  pub given_up : (k : SqlSpaceModel (FileStore D g)) (conn : Held (FileStore D g)) (last : FileStore D g) → conn ≡ k.conn → GivesUp over_files conn last → LeavesFiles k last
  given_up k conn last same it =
      let left = leaves_earlier conn it.now last it.went (leaves_trees it.now last it.numbered it.sound it.quiet) in
      alive_leaves k last (subst (λ h. LeavesTrees h last) same left) (subst (λ h. IsClean (store.view last) → IsTrue (file_state h).is_open) same it.alive)
