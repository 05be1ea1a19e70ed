use Rattle.std.specs.Prelude.{◌≡◌, IsTrue, false}
use Rattle.std.proofs.Common.{subst}
use Rattle.sqlite_store.specs.FileStore as store
use Rattle.sqlite_trees.specs.View.{IsQuiet}
use Rattle.sqlite.specs.Files.{over_files}
use Rattle.sqlite.specs.Held.{state}
use Rattle.sqlite.specs.State.{HasCleanDisk}
use Rattle.space_sql.proofs.Restarts.{leaves_files, leaves_trees}
use Rattle.space_sql.proofs.laws.files_left.Goals as goal

pub returns : goal.returns
returns g c =
    let quiet = subst (λ h. IsQuiet store.view store.faults store.recovers store.is_shielded h.store c.into_store.result) c.release.ensures.same c.into_store.ensures.quiet in
    let live = subst (λ k. HasCleanDisk (state over_files k.conn) → k.broken ≡ false → IsTrue (state over_files k.conn).is_open) c.space.view_is c.space.invariant.live in
    leaves_files c.args.space c.into_store.result (leaves_trees c.args.space.conn c.into_store.result c.into_store.ensures.numbered c.into_store.ensures.sound quiet) live
