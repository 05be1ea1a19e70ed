use Rattle.std.specs.Prelude.{◌≡◌, IsTrue, false}
use Rattle.std.proofs.Common.{subst}
use Rattle.sqlite.specs.Files.{file_state}
use Rattle.sqlite.specs.State.{HasCleanDisk}
use Rattle.space_sql.specs.Closing.{ClosesTrees, KeepsTrees}
use Rattle.space_sql.proofs.Closings.{closes_files, keeps_files}
use Rattle.space_sql.proofs.open.SqlSpace+FileStore+FileFrom+S.close_files.Goals as goal

pub returns-in-Ok-clause-closed : goal.returns-in-Ok-clause-closed
returns-in-Ok-clause-closed g c = closes_files c.args.self c.in-Ok.files (subst (λ h. ClosesTrees h c.in-Ok.files) c.release.ensures.same c.in-Ok.ensures.closed)

pub returns-in-Err-clause-left : goal.returns-in-Err-clause-left
returns-in-Err-clause-left g c =
    let live = subst (λ k. HasCleanDisk (file_state k.conn) → k.broken ≡ false → IsTrue (file_state k.conn).is_open) c.self.view_is c.self.invariant.live in
    keeps_files c.args.self c.in-Err.store live (subst (λ h. KeepsTrees h c.in-Err.store) c.release.ensures.same c.in-Err.ensures.left)
