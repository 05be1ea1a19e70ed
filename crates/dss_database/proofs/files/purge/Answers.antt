use Rattle.std.specs.Prelude.{◌⊎◌, Err}
use Rattle.std.proofs.Common.{inr}
use Rattle.sqlite.specs.WalFiles.{image_at}
use Rattle.dss_command.specs.declared.fault.Fault.TheVariants.{DatabaseFailed}
use Rattle.space_sql.specs.declared.left_files.LeftFiles.TheVariants.{Closed}
use Rattle.dss_database.specs.Files.{PurgesPartly, RefusesDatabase}
use Rattle.dss_database.proofs.Purging.{purge_told, stands_partly, told_failed, untold}
use Rattle.dss_database.proofs.Reporting.{left_anyway, passed_on}
use Rattle.dss_database.proofs.files.purge.Goals as goal

pub returns-in-Ok-put_purged-clause-purged : goal.returns-in-Ok-put_purged-clause-purged
returns-in-Ok-put_purged-clause-purged g c =
    purge_told _ (image_at g.F.Start) c.args.until _ c.purged_with_mirror-done.result.1 c.in_ok-space.ensures.finds (record { sound = λ k is. is; whole = λ k is. is; holds = λ k a held. held }) c.purged_with_mirror-done.result.0 c.in-Ok.purged c.in-Ok.is
    c.purged_with_mirror-done.ensures c.in_ok-files-in-Ok.files c.in_ok-files-in-Ok.ensures _ _ c.in-Ok-put_purged.ensures.whole

pub returns-in-Err-put_purged-clause-partly : goal.returns-in-Err-put_purged-clause-partly
returns-in-Err-put_purged-clause-partly g c = inr (stands_partly _ (image_at g.F.Start) c.args.until _ c.purged_with_mirror-done.result.1 c.in_ok-space.ensures.finds (record { sound = λ k is. is; whole = λ k is. is; holds = λ k a held. held }) c.purged_with_mirror-done.result.0 c.purged_with_mirror-done.ensures (Closed c.in_ok-files-in-Ok.files) c.in_ok-files-in-Ok.ensures)

pub returns-in_err-files-in-Ok-clause-partly : goal.returns-in_err-files-in-Ok-clause-partly
returns-in_err-files-in-Ok-clause-partly g c =
    passed_on (λ failure. RefusesDatabase (image_at g.F.Start) failure ⊎ PurgesPartly _ (image_at g.F.Start) c.args.until failure.left) c.from_residual-in_err-files-in-Ok.result c.in_err-files-in-Ok.field-0.0 c.from_residual-in_err-files-in-Ok.ensures.1
    (inr (stands_partly _ (image_at g.F.Start) c.args.until _ c.purged_with_mirror-done.result.1 c.in_ok-space.ensures.finds (record { sound = λ k is. is; whole = λ k is. is; holds = λ k a held. held }) c.purged_with_mirror-done.result.0 c.purged_with_mirror-done.ensures c.in_err-files-in-Ok.field-0.0.left c.in_err-files-in-Ok.ensures.1))

pub returns-in-Err-clause-purged : goal.returns-in-Err-clause-purged
returns-in-Err-clause-purged g c = untold _ _ _ _ c.close_database-in-Err.ensures

pub returns-in-Err-clause-partly : goal.returns-in-Err-clause-partly
returns-in-Err-clause-partly g c = left_anyway _ (RefusesDatabase (image_at g.F.Start)) (PurgesPartly _ (image_at g.F.Start) c.args.until) (Err DatabaseFailed) c.close_database-in-Err.result c.close_database-in-Err.ensures
    (stands_partly _ (image_at g.F.Start) c.args.until _ c.purged_with_mirror-done.result.1 c.in_ok-space.ensures.finds (record { sound = λ k is. is; whole = λ k is. is; holds = λ k a held. held }) c.purged_with_mirror-done.result.0 c.purged_with_mirror-done.ensures)

pub returns-in-Err-clause-told : goal.returns-in-Err-clause-told
returns-in-Err-clause-told g c = told_failed _ _ _ c.close_database-in-Err.ensures
