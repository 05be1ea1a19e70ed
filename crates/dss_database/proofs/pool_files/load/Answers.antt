use Rattle.std.specs.Prelude.{◌⊎◌}
use Rattle.std.proofs.Common.{inr}
use Rattle.sqlite.specs.WalFiles.{image_at}
use Rattle.dss_database.specs.Files.{KeepsAirspaceIn, RefusesDatabase}
use Rattle.dss_database.proofs.PoolFiles.{load_told, read_left, why_unloaded}
use Rattle.dss_database.proofs.Reporting.{passed_on}
use Rattle.dss_database.proofs.pool_files.load.Goals as goal

pub returns-in_ok-files-in-Ok-clause-loaded : goal.returns-in_ok-files-in-Ok-clause-loaded
returns-in_ok-files-in-Ok-clause-loaded g c =
    load_told _ (image_at g.F.Start) _ _ c.in_ok-space.ensures.finds (record { sound = λ k is. is; whole = λ k is. is; holds = λ k a held. held }) c.in-Ok.memory c.in-Ok.ensures c.in_ok-files-in-Ok.files c.in_ok-files-in-Ok.ensures

pub returns-in_err-files-in-Ok-clause-left : goal.returns-in_err-files-in-Ok-clause-left
returns-in_err-files-in-Ok-clause-left g c =
    passed_on (λ failure. RefusesDatabase (image_at g.F.Start) failure ⊎ KeepsAirspaceIn (image_at g.F.Start) failure.left) c.from_residual-in_err-files-in-Ok.result c.in_err-files-in-Ok.field-0.0 c.from_residual-in_err-files-in-Ok.ensures.1
    (inr (read_left _ (image_at g.F.Start) _ _ c.in_ok-space.ensures.finds (record { sound = λ k is. is; whole = λ k is. is; holds = λ k a held. held }) c.in-Ok.ensures.read c.in_err-files-in-Ok.field-0.0.left c.in_err-files-in-Ok.ensures.1))

pub returns-in-Err-clause-left : goal.returns-in-Err-clause-left
returns-in-Err-clause-left g c = inr (read_left _ (image_at g.F.Start) _ _ c.in_ok-space.ensures.finds (record { sound = λ k is. is; whole = λ k is. is; holds = λ k a held. held }) c.in-Err.ensures.read c.close_failed.result.left c.close_failed.ensures.left)

pub returns-in-Err-clause-told : goal.returns-in-Err-clause-told
returns-in-Err-clause-told g c = why_unloaded c.in-Err.fault c.close_failed.result.fault c.close_failed.ensures.told c.in-Err.ensures.fault
