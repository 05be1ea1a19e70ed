use Rattle.std.specs.Prelude.{◌⊎◌, None}
use Rattle.std.proofs.Common.{inr}
use Rattle.sqlite.specs.WalFiles.{image_at}
use Rattle.space_sql.specs.declared.left_files.LeftFiles.TheVariants.{Closed}
use Rattle.dss_database.specs.Files.{KeepsAirspaceIn, RefusesDatabase}
use Rattle.dss_database.proofs.Reporting.{passed_on, settled_left, upgrade_told}
use Rattle.dss_database.proofs.files.upgrade.Goals as goal

pub returns-in-Ok-clause-upgraded : goal.returns-in-Ok-clause-upgraded
returns-in-Ok-clause-upgraded g c =
    upgrade_told _ (image_at g.F.Start) _ _ _ c.in_ok-files.files c.upgraded-upgraded.result c.upgraded-upgraded.ensures c.in_ok-space.ensures.finds c.in_ok-files.ensures c.in-Ok.ensures.whole record {
      sound = λ k is. is;
      whole = λ k is. is;
      holds = λ k a held. held;
    }

pub returns-in-Err-clause-left : goal.returns-in-Err-clause-left
returns-in-Err-clause-left g c = inr (settled_left _ (image_at g.F.Start) None None _ c.in_ok-space.ensures.finds (record { sound = λ k is. is; whole = λ k is. is; holds = λ k a held. held }) (Closed c.in_ok-files.files) c.in_ok-files.ensures)

pub returns-in_err-files-clause-left : goal.returns-in_err-files-clause-left
returns-in_err-files-clause-left g c =
    passed_on (λ failure. RefusesDatabase (image_at g.F.Start) failure ⊎ KeepsAirspaceIn (image_at g.F.Start) failure.left) c.from_residual-in_err-files.result c.in_err-files.field-0.0 c.from_residual-in_err-files.ensures.1
    (inr (settled_left _ (image_at g.F.Start) None None _ c.in_ok-space.ensures.finds (record { sound = λ k is. is; whole = λ k is. is; holds = λ k a held. held }) c.in_err-files.field-0.0.left c.in_err-files.ensures.1))
