use Rattle.std.specs.Prelude.{Ok}
use Rattle.sqlite.specs.Files.{image_of}
use Rattle.dss_database.proofs.Reporting.{copy_told}
use Rattle.dss_database.proofs.copies.verify.Goals as goal

pub returns : goal.returns
returns g c =
    copy_told _ (image_of g.D.Disk c.args.files) _ _ _ c.report_tables.new.space (Ok tt) c.in_ok-space.ensures c.in_ok-report_tables.ensures
