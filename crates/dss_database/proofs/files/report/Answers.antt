use Rattle.sqlite.specs.WalFiles.{image_at}
use Rattle.dss_database.specs.Files.{KeepsAirspaceIn, RefusesDatabase}
use Rattle.dss_database.proofs.Reporting.{left_anyway, report_left, report_told, why_unreported}
use Rattle.dss_database.proofs.files.report.Goals as goal

pub returns-clause-reported : goal.returns-clause-reported
returns-clause-reported g c =
    report_told _ (image_at g.F.Start) _ _ c.args.places _ c.report_tables-done.new.space c.report_tables-done.result c.close_database.result c.in_ok-space.ensures.finds c.report_tables-done.ensures c.close_database.ensures record {
      sound = λ k is. is;
      whole = λ k is. is;
      holds = λ k a held. held;
    }

pub returns-clause-told : goal.returns-clause-told
returns-clause-told g c = why_unreported c.report_tables-done.new.space c.report_tables-done.result c.close_database.result c.report_tables-done.ensures.fault c.close_database.ensures

pub returns-clause-left : goal.returns-clause-left
returns-clause-left g c = left_anyway c.report_tables-done.new.space (RefusesDatabase (image_at g.F.Start)) (KeepsAirspaceIn (image_at g.F.Start)) c.report_tables-done.result c.close_database.result c.close_database.ensures
    (report_left _ (image_at g.F.Start) _ _ c.args.places _ c.report_tables-done.new.space c.report_tables-done.result c.in_ok-space.ensures.finds c.report_tables-done.ensures record {
      sound = λ k is. is;
      whole = λ k is. is;
      holds = λ k a held. held;
    })
