use Rattle.dss_report.proofs.Reported.{reports_of}
use Rattle.dss_report.proofs.report.report_text.Goals as goal

pub returns : goal.returns
returns g c =
    reports_of g.S.Space c.args.space.now c.read_contents.new.space c.in-Ok.kept c.in_ok-text_of.field-0 c.in-Ok.ensures.tells c.in-Ok.ensures.reads c.in_ok-text_of.ensures
