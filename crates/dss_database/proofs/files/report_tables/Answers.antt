use Rattle.dss_database.proofs.files.report_tables.Goals as goal

pub returns : goal.returns
returns g c = record {
  sound = c.report.ensures.sound;
  whole = c.report.ensures.kept;
  no_other = c.report.ensures.no_other;
  told = c.report.ensures.whole;
  fault = c.report.ensures.told;
}
