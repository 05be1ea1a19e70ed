use Rattle.dss_database.proofs.files.run.Goals as goal

pub returns : goal.returns
returns g c = record {
  new = c.served-done.result.1;
  done = c.served-done.result.0;
  served = c.served-done.ensures.served;
  part = c.served-done.ensures.part;
  closed = c.close_database.ensures;
}
