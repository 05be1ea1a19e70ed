use Rattle.std.specs.Prelude.{◌⊎◌, IsSome}
use Rattle.dss_database.proofs.Reporting.{on_closed}
use Rattle.dss_database.proofs.files.serve.Goals as goal

pub returns-clause-served : goal.returns-clause-served
returns-clause-served g c = record {
  new = c.served_with_mirror-done.result.1;
  done = c.served_with_mirror-done.result.0;
  served = c.served_with_mirror-done.ensures.served;
  closed = c.close_database.ensures;
}

pub returns-clause-counted : goal.returns-clause-counted
returns-clause-counted g c = on_closed c.served_with_mirror-done.result.1 (IsSome c.args.given.limits.count ⊎ IsSome c.args.given.operated) c.served_with_mirror-done.result.0 c.close_database.result c.served_with_mirror-done.ensures.counted c.close_database.ensures
