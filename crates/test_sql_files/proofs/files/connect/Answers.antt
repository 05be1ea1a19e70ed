use Rattle.test_sql_files.proofs.files.connect.Goals as goal

pub returns-in-Ok-clause-opened : goal.returns-in-Ok-clause-opened
returns-in-Ok-clause-opened g c = λ clean.
    let it = c.in-Ok.ensures.opened clean in
    let found = c.in-Ok.ensures.found clean in
    record {
      is_open = it.0.is_open;
      settled = it.0.clean;
      live = it.1;
      found = record { holds = found.holds; reads = found.reads };
    }
