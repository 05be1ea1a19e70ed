use Rattle.service_calls.specs.Held.{space_of}
use Rattle.test_sql_files.proofs.Remains.{given_up}
use Rattle.test_sql_files.proofs.runs.run_and_crash.Goals as goal

pub returns-clause-run : goal.returns-clause-run
returns-clause-run g c =
    let made = c.in_ok-reply.ensures.run in
    let last = c.in_ok-abandon.field-0 in
    record {
      run = made.0;
      last = last;
      leaves = given_up (space_of made.0.new) _ last made.1 c.in_ok-abandon.ensures;
      clean = c.crash_files.ensures.clean;
      left = c.crash_files.ensures.left;
    }
