use Rattle.std.proofs.Common.{subst}
use Rattle.service_calls.specs.Held.{space_of}
use Rattle.space_sql.specs.Closing.{ClosesTrees}
use Rattle.space_sql.proofs.Closings.{closes_files}
use Rattle.test_sql_files.proofs.runs.run_and_close.Goals as goal

pub returns-clause-run : goal.returns-clause-run
returns-clause-run g c =
    let made = c.in_ok-reply.ensures.run in
    let files = c.in_ok-close.field-0 in
    record { run = made.0; closes = closes_files (space_of made.0.new) files (subst (λ h. ClosesTrees h files) made.1 c.in_ok-close.ensures.closed) }
