use Rattle.test_sql_files.proofs.Lives.{leaves_connection}
use Rattle.test_sql_files.proofs.runs.run_over.Goals as goal

pub returns-clause-run : goal.returns-clause-run
returns-clause-run g c = λ image opened.
    let made = c.new-service in
    let told = c.call-reply in
    let left = c.release-left in
    leaves_connection g.S.Store image c.args.salt c.args.call.now told.result c.in_ok-adopt_found.field-0 c.into_space.result left.result made.result told.new.self made.ensures.salt made.ensures.goes made.ensures.space
    (c.in_ok-adopt_found.ensures image opened) told.ensures.reply c.into_space.ensures left.ensures.same
