use Rattle.sqlite.specs.Files.{image_of}
use Rattle.test_sql_files.proofs.runs.run_call.Goals as goal

pub returns-clause-run : goal.returns-clause-run
returns-clause-run g c = c.run_over.ensures.run (image_of g.D.Disk c.args.files) c.in_ok-conn.ensures.opened
