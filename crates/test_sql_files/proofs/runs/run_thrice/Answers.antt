use Rattle.sqlite.specs.Files.{image_of}
use Rattle.test_sql_files.proofs.Lives.{closed_as, crashed_as}
use Rattle.test_sql_files.proofs.runs.run_thrice.Goals as goal

pub returns : goal.returns
returns g c =
    let closed = c.in_ok-begun.closed in
    let crashed = c.in_ok-gone.crashed in
    let last = c.in_ok-ended.last in
    let salt = c.args.salt.now in
    record {
      closed = closed;
      crashed = crashed;
      first_run = closed_as (image_of g.D.Disk c.args.files) _ salt c.args.first.now _ _ closed c.in_ok-copied.ensures c.in_ok-created.ensures c.in_ok-begun.ensures.run;
      second_run = crashed_as (image_of g.D.Disk closed) _ salt c.args.second.now _ _ crashed c.in_ok-copied-2.ensures c.in_ok-changed.ensures c.in_ok-gone.ensures.run;
      third_run = closed_as (image_of g.D.Disk crashed) _ salt c.args.third.now _ _ last c.in_ok-copied-3.ensures c.in_ok-read.ensures c.in_ok-ended.ensures.run;
    }
