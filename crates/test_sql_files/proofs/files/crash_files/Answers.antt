use Rattle.test_sql_files.proofs.Remains.{crashed_clean, crashed_left}
use Rattle.test_sql_files.proofs.files.crash_files.Goals as goal

pub returns-clause-clean : goal.returns-clause-clean
returns-clause-clean g c = crashed_clean c.args.store _ _ _ _ c.close-files.ensures c.crash.ensures.clean c.crash-2.ensures.clean

pub returns-clause-left : goal.returns-clause-left
returns-clause-left g c = λ clean.
    crashed_left c.args.store _ _ _ _ c.close-files.ensures c.crash.ensures.clean c.crash-2.ensures.clean clean c.crash.ensures.left c.crash-2.ensures.left
