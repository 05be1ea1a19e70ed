use Rattle.test_sql_files.proofs.runs.last_commit_may_stay.Goals as goal

pub returns : goal.returns
returns g c = λ o. g.met.S.Store.stays _ o
