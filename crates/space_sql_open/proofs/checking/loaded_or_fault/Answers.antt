use Rattle.space_sql_open.proofs.checking.loaded_or_fault.Goals as goal

pub returns-in-Loaded : goal.returns-in-Loaded
returns-in-Loaded c = λ db judged. rw c.in-Loaded.is at judged
