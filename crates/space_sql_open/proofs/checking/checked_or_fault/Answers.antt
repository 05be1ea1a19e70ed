use Rattle.space_sql_open.proofs.checking.checked_or_fault.Goals as goal

pub returns-in-Ok-clause-examines : goal.returns-in-Ok-clause-examines
returns-in-Ok-clause-examines c = λ db ok. c.loaded_or_fault.ensures db (rw c.in-Ok.is at ok)
