use Rattle.space_sql_open.proofs.checking.airspace_or_fault.Goals as goal

pub returns-in-Ok-clause-examines : goal.returns-in-Ok-clause-examines
returns-in-Ok-clause-examines c = λ db ok. c.airspace_of.ensures db (rw c.in-Ok.is at ok)
