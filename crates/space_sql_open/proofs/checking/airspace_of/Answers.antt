use Rattle.space_sql_open.proofs.checking.airspace_of.Goals as goal

pub returns-in-Valid : goal.returns-in-Valid
returns-in-Valid c = λ db judged. rw c.in-Valid.is at judged
