use Rattle.space_sql_select.proofs.Written.{ovn_utf8}
use Rattle.space_sql_select.proofs.availability_record.version_in.Goals as goal

pub returns-in-None : goal.returns-in-None
returns-in-None c = λ t p. (rw c.in-None.is at c.text_in.ensures) (t, p.0, ovn_utf8 t p.1)
