use Rattle.pool_entry.proofs.Fields.{uss_fails}
use Rattle.pool_entry.proofs.read_field.uss_in.Goals as goal

pub returns-in_default : goal.returns-in_default
returns-in_default c = uss_fails c.args.fault c.args.text.now c.in_default.ensures.cases.0
