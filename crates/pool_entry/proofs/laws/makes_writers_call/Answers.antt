use Rattle.pool_entry.proofs.Entries.{makes_writers_call_lem}
use Rattle.pool_entry.proofs.laws.makes_writers_call.Goals as goal

pub returns : goal.returns
returns c = makes_writers_call_lem
