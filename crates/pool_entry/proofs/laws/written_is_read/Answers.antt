use Rattle.pool_entry.proofs.Entries.{written_is_read_lem}
use Rattle.pool_entry.proofs.laws.written_is_read.Goals as goal

pub returns : goal.returns
returns c = written_is_read_lem
