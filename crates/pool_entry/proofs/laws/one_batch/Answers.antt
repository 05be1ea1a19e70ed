use Rattle.pool_entry.proofs.Entries.{one_batch_lem}
use Rattle.pool_entry.proofs.laws.one_batch.Goals as goal

pub returns : goal.returns
returns c = one_batch_lem
