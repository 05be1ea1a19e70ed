use Rattle.pool_entry.proofs.Entries.{one_purge_lem}
use Rattle.pool_entry.proofs.laws.one_purge.Goals as goal

pub returns : goal.returns
returns c = one_purge_lem
