use Rattle.pool_entry.proofs.Entries.{no_entry_is_no_acts_lem}
use Rattle.pool_entry.proofs.laws.no_entry_is_no_acts.Goals as goal

pub returns : goal.returns
returns c = no_entry_is_no_acts_lem
