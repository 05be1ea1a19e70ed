use Rattle.pool_entry.proofs.Sizes.{one_call_fits_lem, purge_fits_lem}
use Rattle.pool_entry.proofs.laws.one_call_fits.Goals as goal

pub returns-clause-call : goal.returns-clause-call
returns-clause-call c = one_call_fits_lem

pub returns-clause-purge : goal.returns-clause-purge
returns-clause-purge c = purge_fits_lem
