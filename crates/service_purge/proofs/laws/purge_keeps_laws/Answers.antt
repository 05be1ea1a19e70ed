use Rattle.service_purge.proofs.Kept.{keeps_aware, keeps_counts, keeps_numbers}
use Rattle.service_purge.proofs.laws.purge_keeps_laws.Goals as goal

pub returns-clause-counted : goal.returns-clause-counted
returns-clause-counted c = keeps_counts

pub returns-clause-aware : goal.returns-clause-aware
returns-clause-aware c = keeps_aware

pub returns-clause-numbered : goal.returns-clause-numbered
returns-clause-numbered c = keeps_numbers
