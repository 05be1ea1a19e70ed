use Rattle.service_purge.proofs.Leaves.{stays_alone}
use Rattle.service_purge.proofs.Replies.{purge_unseen}
use Rattle.service_purge.proofs.laws.purge_is_invisible.Goals as goal

pub returns-clause-reply : goal.returns-clause-reply
returns-clause-reply c = purge_unseen

pub returns-clause-alone : goal.returns-clause-alone
returns-clause-alone c = stays_alone
