use Rattle.service_purge.proofs.Lookers.{look_ahead}
use Rattle.service_purge.proofs.laws.these_look_ahead.Goals as goal

pub returns : goal.returns
returns c = look_ahead
