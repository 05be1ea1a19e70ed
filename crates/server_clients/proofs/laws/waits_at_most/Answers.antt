use Rattle.server_clients.proofs.Waits.{waits_at_most}
use Rattle.server_clients.proofs.laws.waits_at_most.Goals as goal

pub returns : goal.returns
returns c = waits_at_most
