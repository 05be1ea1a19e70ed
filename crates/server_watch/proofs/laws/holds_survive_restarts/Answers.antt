use Rattle.server_watch.proofs.Restarts.{holds_survive_restarts_lem}
use Rattle.server_watch.proofs.laws.holds_survive_restarts.Goals as goal

pub returns : goal.returns
returns c = holds_survive_restarts_lem
