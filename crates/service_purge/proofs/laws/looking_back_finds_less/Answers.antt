use Rattle.service_purge.proofs.Backs.{look_back}
use Rattle.service_purge.proofs.laws.looking_back_finds_less.Goals as goal

pub returns : goal.returns
returns c = look_back
