use Rattle.wire_body.proofs.Named.{ignores_others_lem}
use Rattle.wire_body.proofs.laws.ignores_others.Goals as goal

pub returns : goal.returns
returns c = ignores_others_lem
