use Rattle.entity_core.proofs.Changes.{told_once}
use Rattle.space_core.proofs.laws.notified_once.Goals as goal

pub returns : goal.returns
returns c = told_once
