use Rattle.space_rows.proofs.OneEntity as rows
use Rattle.space_rows.proofs.laws.one_entity.Goals as goal

pub returns : goal.returns
returns c = rows.one_entity
