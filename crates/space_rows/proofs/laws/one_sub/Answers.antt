use Rattle.space_rows.proofs.SubRows as rows
use Rattle.space_rows.proofs.laws.one_sub.Goals as goal

pub returns : goal.returns
returns c = rows.one_sub
