use Rattle.wire_head.proofs.KindLaws.{many_lines}
use Rattle.wire_head.proofs.laws.fields_end_lines.Goals as goal

pub returns : goal.returns
returns c = many_lines
