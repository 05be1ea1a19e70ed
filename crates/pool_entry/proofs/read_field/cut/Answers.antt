use Rattle.std.proofs.Common.{sym}
use Rattle.pool_entry.proofs.Numbers.{cut_is}
use Rattle.pool_entry.proofs.read_field.cut.Goals as goal

pub returns : goal.returns
returns c = cut_is c.args.stop c.args.bytes.now c.in-Some.at (sym c.in-Some.ensures)
