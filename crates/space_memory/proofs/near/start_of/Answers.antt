use Rattle.std.proofs.Common.{arith}
use Rattle.space_memory.proofs.Bits.{all_among}
use Rattle.space_memory.proofs.near.start_of.Goals as goal

pub returns-then-done_bits-bits : goal.returns-then-done_bits-bits
returns-then-done_bits-bits c = λ q low early. (omega (arith, c.max.ensures), omega (arith, c.max.ensures), all_among c.args.done_bits c.args.bits c.if-done_bits-bits.true)
