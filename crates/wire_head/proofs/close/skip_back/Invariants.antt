use Rattle.std.proofs.Common.{◌≡◌, length, reverse}
use Rattle.httparse.specs.Grammar.{skip_ows}
use Rattle.wire_head.proofs.close.skip_back.Given as goal

abbrev pub invariant-skipping : goal.invariant-skipping
invariant-skipping l = skip_ows (reverse l.left) ≡ skip_ows (reverse l.bytes)

abbrev pub decreases-skipping : goal.decreases-skipping
decreases-skipping l = length l.left
