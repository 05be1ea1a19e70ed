use Rattle.std.proofs.Common.{arith}
use Rattle.hex.specs.Hex.{IsBytes}
use Rattle.entity_core.proofs.Digits.{hex_is_ovn}
use Rattle.entity_core.proofs.ovn.of_digest.Goals as goal

pub invariant_of-result : goal.invariant_of-result
invariant_of-result c =
    let bytes : IsBytes c.args.«digest».now = λ i. let f = c.type_inv.«digest» i in omega arith in
    rw c.in_ok-encode.ensures (hex_is_ovn c.args.«digest».now bytes c.requires)
