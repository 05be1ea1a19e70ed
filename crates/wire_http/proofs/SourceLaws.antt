-- Lemmas: successive reads.
use Rattle.std.proofs.Common.{List, ℕ, Option, Result, Ok, Err, arith}
use Rattle.std.proofs.lemmas.Grind.{common_steps}
use Rattle.wire_http.specs.declared.fault.StreamFault.{StreamFault}
use Rattle.wire_http.specs.declared.source.Source.{Source}
use Rattle.wire_http.specs.Source.{HasGivenUp, HasRead, ReadsSource}

read_more : {R : Type 0} (remaining : R → Option (List ℕ)) (a b c : Source R) → HasRead remaining a b → HasRead remaining b c → HasRead remaining a c
read_more remaining a b c p q = grind (arith, common_steps)

gave_up : {R : Type 0} (remaining : R → Option (List ℕ)) (a b c : Source R) (fault : StreamFault) → HasRead remaining a b → HasGivenUp b c fault → HasGivenUp a c fault
gave_up remaining a b c fault p q = grind (arith, common_steps)

pub Reads_more : {R A : Type 0} (remaining : R → Option (List ℕ)) (a b c : Source R) (r : Result A StreamFault) → HasRead remaining a b → ReadsSource remaining b c r → ReadsSource remaining a c r
Reads_more remaining a b c (Ok x) p q = read_more remaining a b c p q
Reads_more remaining a b c (Err fault) p q = gave_up remaining a b c fault p q
