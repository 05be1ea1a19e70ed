use Rattle.std.proofs.Common.{◌≡◌, false, take}
use Rattle.std.specs.Prelude.{All}
use Rattle.pool_instance.specs.Parts.{is_unasked}
use Rattle.pool_instance.proofs.requests.has_unasked.Given as goal

abbrev pub invariant-loop-reading : goal.invariant-loop-reading
invariant-loop-reading l = All (λ r. is_unasked l.in_flight r ≡ false) (take l.reading-index l.readings)
