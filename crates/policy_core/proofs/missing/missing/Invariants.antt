use Rattle.std.proofs.Common.{◌≡◌, take}
use Rattle.policy_core.specs.Missing.{is_missing_from, places_where}
use Rattle.policy_core.proofs.missing.missing.Given as goal

abbrev pub invariant-loop-place : goal.invariant-loop-place
invariant-loop-place l = l.places.items ≡ places_where (is_missing_from l.key) (take l.place l.needed)
