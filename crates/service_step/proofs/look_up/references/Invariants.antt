use Rattle.std.proofs.Common.{◌≡◌, take, map}
use Rattle.service_step.proofs.Visible.{seen_by}
use Rattle.service_step.proofs.look_up.references.Given as goal

abbrev pub invariant-loop-found : goal.invariant-loop-found
invariant-loop-found l = l.items.items ≡ map (seen_by l.uss) (take l.found-index l.met)
