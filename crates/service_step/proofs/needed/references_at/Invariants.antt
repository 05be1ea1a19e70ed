use Rattle.std.proofs.Common.{◌≡◌, take, map}
use Rattle.std.specs.List.{filter_map, slice_get}
use Rattle.entity_core.specs.Airspace.{Airspace}
use Rattle.policy_core.specs.View.{view_of}
use Rattle.service_step.specs.Needed.{manager_has}
use Rattle.service_step.proofs.needed.references_at.Given as goal

abbrev pub invariant-loop-place : goal.invariant-loop-place
invariant-loop-place l =
    (a : Airspace) → l.availabilities ≡ map (manager_has a) l.entities
    → l.items.items ≡ map (view_of a l.uss) (filter_map (slice_get l.entities) (take l.place-index l.places))
