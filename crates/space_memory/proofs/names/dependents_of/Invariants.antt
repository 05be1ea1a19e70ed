use Rattle.std.proofs.Common.{◌≡◌, ◌++◌}
use Rattle.std.specs.Prelude.{filter_map}
use Rattle.entity_maps.specs.Entities.{entity_map}
use Rattle.space_memory.specs.Names.{Naming, dependent_at}
use Rattle.space_memory.proofs.names.dependents_of.Given as goal

abbrev pub invariant-loop-pair : goal.invariant-loop-pair
invariant-loop-pair l = l.found.items ++ filter_map (λ (q : Naming). dependent_at (entity_map l.entities) l.id q.1) l.pair-iterator
    ≡ filter_map (λ (q : Naming). dependent_at (entity_map l.entities) l.id q.1) l.initial.pair-iterator
