use Rattle.std.proofs.Common.{◌≡◌}
use Rattle.std.specs.Prelude.{is_some}
use Rattle.std.specs.List.{list_any}
use Rattle.entity_maps.specs.Entities.{entity_map}
use Rattle.space_memory.specs.Names.{Naming, dependent_at}
use Rattle.space_memory.proofs.names.is_named.Given as goal

abbrev pub invariant-loop-pair : goal.invariant-loop-pair
invariant-loop-pair l = list_any (λ (q : Naming). is_some (dependent_at (entity_map l.entities) l.id q.1)) l.pair-iterator
    ≡ list_any (λ (q : Naming). is_some (dependent_at (entity_map l.entities) l.id q.1)) l.initial.pair-iterator
