use Rattle.std.proofs.Common.{◌≡◌, ◌<◌, ◌++◌, length}
use Rattle.std.specs.Map.{values_of}
use Rattle.space_memory.specs.Purged.{ended_in}
use Rattle.space_memory.proofs.purged.first_ended.Given as goal

abbrev pub invariant-loop-entity : goal.invariant-loop-entity
invariant-loop-entity l = record {
  so_far : l.gone.items ++ ended_in l.until (values_of l.entity-iterator) ≡ ended_in l.until (values_of l.initial.entity-iterator);
  room : length l.gone.items < l.most;
}
