use Rattle.std.proofs.Common.{◌≡◌, ◌++◌, length}
use Rattle.std.specs.Vec.Iter.{into_iter_items, into_iter_len}
use Rattle.service_step.proofs.Visible.{owed_of, present_of}
use Rattle.service_step.proofs.needed.unspared.Given as goal

abbrev pub invariant-loop-found : goal.invariant-loop-found
invariant-loop-found l = record {
  so_far : l.entities.items ++ owed_of (into_iter_items l.found-iterator) ≡ owed_of l.fn.met.items;
  present : l.availabilities.items ++ present_of (into_iter_items l.found-iterator) ≡ present_of l.fn.met.items;
  paired : length l.availabilities.items ≡ length l.entities.items;
  left : into_iter_len l.found-iterator ≡ length (into_iter_items l.found-iterator);
}
