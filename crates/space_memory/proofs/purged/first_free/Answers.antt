use Rattle.std.proofs.Common.{sym, ap, ◌∙◌}
use Rattle.std.specs.Map.{values_of}
use Rattle.entity_maps.specs.Entities.{entity_map}
use Rattle.space_memory.proofs.EndedChunks.{free_full}
use Rattle.space_memory.proofs.purged.first_free.Goals as goal

pub returns-then-is_full : goal.returns-then-is_full
returns-then-is_full c =
    free_full c.args.until c.args.most (entity_map c.args.entities.now) c.loop-sub.gone.items c.push.new.self.items c.in-Some.sub.now (values_of c.loop-sub.sub-iterator) (values_of c.next.new.self) (values_of c.into_iter-sub-iterator.result) (values_of c.args.subscriptions)
    (ap values_of c.in-Some.ensures.steps) (sym c.is_free.ensures ∙ c.if-is_free.true) c.loop-sub.invariant.so_far (ap values_of c.into_iter-sub-iterator.ensures.into_iter_gives) c.loop-sub.invariant.room c.in_ok-push.ensures.items
