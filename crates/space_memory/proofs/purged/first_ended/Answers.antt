use Rattle.std.proofs.Common.{sym, ap, ◌∙◌, ◌++◌, ◌∷◌, []}
use Rattle.std.specs.Map.{values_of}
use Rattle.entity_core.specs.declared.nature.Kind.{Kind}
use Rattle.entity_purge.specs.declared.purge_item.PurgeItem.TheVariants as gone
use Rattle.space_memory.proofs.EndedChunks.{entities_full}
use Rattle.space_memory.proofs.purged.first_ended.Goals as goal

pub returns-then-is_full : goal.returns-then-is_full
returns-then-is_full c =
    entities_full c.args.until c.args.most c.loop-entity.gone.items c.push.new.self.items c.in-Some.entity.now (values_of c.loop-entity.entity-iterator) (values_of c.next.new.self) (values_of c.into_iter-entity-iterator.result) (values_of c.args.entities)
    (ap values_of c.in-Some.ensures.steps) (sym c.has_ended.ensures ∙ c.if-has_ended.true) c.loop-entity.invariant.so_far (ap values_of c.into_iter-entity-iterator.ensures.into_iter_gives) c.loop-entity.invariant.room
    (c.in_ok-push.ensures.items ∙ ap (λ (k : Kind). c.loop-entity.gone.items ++ (gone.Entity k c.in-Some.entity.now.id ∷ [])) c.kind.ensures)
