use Rattle.std.proofs.Common.{List, subst, ◌∙◌}
use Rattle.std.specs.List.{All}
use Rattle.std.specs.Map.Iter.{deref}
use Rattle.std.proofs.lemmas.Map.Iter.{rest_all}
use Rattle.entity_core.specs.declared.entity.Entity.{Entity}
use Rattle.space_memory.specs.CellIndex.{AllMarked}
use Rattle.space_memory.specs.Names.{IsEntered}
use Rattle.space_memory.proofs.CellSets.{Seen, seen_all, seen_more}
use Rattle.space_memory.proofs.IndexedMaps.{all_each, grown_marked}
use Rattle.space_memory.proofs.NamePairs.{entered_more}
use Rattle.space_memory.proofs.indexed.IndexedEntities.of.Goals as goal

pub loop-entity-preserved : goal.loop-entity-preserved
loop-entity-preserved c =
    let old = c.loop-entity.marks in
    let new = c.add_entity.new.marks in
    let was = c.loop-entity.names in
    let now = c.add_entity.new.names in
    let all = c.into_iter-entity-iterator.result in
    let e = c.in-Some.entity.now in
    record {
      marked = seen_more (AllMarked old) (AllMarked new) all c.loop-entity.entity-iterator c.next.new.self e c.in-Some.ensures.steps (grown_marked old new c.add_entity.ensures.more_cells) c.in_ok-add_entity.ensures.marked c.loop-entity.invariant.marked;
      entered = seen_more (IsEntered was) (IsEntered now) all c.loop-entity.entity-iterator c.next.new.self e c.in-Some.ensures.steps (entered_more was now c.add_entity.ensures.more_names) c.in_ok-add_entity.ensures.entered c.loop-entity.invariant.entered;
    }

pub invariant_of-result : goal.invariant_of-result
invariant_of-result c =
    let none = rest_all deref _ _ _ c.in-None.is c.next.ensures.steps in
    let each = λ (P : Entity → Type 0) (seen : Seen P c.into_iter-entity-iterator.result c.loop-entity.entity-iterator).
    all_each P c.args.entities (subst (λ (es : List Entity). All P es) (c.into_iter-entity-iterator.ensures.into_iter_gives ∙ c.iter-entity-items.ensures.items) (seen_all P c.into_iter-entity-iterator.result c.loop-entity.entity-iterator none seen)) in
    (each (AllMarked c.loop-entity.marks) c.loop-entity.invariant.marked, each (IsEntered c.loop-entity.names) c.loop-entity.invariant.entered)
