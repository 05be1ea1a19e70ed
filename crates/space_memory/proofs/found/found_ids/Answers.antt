use Rattle.std.proofs.Common.{ℕ, List, subst}
use Rattle.std.specs.List.{All}
use Rattle.std.specs.Map.Iter.{deref_pair}
use Rattle.std.proofs.lemmas.Map.Iter.{rest_all}
use Rattle.entity_core.specs.declared.entity.Entity.{Entity}
use Rattle.entity_maps.specs.Entities.{entity_map}
use Rattle.space_memory.specs.Found.{entity_of, is_sought_of}
use Rattle.space_memory.specs.Near.{Part}
use Rattle.space_memory.proofs.CellSets.{seen_all, seen_more}
use Rattle.space_memory.proofs.FoundIds.{Taken, all_taken, only_more, taken_here, taken_more}
use Rattle.space_memory.proofs.found.found_ids.Goals as goal

pub loop-part-preserved : goal.loop-part-preserved
loop-part-preserved c =
    let look = entity_of (entity_map c.args.entities.now) c.args.kind in
    let volumes = λ (e : Entity). e.volumes in
    let test = is_sought_of c.args.kind c.args.areas.now c.args.except.now in
    let areas = c.args.areas.now in
    let old = c.loop-part.ids in
    let new = c.add_at.new.ids in
    let part = c.in-Some.part.now in
    let answer = c.is_found-answer.result in
    let judges = c.is_found-answer.ensures in
    let adds = c.in_ok-add_at.ensures in
    record {
      only = only_more look volumes test areas old new part c.in-Some.bits.now answer judges adds c.loop-part.invariant.only;
      seen = seen_more (Taken look volumes test areas old) (Taken look volumes test areas new) c.into_iter-part-iterator.result c.loop-part.part-iterator c.next.new.self (part, c.in-Some.bits.now)
          c.in-Some.ensures.steps (taken_more look volumes test areas old new adds.kept) (taken_here look volumes test areas old new part c.in-Some.bits.now answer judges adds) c.loop-part.invariant.seen;
    }

pub returns-clause-all : goal.returns-clause-all
returns-clause-all c =
    let look = entity_of (entity_map c.args.entities.now) c.args.kind in
    let volumes = λ (e : Entity). e.volumes in
    let test = is_sought_of c.args.kind c.args.areas.now c.args.except.now in
    let areas = c.args.areas.now in
    let P = Taken look volumes test areas c.loop-part.ids in
    all_taken look volumes test areas c.args.near.now c.loop-part.ids (subst (λ (es : List (Part × ℕ)). All P es) c.into_iter-part-iterator.ensures.into_iter_gives.0
    (seen_all P c.into_iter-part-iterator.result c.loop-part.part-iterator (rest_all deref_pair _ _ _ c.in-None.is c.next.ensures.steps) c.loop-part.invariant.seen))
