use Rattle.std.proofs.Common.{ℕ, List, subst}
use Rattle.std.specs.List.{All}
use Rattle.std.specs.Map.Iter.{deref_pair}
use Rattle.std.proofs.lemmas.Map.Iter.{rest_all}
use Rattle.std.specs.FinMap.{get}
use Rattle.entity_maps.specs.Subscriptions.{subscription_map}
use Rattle.space_memory.specs.IndexedSubscriptions.{volumes_of}
use Rattle.space_memory.specs.Found.{is_own_of}
use Rattle.space_memory.specs.Near.{Part}
use Rattle.space_memory.proofs.CellSets.{seen_all, seen_more}
use Rattle.space_memory.proofs.FoundIds.{Taken, all_taken, only_more, taken_here, taken_more}
use Rattle.space_memory.proofs.indexed_subscriptions.own_ids.Goals as goal

pub loop-part-preserved : goal.loop-part-preserved
loop-part-preserved c =
    let look = get (subscription_map c.args.subscriptions.now) in
    let volumes = volumes_of in
    let test = is_own_of c.args.uss.now c.args.areas.now in
    let areas = c.args.areas.now in
    let old = c.loop-part.ids in
    let new = c.add_at.new.ids in
    let part = c.in-Some.part.now in
    let answer = c.is_own-answer.result in
    let judges = c.is_own-answer.ensures in
    let adds = c.in_ok-add_at.ensures in
    record {
      only = only_more look volumes test areas old new part c.in-Some.bits.now answer judges adds c.loop-part.invariant.only;
      seen = seen_more (Taken look volumes test areas old) (Taken look volumes test areas new) c.into_iter-part-iterator.result c.loop-part.part-iterator c.next.new.self (part, c.in-Some.bits.now)
          c.in-Some.ensures.steps (taken_more look volumes test areas old new adds.kept) (taken_here look volumes test areas old new part c.in-Some.bits.now answer judges adds) c.loop-part.invariant.seen;
    }

pub returns-clause-all : goal.returns-clause-all
returns-clause-all c =
    let look = get (subscription_map c.args.subscriptions.now) in
    let volumes = volumes_of in
    let test = is_own_of c.args.uss.now c.args.areas.now in
    let areas = c.args.areas.now in
    let P = Taken look volumes test areas c.loop-part.ids in
    all_taken look volumes test areas c.args.near.now c.loop-part.ids (subst (λ (es : List (Part × ℕ)). All P es) c.into_iter-part-iterator.ensures.into_iter_gives.0
    (seen_all P c.into_iter-part-iterator.result c.loop-part.part-iterator (rest_all deref_pair _ _ _ c.in-None.is c.next.ensures.steps) c.loop-part.invariant.seen))
