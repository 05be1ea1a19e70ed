use Rattle.std.proofs.Common.{ap, ◌∙◌, sym, is_some}
use Rattle.std.specs.List.{list_any}
use Rattle.std.specs.Map.Iter.{deref}
use Rattle.std.proofs.lemmas.Map.Iter.{rest_all, rest_more}
use Rattle.entity_maps.specs.Entities.{entity_map}
use Rattle.space_memory.specs.Names.{Naming, dependent_at}
use Rattle.space_memory.proofs.NamePairs.{named_found, one_found}
use Rattle.space_memory.proofs.names.is_named.Goals as goal

pub returns-then-is_some : goal.returns-then-is_some
returns-then-is_some c =
    let test = λ (q : Naming). is_some (dependent_at (entity_map c.args.entities.now) c.args.id q.1) in
    one_found test c.in-Some.pair.now c.loop-pair.pair-iterator c.next.new.self c.into_iter-pair-iterator.result c.pairs_of-pair-items.result (rest_more deref _ _ _ c.in-Some.pair c.in-Some.is c.next.ensures.steps)
    (ap is_some (sym c.dependent_at.ensures) ∙ (sym c.is_some.ensures ∙ c.if-is_some.true)) c.into_iter-pair-iterator.ensures.into_iter_gives c.loop-pair.invariant
    ∙ named_found c.args.entities.now c.args.names.now c.args.id c.pairs_of-pair-items.result c.requires c.pairs_of-pair-items.ensures

pub returns : goal.returns
returns c =
    let test = λ (q : Naming). is_some (dependent_at (entity_map c.args.entities.now) c.args.id q.1) in
    ap (list_any test) (sym (rest_all deref _ _ _ c.in-None.is c.next.ensures.steps)) ∙ (c.loop-pair.invariant ∙ ap (list_any test) c.into_iter-pair-iterator.ensures.into_iter_gives)
    ∙ named_found c.args.entities.now c.args.names.now c.args.id c.pairs_of-pair-items.result c.requires c.pairs_of-pair-items.ensures
