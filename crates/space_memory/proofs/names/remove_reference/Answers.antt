use Rattle.std.proofs.Common.{ℕ, false, not, subst, sym, ap, ◌∙◌}
use Rattle.std.specs.BTreeSet.{Updates}
use Rattle.entity_maps.specs.Entities.{entity_map}
use Rattle.space_memory.specs.Names.{Naming, dependent_at, naming_cmp}
use Rattle.space_memory.proofs.NamePairs.{forgotten, not_some}
use Rattle.space_memory.proofs.names.remove_reference.Goals as goal

pub returns-then-is_none : goal.returns-then-is_none
returns-then-is_none c =
    forgotten c.args.entities.now c.in-Some.id c.args.gone.now.id c.args.names.now c.remove.new.self
    (ap (λ (n : ℕ). dependent_at (entity_map c.args.entities.now) c.in-Some.id n) (sym c.number.ensures) ∙ (sym c.dependent_at.ensures ∙ not_some c.dependent_at.result (c.is_none.ensures ∙ ap not c.if-is_none.true)))
    (subst (λ (q : Naming). Updates naming_cmp c.args.names.now c.remove.new.self q false) (λ i. (c.number-then-is_none.ensures i, c.number-then-is_none-2.ensures i)) c.remove.ensures.updates)
