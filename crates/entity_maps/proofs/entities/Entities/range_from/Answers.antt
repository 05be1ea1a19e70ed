use Rattle.std.proofs.Common.{ℕ, ap, ◌∙◌}
use Rattle.std.specs.BTreeMap.Range.{entries_between}
use Rattle.std.specs.declared.ops.Bound.TheVariants.{Included, Unbounded}
use Rattle.entity_maps.specs.Entities.{numbers_of}
use Rattle.entity_maps.proofs.EntityTrees.{found_from, number_cmp, order_kept}
use Rattle.entity_maps.proofs.entities.Entities.range_from.Goals as goal

pub returns-clause-items : goal.returns-clause-items
returns-clause-items c =
    found_from c.self.inside.tree c.args.self.now c.self.view_is c.self.invariant c.range.ensures.ordered (c.args.kind, c.args.id) c.range.result
    (c.range.ensures.between tt ∙ ap (λ (q : ℕ × ℕ). entries_between number_cmp (Included q) Unbounded c.self.inside.tree.entries) (c.key.ensures ∙ ap (λ (n : ℕ). numbers_of (c.args.kind, n)) c.number.ensures))

pub returns-clause-order : goal.returns-clause-order
returns-clause-order c = order_kept c.self.inside.tree c.args.self.now c.self.view_is c.self.invariant c.range.ensures.ordered
