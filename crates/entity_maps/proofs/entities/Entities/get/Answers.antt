use Rattle.std.proofs.Common.{ℕ, ap, ◌∙◌}
use Rattle.std.specs.BTreeMap as tree
use Rattle.entity_maps.proofs.EntityTrees.{get_in, number_cmp}
use Rattle.entity_maps.proofs.entities.Entities.get.Goals as goal

pub returns : goal.returns
returns c =
    c.get.ensures.value
    ∙ (ap (λ (k : ℕ × ℕ). tree.get number_cmp c.self.inside.tree k) c.key.ensures
    ∙ get_in c.self.inside.tree c.args.self.now (c.args.kind, c.args.number) c.self.view_is c.self.invariant)
