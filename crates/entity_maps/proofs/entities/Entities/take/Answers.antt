use Rattle.std.proofs.Common.{◌≡◌, ℕ, None, sym, ap, ◌∙◌, subst}
use Rattle.std.specs.Prelude.{cond}
use Rattle.std.specs.BTreeMap as tree
use Rattle.std.specs.BTreeMap.{is_at}
use Rattle.entity_maps.specs.Entities.{AreKeyed, numbers_of}
use Rattle.entity_maps.proofs.EntityTrees.{get_in, keyed_without, number_cmp, without_map}
use Rattle.entity_maps.proofs.entities.Entities.take.Goals as goal

pub invariant_of-self : goal.invariant_of-self
invariant_of-self c = subst AreKeyed (sym c.remove.ensures.entries) (keyed_without (is_at (number_cmp c.key.result)) c.self.inside.tree.entries c.self.invariant)

pub returns-clause-was : goal.returns-clause-was
returns-clause-was c =
    let key : c.key.result ≡ numbers_of (c.args.kind, c.args.id) = c.key.ensures ∙ ap (λ (n : ℕ). numbers_of (c.args.kind, n)) c.number.ensures in
    c.remove.ensures.value
    ∙ (ap (λ (k : ℕ × ℕ). tree.get number_cmp c.self.inside.tree k) key
    ∙ get_in c.self.inside.tree c.args.self.now (c.args.kind, c.args.id) c.self.view_is c.self.invariant)

pub returns-clause-left : goal.returns-clause-left
returns-clause-left c =
    let key : c.key.result ≡ numbers_of (c.args.kind, c.args.id) = c.key.ensures ∙ ap (λ (n : ℕ). numbers_of (c.args.kind, n)) c.number.ensures in
    let left = subst AreKeyed (sym c.remove.ensures.entries) (keyed_without (is_at (number_cmp c.key.result)) c.self.inside.tree.entries c.self.invariant) in
    without_map c.self.inside.tree c.remove.new.self c.args.self.now c.self.view_is c.self.invariant left (c.args.kind, c.args.id)
    (λ q. c.remove.ensures.updates.0 q ∙ ap (λ (k : ℕ × ℕ). cond (is_at (number_cmp k) q) None (tree.get number_cmp c.self.inside.tree q)) key)
