use Rattle.std.proofs.Common.{ℕ, None, sym, ap, ◌∙◌, subst}
use Rattle.std.specs.Prelude.{cond}
use Rattle.std.specs.BTreeMap as tree
use Rattle.std.specs.BTreeMap.{is_at}
use Rattle.std.specs.Ordering.{nat_cmp}
use Rattle.entity_maps.specs.Subscriptions.{AreKeyed}
use Rattle.entity_maps.proofs.SubscriptionTrees.{keyed_without, without_map}
use Rattle.entity_maps.proofs.subscriptions.Subscriptions.remove.Goals as goal

pub invariant_of-self : goal.invariant_of-self
invariant_of-self c = subst AreKeyed (sym c.remove-gone.ensures.entries) (keyed_without (is_at (nat_cmp c.number.result)) c.self.inside.tree.entries c.self.invariant)

pub returns : goal.returns
returns c =
    let left = subst AreKeyed (sym c.remove-gone.ensures.entries) (keyed_without (is_at (nat_cmp c.number.result)) c.self.inside.tree.entries c.self.invariant) in
    without_map c.self.inside.tree c.remove-gone.new.self c.args.self.now c.self.view_is c.self.invariant left c.args.id
    (λ q. c.remove-gone.ensures.updates.0 q ∙ ap (λ (k : ℕ). cond (is_at (nat_cmp k) q) None (tree.get nat_cmp c.self.inside.tree q)) c.number.ensures)
