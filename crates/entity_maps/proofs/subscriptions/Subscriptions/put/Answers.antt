use Rattle.std.proofs.Common.{◌≡◌, ℕ, Some, None, sym, ap, ◌∙◌, subst}
use Rattle.std.specs.Prelude.{cond, IsSome}
use Rattle.std.specs.BTreeMap as tree
use Rattle.std.specs.BTreeMap.{is_at}
use Rattle.std.specs.Ordering.{nat_cmp}
use Rattle.entity_maps.proofs.SubscriptionTrees.{get_in, keyed_after, put_map}
use Rattle.entity_maps.proofs.subscriptions.Subscriptions.put.Goals as goal

pub invariant_of-self : goal.invariant_of-self
invariant_of-self c = keyed_after c.insert.result c.self.inside.tree.entries c.insert.new.self.entries c.args.sub c.number.result c.number.ensures c.self.invariant c.insert.ensures.entries c.insert.ensures.err

pub returns-in-Ok-clause-ok : goal.returns-in-Ok-clause-ok
returns-in-Ok-clause-ok c =
    let keyed = keyed_after c.insert.result c.self.inside.tree.entries c.insert.new.self.entries c.args.sub c.number.result c.number.ensures c.self.invariant c.insert.ensures.entries c.insert.ensures.err in
    put_map c.self.inside.tree c.insert.new.self c.args.self.now c.self.view_is c.self.invariant keyed c.args.sub
    (λ q. c.in-Ok.ensures.updates.0 q ∙ ap (λ (k : ℕ). cond (is_at (nat_cmp k) q) (Some c.args.sub) (tree.get nat_cmp c.self.inside.tree q)) c.number.ensures)

pub returns-clause-over : goal.returns-clause-over
returns-clause-over c = λ there.
    let none : tree.get nat_cmp c.self.inside.tree c.args.sub.id ≡ None = ap (tree.get nat_cmp c.self.inside.tree) (sym c.number.ensures) ∙ c.in-Err.ensures.absent in
    subst IsSome (sym (get_in c.self.inside.tree c.args.self.now c.args.sub.id c.self.view_is c.self.invariant) ∙ none) there
