use Rattle.std.proofs.Common.{◌≡◌, ℕ, Some, None, ap, sym, ◌∙◌, subst}
use Rattle.std.specs.BTreeMap as tree
use Rattle.std.specs.BTreeMap.{is_at}
use Rattle.std.specs.Ordering.{nat_cmp}
use Rattle.std.specs.Prelude.{Option, IfSome, IsSome, ◌<◌, cond, refl}
use Rattle.entity_core.specs.Airspace.{notified_again}
use Rattle.entity_core.specs.Serial.{max_serial}
use Rattle.entity_core.specs.declared.subscription.Sub.{Sub}
use Rattle.entity_maps.specs.Subscriptions.{AreKeyed}
use Rattle.entity_maps.proofs.SubscriptionTrees.{keyed_set, own_id}
use Rattle.entity_maps.proofs.Notified.{told_missed, told_written}
use Rattle.entity_maps.proofs.subscriptions.notify_one.Goals as goal

pub returns-in-Some : goal.returns-in-Some
returns-in-Some c =
    let m = c.args.tree.now in
    let s = c.in-Some.sub.now in
    let w = c.notify.new.self in
    let found : tree.get nat_cmp m c.args.id ≡ Some s = ap (tree.get nat_cmp m) (sym c.number.ensures) ∙ sym c.in-Some.ensures.value in
    let new : w ≡ notified_again s = c.notify.ensures (subst (λ (o : Option Sub). IfSome o (λ x. x.index < max_serial)) found c.requires.rises) in
    let own : w.id ≡ c.number.result = ap (λ (x : Sub). x.id) new ∙ (own_id c.args.id m.entries s c.requires.keyed found ∙ sym c.number.ensures) in
    let written = c.get_mut.follows.holds w in
    record {
      keyed = subst AreKeyed (sym written.0) (keyed_set c.number.result m.entries w own c.requires.keyed);
      told = told_written c.args.id m (c.get_mut.follows.lender w) s w found new (λ q.
          (written.3 (subst (λ (o : Option Sub). IsSome o) c.in-Some.ensures.value refl)).0 q
          ∙ ap (λ (k : ℕ). cond (is_at (nat_cmp k) q) (Some w) (tree.get nat_cmp m q)) c.number.ensures);
    }

pub returns-in_default : goal.returns-in_default
returns-in_default c =
    let m = c.args.tree.now in
    let none : tree.get nat_cmp m c.args.id ≡ None = ap (tree.get nat_cmp m) (sym c.number.ensures) ∙ sym c.in_default.ensures.value in
    record {
      keyed = subst (λ (x : tree.BTreeMap ℕ Sub). AreKeyed x.entries) (sym c.get_mut.follows.holds-at-none) c.requires.keyed;
      told = told_missed c.args.id m c.get_mut.follows.lender-at-none none c.get_mut.follows.holds-at-none;
    }
