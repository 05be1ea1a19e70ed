use Rattle.std.proofs.Common.{◌≡◌, ◌∙◌, sym, ap, arith, rules, to_z, of_z, to_z-of_z, w64}
use Rattle.std.specs.FinMap.{get}
use Rattle.entity_core.specs.declared.subscription.Sub.{Sub}
use Rattle.entity_maps.specs.Subscriptions.{subscription_map}
use Rattle.space_rows.proofs.SubRows.{one_sub}
use Rattle.space_rows.proofs.ReadSoFar.{not_so}
use Rattle.space_sql_load.proofs.subscriptions.next_sub.Goals as goal

pub returns-else-branch : goal.returns-else-branch
returns-else-branch c = λ s t.
    let same = one_sub c.args.row.now c.args.cells.now s c.in-Some.sub t.spelt (rw c.in-Some.is at c.in_ok-sub.ensures) in
    not_so _ _ c.in_ok-is_sub_free.ensures c.if-branch.false (ap (λ (x : Sub). get (subscription_map c.args.out.now) x.id) (sym same) ∙ t.new)

pub returns-then-branch : goal.returns-then-branch
returns-then-branch c =
    let n : to_z w64 (of_z w64 c.args.row.now.num) ≡ c.args.row.now.num = search rules in
    record {
      rising = rw (to_z-of_z c.ranges.last, n) at (c.is_before.ensures.0 c.if-not-is_before.false);
      spelt = rw c.in-Some.is at c.in_ok-sub.ensures;
      most = omega (arith, c.number.ensures.number, c.if-number-serial.false);
      index = omega (arith, c.number-2.ensures.number, c.if-number-serial-2.false);
      new = c.in_ok-is_sub_free.ensures.0 c.if-branch.true;
    }
