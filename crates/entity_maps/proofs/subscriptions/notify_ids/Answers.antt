use Rattle.std.proofs.Common.{◌≡◌, false, sym, ◌∙◌, subst, take}
use Rattle.std.specs.BTreeMap.{BTreeMap}
use Rattle.std.specs.Prelude.{ℕ, ◌+◌}
use Rattle.entity_core.specs.declared.subscription.Sub.{Sub}
use Rattle.entity_maps.specs.Subscriptions.{AreKeyed, Notifies}
use Rattle.entity_maps.proofs.Notified.{has, not_among, rises_next, tell_more, tell_same}
use Rattle.entity_maps.proofs.subscriptions.notify_ids.Goals as goal
use Rattle.entity_maps.proofs.subscriptions.notify_ids.Goals.{then-rising, then-rising-via-then-rising, then-rising-via-else-rising+then-not-is_among, else-rising+else-not-is_among}

pub notify_one-requires-clause-rises : goal.notify_one-requires-clause-rises
notify_one-requires-clause-rises c =
    let ids = c.args.ids.now in
    let i = c.loop-i.i in
    let id = c.index-ids-i.result in
    let new : has (take i ids) id ≡ false = elim c.then-rising.branch [
      | then-rising-via-then-rising w ↦ not_among ids i id c.loop-i-test.true c.index-ids-i.is (c.are_rising-rising.ensures.0 w.if-rising.true)
      | then-rising-via-else-rising+then-not-is_among w ↦ sym w.is_among.ensures ∙ w.if-not-is_among.true
    ] in
    rises_next (take i ids) id c.args.tree.now c.loop-i.tree new c.requires.rises c.loop-i.invariant.told

pub loop-i-preserved : goal.loop-i-preserved
loop-i-preserved c =
    let ids = c.args.ids.now in
    let i = c.loop-i.i in
    let id = c.index-ids-i.result in
    let old = c.args.tree.now in
    elim c.if-rising.branch [
      | then-rising w ↦
          let new : has (take i ids) id ≡ false = elim w.then-rising.branch [
            | then-rising-via-then-rising v ↦ not_among ids i id c.loop-i-test.true c.index-ids-i.is (c.are_rising-rising.ensures.0 v.if-rising.true)
            | then-rising-via-else-rising+then-not-is_among v ↦ sym v.is_among.ensures ∙ v.if-not-is_among.true
          ] in
          record {
            keyed = subst (λ (m : BTreeMap ℕ Sub). AreKeyed m.entries) (sym w.tree-is) w.notify_one.ensures.keyed;
            told = subst (Notifies (take (i + 1) ids) old) (sym w.tree-is) (tell_more ids i id old c.loop-i.tree w.notify_one.new.tree c.loop-i-test.true c.index-ids-i.is new c.loop-i.invariant.told w.notify_one.ensures.told);
          }
      | else-rising+else-not-is_among w ↦ record {
        keyed = subst (λ (m : BTreeMap ℕ Sub). AreKeyed m.entries) (sym w.tree-is) c.loop-i.invariant.keyed;
        told = subst (Notifies (take (i + 1) ids) old) (sym w.tree-is) (tell_same ids i id old c.loop-i.tree c.loop-i-test.true c.index-ids-i.is (sym w.is_among.ensures ∙ w.if-not-is_among.false) c.loop-i.invariant.told);
      }
    ]
