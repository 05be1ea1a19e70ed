use Rattle.std.proofs.Common.{◌≡◌, Option, Some, sym, ap, subst, ◌∙◌}
use Rattle.std.specs.BTreeSet.{BTreeSet}
use Rattle.std.specs.FinMap.{get}
use Rattle.entity_maps.specs.Subscriptions.{subscription_map}
use Rattle.space_memory.specs.CellIndex.{Holder, KeepsOthers, Mark}
use Rattle.space_memory.specs.IndexedSubscriptions.{IsIndexBut}
use Rattle.space_memory.proofs.SubscriptionIndexes.{forgotten_but}
use Rattle.space_memory.proofs.indexed_subscriptions.forget_sub.Goals as goal

pub returns-in-Some-marks-clause-kept : goal.returns-in-Some-marks-clause-kept
returns-in-Some-marks-clause-kept c = λ h.
    let ss = c.args.subscriptions.now in
    let there : get (subscription_map ss) c.args.id ≡ Some c.in-Some.sub.now = sym (c.in-Some.ensures ∙ ap (get (subscription_map ss)) c.number.ensures) in
    forgotten_but ss c.args.id c.in-Some-marks.marks c.unmark_cells.new.marks c.in-Some.sub.now there
    (subst (λ (o : Holder). KeepsOthers o c.in-Some-marks.marks c.unmark_cells.new.marks) c.sub_holder.ensures c.unmark_cells.ensures)
    (subst (λ (o : Option (BTreeSet Mark)). IsIndexBut c.args.id (subscription_map ss) o) c.in-Some-marks.is h)
