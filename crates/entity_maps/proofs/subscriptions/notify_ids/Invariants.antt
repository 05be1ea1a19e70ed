use Rattle.std.proofs.Common.{take}
use Rattle.entity_maps.specs.Subscriptions.{AreKeyed, Notifies}
use Rattle.entity_maps.proofs.subscriptions.notify_ids.Given as goal

abbrev pub invariant-loop-i : goal.invariant-loop-i
invariant-loop-i l = record { keyed : AreKeyed l.tree.entries; told : Notifies (take l.i l.ids) l.fn.tree l.tree }
