use Rattle.std.proofs.Common.{◌≡◌, drop}
use Rattle.serde_json.specs.View.{items_view}
use Rattle.entity_core.specs.IdTexts.{ovn_fault}
use Rattle.wire_body.specs.Put.{text_in}
use Rattle.wire_body.specs.Member.{each}
use Rattle.wire_body.proofs.Fronts.{with_front}
use Rattle.wire_body.proofs.put.each_ovn.Given as goal

abbrev pub invariant-loop-value : goal.invariant-loop-value
invariant-loop-value l = each (text_in ovn_fault) (items_view l.items) ≡ with_front l.ovns.items (each (text_in ovn_fault) (items_view (drop l.value-index l.items)))
