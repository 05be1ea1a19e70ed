use Rattle.std.proofs.Common.{ap, sym, ◌∙◌}
use Rattle.std.specs.Option.{option_copied}
use Rattle.space_memory.proofs.SearchMaps.{entity_judged, entity_left_out}
use Rattle.space_memory.proofs.found.is_found.Goals as goal

pub returns-then-is_other : goal.returns-then-is_other
returns-then-is_other c =
    entity_judged c.args.entities.now c.args.kind c.args.areas.now c.args.except.now c.args.part c.args.bits c.in-Some.entity.now (sym c.get.ensures ∙ ap option_copied c.in-Some.is)
    c.meets_at.result (sym c.is_other.ensures ∙ c.if-is_other.true) c.meets_at.ensures.sound c.meets_at.ensures.whole

pub returns-else-is_other : goal.returns-else-is_other
returns-else-is_other c =
    entity_left_out c.args.entities.now c.args.kind c.args.areas.now c.args.except.now c.args.part c.args.bits c.in-Some.entity.now (sym c.get.ensures ∙ ap option_copied c.in-Some.is)
    c.is_other.result c.is_other.ensures c.if-is_other.false
