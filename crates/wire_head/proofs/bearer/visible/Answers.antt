use Rattle.std.proofs.Common.{sym}
use Rattle.wire_head.proofs.BearerLaws.{visible_text}
use Rattle.wire_head.proofs.bearer.visible.Goals as goal

pub unreachable-requires : goal.unreachable-requires
unreachable-requires c = c.in_default.ensures.cases.0 (visible_text c.args.text.now (sym c.if-not-are_visible.ensures))
