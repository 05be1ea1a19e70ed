use Rattle.std.proofs.Common.{◌∙◌}
use Rattle.space_rows.proofs.ReadSoFar.{not_so}
use Rattle.space_rows.proofs.HeadRows.{other_id}
use Rattle.space_rows.proofs.head.id_as_printed.Goals as goal

pub returns : goal.returns
returns c = other_id c.args.text.now _ c.args.id c.requires c.in_ok-printed.ensures.text (λ e. not_so _ _ c.is_same.ensures c.if-is_same.false (c.as_str.ensures.value ∙ e))
