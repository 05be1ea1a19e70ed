use Rattle.std.proofs.Common.{◌∙◌}
use Rattle.space_rows.proofs.Digits.{not_printed}
use Rattle.space_rows.proofs.ReadSoFar.{not_so}
use Rattle.space_rows.proofs.cells.as_printed.Goals as goal

pub returns : goal.returns
returns c = not_printed c.args.text.now _ c.args.cell c.requires.valid c.requires.reads c.in_ok-printed.ensures (λ e. not_so _ _ c.is_same.ensures c.if-is_same.false (c.as_str.ensures.value ∙ e))
