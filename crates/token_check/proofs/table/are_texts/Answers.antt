use Rattle.std.proofs.Common.{sym, ap, ◌∙◌, arith}
use Rattle.std.specs.Prelude.{not}
use Rattle.token_check.proofs.Found.{is_some-read, texts-go_on, texts-stop}
use Rattle.token_check.proofs.table.are_texts.Goals as goal

pub returns-then-is_none : goal.returns-then-is_none
returns-then-is_none c =
    sym (texts-stop c.args.values.now c.loop-value.value-index c.value-item.result (omega arith) c.value-item.is (is_some-read c.as_str.result _ _ c.as_str.ensures (c.is_none.ensures ∙ ap not c.if-is_none.true))) ∙ c.loop-value.invariant

pub loop-value-preserved : goal.loop-value-preserved
loop-value-preserved c =
    sym (texts-go_on c.args.values.now c.loop-value.value-index c.value-item.result (omega arith) c.value-item.is (is_some-read c.as_str.result _ _ c.as_str.ensures (c.is_none.ensures ∙ ap not c.if-is_none.false))) ∙ c.loop-value.invariant
