use Rattle.std.proofs.Common.{sym, ◌∙◌, arith}
use Rattle.token_conf.proofs.Tokens.{callers_after-drop}
use Rattle.token_conf.proofs.entry.read_tokens.Goals as goal

pub loop-value-preserved : goal.loop-value-preserved
loop-value-preserved c =
    rw c.in_ok-push.ensures.items (sym (callers_after-drop c.args.values.now c.loop-value.value-index c.value-item.result c.loop-value.tokens.items c.in_ok-token.token (omega arith) c.value-item.is (rw c.as_slice.ensures.value at c.in_ok-token.ensures.gives) (rw c.as_slice.ensures.value at c.in_ok-token.ensures.new)) ∙ c.loop-value.invariant)
