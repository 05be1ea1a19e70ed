use Rattle.std.proofs.Common.{sym, ap, ◌∙◌, arith}
use Rattle.std.specs.Prelude.{nat_eq}
use Rattle.std.specs.Cmp.Lexicographic.{pointwise}
use Rattle.token_conf.proofs.Tokens.{get-callers_in, scan-same, scan-other}
use Rattle.token_conf.proofs.entry.caller_of.Goals as goal

pub loop-token-init : goal.loop-token-init
loop-token-init c = sym (get-callers_in _ _)

pub returns-then-eq : goal.returns-then-eq
returns-then-eq c =
    sym (scan-same c.args.text.now c.args.tokens.now c.loop-token.token-index c.token-item.result (omega arith) c.token-item.is (ap (pointwise nat_eq c.args.text.now) (sym c.text.ensures) ∙ sym c.eq.ensures ∙ c.if-eq.true)) ∙ c.loop-token.invariant

pub loop-token-preserved : goal.loop-token-preserved
loop-token-preserved c =
    sym (scan-other c.args.text.now c.args.tokens.now c.loop-token.token-index c.token-item.result (omega arith) c.token-item.is (ap (pointwise nat_eq c.args.text.now) (sym c.text.ensures) ∙ sym c.eq.ensures ∙ c.if-eq.false)) ∙ c.loop-token.invariant
