use Rattle.std.proofs.Common.{sym, ap, ◌∙◌, arith}
use Rattle.std.specs.Prelude.{option_map}
use Rattle.token_conf.proofs.Scopes.{with_names, with_names-none, with_names-cons, texts_of-drop}
use Rattle.token_conf.proofs.entry.scopes_in.Goals as goal

pub loop-value-init : goal.loop-value-init
loop-value-init c = rw c.empty-scopes.ensures (with_names-none _)

pub loop-value-preserved : goal.loop-value-preserved
loop-value-preserved c =
    with_names-cons _ _ _ c.with_named-scopes.ensures _
    ∙ ap (option_map (with_names c.loop-value.scopes)) (sym (texts_of-drop c.args.values.now c.loop-value.value-index c.value-item.result c.in_ok-as_str.field-0.now (omega arith) c.value-item.is (sym c.in_ok-as_str.ensures)))
    ∙ c.loop-value.invariant
