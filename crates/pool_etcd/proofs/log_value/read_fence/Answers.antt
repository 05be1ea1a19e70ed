use Rattle.std.proofs.Common.{◌≡◌, ◌+◌, ℕ, List, Option, sym, ◌∙◌, subst, drop, arith, length-drop}
use Rattle.std.proofs.lemmas.List.{take_all}
use Rattle.std.specs.Prelude.{IfOk}
use Rattle.pool_etcd.specs.Number.{number_of}
use Rattle.pool_etcd.proofs.FirstLines.{fence_in, no_fence_behind, no_fence_in_word}
use Rattle.pool_etcd.proofs.log_value.read_fence.Goals as goal

pub returns-in_default : goal.returns-in_default
returns-in_default c = no_fence_in_word c.args.value.now c.in_default.ensures.none

pub returns-in_default-2 : goal.returns-in_default-2
returns-in_default-2 c =
    no_fence_behind c.args.value.now _ _ c.in-Some.ensures.some (sym c.in_ok-_number.ensures ∙ c.in_default-2.is)

pub returns : goal.returns
returns c =
    let value = c.args.value.now in
    let rest = drop (c.in-Some.space + 1) value in
    let whole = take_all _ rest (omega (arith, length-drop (c.in-Some.space + 1) value)) in
    fence_in value _ rest c.in-Some-2._number c.number_in_bytes-2.result c.in-Some.ensures.some
    (sym c.in_ok-_number.ensures ∙ c.in-Some-2.is)
    (subst (λ (bytes : List ℕ). IfOk c.number_in_bytes-2.result (λ (agreed : Option ℕ). agreed ≡ number_of bytes)) whole c.number_in_bytes-2.ensures)
