use Rattle.std.proofs.Common.{◌≡◌, ◌+◌, ◌∙◌, ℕ, List, sym, subst, drop, arith, length-drop}
use Rattle.std.proofs.lemmas.List.{take_all}
use Rattle.pool_etcd.specs.LinkText.{IsLinkText, IsNoLinkText}
use Rattle.pool_etcd.proofs.LinkTexts.{no_value_before, no_value_behind, no_value_in_word, value_here}
use Rattle.pool_etcd.proofs.log_value.read_head.Goals as goal

pub returns-in_default : goal.returns-in_default
returns-in_default c = no_value_in_word c.args.bytes.now c.in_default.ensures.none

pub returns-in_default-2 : goal.returns-in_default-2
returns-in_default-2 c =
    no_value_behind c.args.bytes.now _ _ c.in-Some.ensures.some (sym c.in_ok-number.ensures ∙ c.in_default-2.is)

pub returns-in_default-3 : goal.returns-in_default-3
returns-in_default-3 c =
    let rest = drop (c.in-Some.space + 1) c.args.bytes.now in
    let whole = take_all _ rest (omega (arith, length-drop (c.in-Some.space + 1) c.args.bytes.now)) in
    no_value_before c.args.bytes.now _ rest c.in-Some.ensures.some
    (subst (λ (bytes : List ℕ). IsNoLinkText bytes) whole (rw c.in_default-3.is at c.in_ok-link.ensures))

pub returns : goal.returns
returns c =
    let rest = drop (c.in-Some.space + 1) c.args.bytes.now in
    let whole = take_all _ rest (omega (arith, length-drop (c.in-Some.space + 1) c.args.bytes.now)) in
    value_here c.args.bytes.now _ rest c.in-Some-2.number c.in-Some-3.link c.in-Some.ensures.some (sym c.in_ok-number.ensures ∙ c.in-Some-2.is)
    (subst (λ (bytes : List ℕ). IsLinkText bytes c.in-Some-3.link) whole (rw c.in-Some-3.is at c.in_ok-link.ensures))
