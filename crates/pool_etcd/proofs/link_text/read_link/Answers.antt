use Rattle.std.proofs.Common.{◌≡◌, ◌+◌, ◌∙◌, ℕ, List, Option, Some, None, sym, subst, drop, arith, length-drop}
use Rattle.std.proofs.lemmas.List.{take_all}
use Rattle.pool_etcd.specs.LinkText.{digest_in}
use Rattle.pool_etcd.proofs.LinkTexts.{link_here, no_link_before, no_link_behind, no_link_in_word}
use Rattle.pool_etcd.proofs.link_text.read_link.Goals as goal

pub returns-in_default : goal.returns-in_default
returns-in_default c = no_link_in_word c.args.bytes.now c.in_default.ensures.none

pub returns-in_default-2 : goal.returns-in_default-2
returns-in_default-2 c =
    no_link_behind c.args.bytes.now _ _ c.in-Some.ensures.some (sym c.in_ok-count.ensures ∙ c.in_default-2.is)

pub returns-in_default-3 : goal.returns-in_default-3
returns-in_default-3 c =
    let rest = drop (c.in-Some.space + 1) c.args.bytes.now in
    let whole = take_all _ rest (omega (arith, length-drop (c.in-Some.space + 1) c.args.bytes.now)) in
    no_link_before c.args.bytes.now _ rest c.in-Some.ensures.some
    (subst (λ (bytes : List ℕ). digest_in bytes ≡ None) whole (sym c.in_ok-digest.ensures ∙ c.in_default-3.is))

pub returns : goal.returns
returns c =
    let rest = drop (c.in-Some.space + 1) c.args.bytes.now in
    let whole = take_all _ rest (omega (arith, length-drop (c.in-Some.space + 1) c.args.bytes.now)) in
    link_here c.args.bytes.now _ rest c.in-Some-2.count c.in-Some-3.digest c.in-Some.ensures.some (sym c.in_ok-count.ensures ∙ c.in-Some-2.is)
    (subst (λ (bytes : List ℕ). digest_in bytes ≡ Some c.in-Some-3.digest) whole (sym c.in_ok-digest.ensures ∙ c.in-Some-3.is))
