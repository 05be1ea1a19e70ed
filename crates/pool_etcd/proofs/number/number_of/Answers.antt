use Rattle.std.proofs.Common.{◌≡◌, ℕ, ◌<◌, ◌^◌, Ok, sym, ◌∙◌, ap, subst, rules}
use Rattle.std.specs.Fmt.{decimal}
use Rattle.std.proofs.lemmas.Fmt.{parse-decimal}
use Rattle.pool_etcd.proofs.Numbers.{alike, number_of-decimal, number_of-other, unlike}
use Rattle.pool_etcd.proofs.number.number_of.Goals as goal

pub returns-in_default : goal.returns-in_default
returns-in_default c =
    number_of-other c.args.text.now
    (λ n low e. let read : c.parse.result ≡ Ok n = parse-decimal 64 n c.args.text.now c.parse.result low low e c.parse.ensures.value.0 in cc)

pub returns-then-ne : goal.returns-then-ne
returns-then-ne c =
    let plain : c.as_str.result.now ≡ decimal c.in-Ok.number = search rules in
    number_of-other c.args.text.now
    (λ n low e.
    let read : c.parse.result ≡ Ok n = parse-decimal 64 n c.args.text.now c.parse.result low low e c.parse.ensures.value.0 in
    let same : c.in-Ok.number ≡ n = cc in
    unlike c.as_str.result.now c.args.text.now c.if-ne.ensures (plain ∙ ap decimal same ∙ sym e))

pub returns : goal.returns
returns c =
    let plain : c.as_str.result.now ≡ decimal c.in-Ok.number = search rules in
    let parsed = c.in-Ok.ensures.value in
    let low : c.in-Ok.number < 2 ^ 64 = subst (λ (m : ℕ). m < 2 ^ 64) (sym parsed.0.1) parsed.0.0.1 in
    number_of-decimal c.args.text.now c.in-Ok.number low (sym (alike c.as_str.result.now c.args.text.now c.if-ne.ensures) ∙ plain)
