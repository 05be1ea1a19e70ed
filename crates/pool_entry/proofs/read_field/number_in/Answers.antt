use Rattle.std.proofs.Common.{◌≡◌, ◌<◌, ◌^◌, ◌∙◌, sym, ap, arith, true, false}
use Rattle.std.specs.Str.{bytes_eq}
use Rattle.std.proofs.lemmas.Slice.Eq.{bytes_eq-Decides}
use Rattle.pool_entry.specs.Reading.{number_in}
use Rattle.pool_entry.proofs.Numbers.{number_in_gives, fails_unless_utf8, fails_unless_parsed, fails_unless_same}
use Rattle.pool_entry.proofs.read_field.number_in.Goals as goal

pub returns-in_default : goal.returns-in_default
returns-in_default c = fails_unless_utf8 c.args.fault c.args.text.now c.in_default.ensures.cases.0

pub returns-in_default-parse : goal.returns-in_default-parse
returns-in_default-parse c =
    ap (λ t. number_in c.args.fault t) (sym c.in-Ok.ensures.cases.0)
    ∙ fails_unless_parsed c.args.fault c.in-Ok.digits.now c.in_default-parse.field-0 c.in_default-parse.ensures.value.0

pub returns-then-eq : goal.returns-then-eq
returns-then-eq c =
    let n = c.in-Ok-parse.n in
    let same = (bytes_eq-Decides c.format.result.now c.in-Ok.digits.now).0 (sym c.if-eq.ensures) in
    let parsed = c.in-Ok-parse.ensures.value.0 in
    let small : n < 2 ^ 64 = omega (arith, parsed.0.1, parsed.1) in
    number_in_gives c.args.fault c.args.text.now n small (sym c.in-Ok.ensures.cases.0 ∙ sym same ∙ c.format.ensures.text)

pub returns-else-eq : goal.returns-else-eq
returns-else-eq c =
    let differs = λ (e : c.in-Ok.digits.now ≡ _). (let same : bytes_eq c.format.result.now c.in-Ok.digits.now ≡ true = (bytes_eq-Decides c.format.result.now c.in-Ok.digits.now).1 (c.format.ensures.text ∙ sym e) in let not : bytes_eq c.format.result.now c.in-Ok.digits.now ≡ false = sym c.if-eq.ensures in absurd cc) in
    ap (λ t. number_in c.args.fault t) (sym c.in-Ok.ensures.cases.0)
    ∙ fails_unless_same c.args.fault c.in-Ok.digits.now c.in-Ok-parse.n c.parse.result c.in-Ok-parse.is c.parse.ensures.value.0 differs
