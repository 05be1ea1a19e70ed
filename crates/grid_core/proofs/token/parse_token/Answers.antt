use Rattle.std.proofs.Common.{◌<◌, ◌^◌, ℕ, List, length, sym, subst}
use Rattle.std.specs.Str.Parse.{AllDigits, digits_value}
use Rattle.std.proofs.lemmas.Int.Digits.{digits_value-lt}
use Rattle.std.proofs.Common.{rules, arith}
use Rattle.std.proofs.lemmas.Grind.{common_steps}
use Rattle.grid_core.specs.declared.token.TokenFault.TheVariants.{Length, Digit, Invalid}
use Rattle.grid_core.proofs.Named.{named_when_read, unnamed_when_refused}
use Rattle.grid_core.proofs.token.parse_token.Goals as goal

pub padded-requires-clause-fits : goal.padded-requires-clause-fits
padded-requires-clause-fits c =
    subst (λ (x : ℕ). x < 16 ^ length c.args.text.now) (sym c.in-Some.ensures.1)
    (subst (λ (xs : List ℕ). digits_value 16 xs < 16 ^ length c.args.text.now) (sym c.as_bytes.ensures.value)
    (digits_value-lt 16 c.args.text.now (subst (λ (xs : List ℕ). AllDigits 16 xs) c.as_bytes.ensures.value c.in-Some.ensures.0)))

pub returns-then-is_empty-clause-none : goal.returns-then-is_empty-clause-none
returns-then-is_empty-clause-none c = unnamed_when_refused c.args.text.now Length (grind (arith, common_steps))

pub returns-in_default-clause-none : goal.returns-in_default-clause-none
returns-in_default-clause-none c = unnamed_when_refused c.args.text.now Digit (search rules)

pub returns-in-Some-from_raw-clause-named : goal.returns-in-Some-from_raw-clause-named
returns-in-Some-from_raw-clause-named c = named_when_read c.args.text.now c.in-Some-from_raw.cell (search rules)

pub returns-in-None-clause-none : goal.returns-in-None-clause-none
returns-in-None-clause-none c = unnamed_when_refused c.args.text.now Invalid (search rules)
