use Rattle.std.proofs.Common.{◌≡◌, ◌≤◌, ℕ, arith}
use Rattle.clap.specs.Words.{found_of, rows_of}
use Rattle.dss_args.specs.CommandArgs.{HasNumberIn}
use Rattle.dss_args.proofs.Matches.{anyway, no_number, number_from_text, same_number}
use Rattle.dss_args.proofs.command_args.number_in.Goals as goal

pub returns-clause-some : goal.returns-clause-some
returns-clause-some c =
    let f = found_of c.args.matches.now in (
      number_from_text f c.args.name.now c.in_ok-number.number c.in_ok-number.ensures.none (λ t e. (c.in_ok-number.ensures.value t e).0),
      omega arith,
      omega arith,
    )

pub returns-in_err-number-clause-none : goal.returns-in_err-number-clause-none
returns-in_err-number-clause-none c =
    let f = found_of c.args.matches.now in
    let none : (n : ℕ) → HasNumberIn c.args.name.now c.args.least c.args.greatest (rows_of f) n → ⊥ = λ n has.
    let within : n ≤ c.args.greatest = has.2 in
    no_number f c.args.name.now (λ t e. (c.in_err-number.ensures.value t e).1.0) n has.0 (omega arith) in
    anyway _ _ none

pub returns-then-number-least-clause-none : goal.returns-then-number-least-clause-none
returns-then-number-least-clause-none c =
    let f = found_of c.args.matches.now in
    let rows = rows_of f in
    let read = number_from_text f c.args.name.now c.in_ok-number.number c.in_ok-number.ensures.none (λ t e. (c.in_ok-number.ensures.value t e).0) in
    λ n has.
    let same : c.in_ok-number.number ≡ n = same_number c.args.name.now rows c.in_ok-number.number n read has.0 in
    let from : c.args.least ≤ n = has.1 in
    omega arith

pub returns-then-number-greatest-clause-none : goal.returns-then-number-greatest-clause-none
returns-then-number-greatest-clause-none c =
    let f = found_of c.args.matches.now in
    let rows = rows_of f in
    let read = number_from_text f c.args.name.now c.in_ok-number.number c.in_ok-number.ensures.none (λ t e. (c.in_ok-number.ensures.value t e).0) in
    λ n has.
    let same : c.in_ok-number.number ≡ n = same_number c.args.name.now rows c.in_ok-number.number n read has.0 in
    let within : n ≤ c.args.greatest = has.2 in
    omega arith
