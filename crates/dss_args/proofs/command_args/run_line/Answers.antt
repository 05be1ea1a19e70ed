use Rattle.std.proofs.Common.{codes, refl, sym, ◌∙◌}
use Rattle.clap.specs.Words.{found_of, rows_of}
use Rattle.clap.proofs.WalkLemmas.{first_value-rows}
use Rattle.dss_args.proofs.Matches.{absent, anyway, nothing_of_run}
use Rattle.dss_args.proofs.command_args.run_line.Goals as goal

pub returns-clause-some : goal.returns-clause-some
returns-clause-some c =
    let f = found_of c.args.matches.now in (
      refl,
      (
        sym (c.in_ok-get_str.ensures ∙ first_value-rows f (codes "tokens")),
        c.in_ok-number_in.ensures.some,
        sym (c.get_str-2.ensures ∙ first_value-rows f (codes "db")),
        sym (c.in_ok-get_str-2.ensures ∙ first_value-rows f (codes "requests")),
      ),
    )

pub returns-in_err-get_str-clause-none : goal.returns-in_err-get_str-clause-none
returns-in_err-get_str-clause-none c =
    let f = found_of c.args.matches.now in
    anyway _ _ (nothing_of_run (rows_of f) (λ tokens now db requests values. absent _ _ (sym (c.in_err-get_str.ensures ∙ first_value-rows f (codes "tokens"))) (values.0)))

pub returns-in_err-number_in-clause-none : goal.returns-in_err-number_in-clause-none
returns-in_err-number_in-clause-none c =
    let f = found_of c.args.matches.now in
    anyway _ _ (nothing_of_run (rows_of f) (λ tokens now db requests values. c.in_err-number_in.ensures.none now (values.1)))

pub returns-in_err-get_str-2-clause-none : goal.returns-in_err-get_str-2-clause-none
returns-in_err-get_str-2-clause-none c =
    let f = found_of c.args.matches.now in
    anyway _ _ (nothing_of_run (rows_of f) (λ tokens now db requests values. absent _ _ (sym (c.in_err-get_str-2.ensures ∙ first_value-rows f (codes "requests"))) (values.3)))
