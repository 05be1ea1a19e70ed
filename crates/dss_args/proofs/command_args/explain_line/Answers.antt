use Rattle.std.proofs.Common.{codes, refl, sym, ◌∙◌}
use Rattle.clap.specs.Words.{found_of, rows_of}
use Rattle.clap.proofs.WalkLemmas.{first_value-rows}
use Rattle.dss_args.proofs.Matches.{absent, anyway, nothing_of_explain}
use Rattle.dss_args.proofs.command_args.explain_line.Goals as goal

pub returns-clause-some : goal.returns-clause-some
returns-clause-some c =
    let f = found_of c.args.matches.now in (
      refl,
      (
        sym (c.in_ok-get_str.ensures ∙ first_value-rows f (codes "method")),
        sym (c.in_ok-get_str-2.ensures ∙ first_value-rows f (codes "target")),
        c.in_ok-choice_in.ensures.some,
      ),
    )

pub returns-in_err-get_str-clause-none : goal.returns-in_err-get_str-clause-none
returns-in_err-get_str-clause-none c =
    let f = found_of c.args.matches.now in
    let missing = sym (c.in_err-get_str.ensures ∙ first_value-rows f (codes "method")) in
    anyway _ _ (nothing_of_explain (rows_of f) (λ method target now values. absent _ _ missing values.0))

pub returns-in_err-get_str-2-clause-none : goal.returns-in_err-get_str-2-clause-none
returns-in_err-get_str-2-clause-none c =
    let f = found_of c.args.matches.now in
    let missing = sym (c.in_err-get_str-2.ensures ∙ first_value-rows f (codes "target")) in
    anyway _ _ (nothing_of_explain (rows_of f) (λ method target now values. absent _ _ missing values.1))

pub returns-in_err-choice_in-clause-none : goal.returns-in_err-choice_in-clause-none
returns-in_err-choice_in-clause-none c =
    let f = found_of c.args.matches.now in
    anyway _ _ (nothing_of_explain (rows_of f) (λ method target now values. c.in_err-choice_in.ensures.none now values.2))
