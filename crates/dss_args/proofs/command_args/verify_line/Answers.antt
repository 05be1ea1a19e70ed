use Rattle.std.proofs.Common.{codes, refl, sym, ◌∙◌}
use Rattle.clap.specs.Words.{found_of, rows_of}
use Rattle.clap.proofs.WalkLemmas.{first_value-rows}
use Rattle.dss_args.proofs.Matches.{absent, anyway, nothing_of_verify}
use Rattle.dss_args.proofs.command_args.verify_line.Goals as goal

pub returns-clause-some : goal.returns-clause-some
returns-clause-some c =
    let f = found_of c.args.matches.now in (
      refl,
      sym (c.in_ok-get_str.ensures ∙ first_value-rows f (codes "file")),
    )

pub returns-in_err-get_str-clause-none : goal.returns-in_err-get_str-clause-none
returns-in_err-get_str-clause-none c =
    let f = found_of c.args.matches.now in
    anyway _ _ (nothing_of_verify (rows_of f) (λ file values. absent _ _ (sym (c.in_err-get_str.ensures ∙ first_value-rows f (codes "file"))) (values)))
