use Rattle.std.proofs.Common.{codes, refl, sym, ◌∙◌}
use Rattle.clap.specs.Words.{found_of, rows_of}
use Rattle.clap.proofs.WalkLemmas.{first_value-rows}
use Rattle.dss_args.proofs.Matches.{absent, anyway, nothing_of_backup}
use Rattle.dss_args.proofs.command_args.backup_line.Goals as goal

pub returns-clause-some : goal.returns-clause-some
returns-clause-some c =
    let f = found_of c.args.matches.now in (
      refl,
      (
        sym (c.in_ok-get_str.ensures ∙ first_value-rows f (codes "db")),
        sym (c.in_ok-get_str-2.ensures ∙ first_value-rows f (codes "to")),
        sym c.is_set.ensures,
      ),
    )

pub returns-in_err-get_str-clause-none : goal.returns-in_err-get_str-clause-none
returns-in_err-get_str-clause-none c =
    let f = found_of c.args.matches.now in
    let missing = sym (c.in_err-get_str.ensures ∙ first_value-rows f (codes "db")) in
    anyway _ _ (nothing_of_backup (rows_of f) (λ db to live values. absent _ _ missing values.0))

pub returns-in_err-get_str-2-clause-none : goal.returns-in_err-get_str-2-clause-none
returns-in_err-get_str-2-clause-none c =
    let f = found_of c.args.matches.now in
    let missing = sym (c.in_err-get_str-2.ensures ∙ first_value-rows f (codes "to")) in
    anyway _ _ (nothing_of_backup (rows_of f) (λ db to live values. absent _ _ missing values.1))
