use Rattle.std.proofs.Common.{codes, refl, sym, ◌∙◌}
use Rattle.clap.specs.Words.{found_of, rows_of}
use Rattle.clap.proofs.WalkLemmas.{first_value-rows}
use Rattle.dss_args.proofs.Matches.{absent, anyway, nothing_of_begin}
use Rattle.dss_args.proofs.begin_line.begin_line.Goals as goal

pub returns-clause-some : goal.returns-clause-some
returns-clause-some c =
    let f = found_of c.args.matches.now in (
      refl,
      record {
        tokens = sym (c.in_ok-get_str.ensures ∙ first_value-rows f (codes "tokens"));
        database = sym (c.in_ok-get_str-2.ensures ∙ first_value-rows f (codes "db"));
        files = sym (c.in_ok-get_str-3.ensures ∙ first_value-rows f (codes "files"));
        verbose = sym c.is_set.ensures;
      },
    )

pub returns-in_err-get_str-clause-none : goal.returns-in_err-get_str-clause-none
returns-in_err-get_str-clause-none c =
    let f = found_of c.args.matches.now in
    let missing = sym (c.in_err-get_str.ensures ∙ first_value-rows f (codes "tokens")) in
    anyway _ _ (nothing_of_begin (rows_of f) (λ given has. absent _ _ missing has.tokens))

pub returns-in_err-get_str-2-clause-none : goal.returns-in_err-get_str-2-clause-none
returns-in_err-get_str-2-clause-none c =
    let f = found_of c.args.matches.now in
    let missing = sym (c.in_err-get_str-2.ensures ∙ first_value-rows f (codes "db")) in
    anyway _ _ (nothing_of_begin (rows_of f) (λ given has. absent _ _ missing has.database))

pub returns-in_err-get_str-3-clause-none : goal.returns-in_err-get_str-3-clause-none
returns-in_err-get_str-3-clause-none c =
    let f = found_of c.args.matches.now in
    let missing = sym (c.in_err-get_str-3.ensures ∙ first_value-rows f (codes "files")) in
    anyway _ _ (nothing_of_begin (rows_of f) (λ given has. absent _ _ missing has.files))
