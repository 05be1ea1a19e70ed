use Rattle.std.proofs.Common.{codes, refl, sym, ◌∙◌}
use Rattle.clap.specs.Words.{found_of, rows_of}
use Rattle.clap.proofs.WalkLemmas.{first_value-rows}
use Rattle.dss_args.proofs.Matches.{NoFollow, absent, anyway}
use Rattle.dss_args.proofs.follow_line.follow_on.Goals as goal

pub returns-clause-some : goal.returns-clause-some
returns-clause-some c =
    let f = found_of c.args.matches.now in
    λ endpoints. (
      refl,
      record {
        tokens = sym (c.in_ok-get_str.ensures ∙ first_value-rows f (codes "tokens"));
        endpoints = endpoints;
        name = c.in_ok-name_in.ensures.some;
        files = sym (c.in_ok-get_str-2.ensures ∙ first_value-rows f (codes "files"));
        etcd_user = sym (c.get_str-3.ensures ∙ first_value-rows f (codes "etcd-user"));
        verbose = sym c.is_set.ensures;
      },
    )

pub returns-in_err-get_str-clause-none : goal.returns-in_err-get_str-clause-none
returns-in_err-get_str-clause-none c =
    let f = found_of c.args.matches.now in
    anyway _ (NoFollow (rows_of f)) (λ given has. absent _ _ (sym (c.in_err-get_str.ensures ∙ first_value-rows f (codes "tokens"))) has.tokens)

pub returns-in_err-get_str-2-clause-none : goal.returns-in_err-get_str-2-clause-none
returns-in_err-get_str-2-clause-none c =
    let f = found_of c.args.matches.now in
    anyway _ (NoFollow (rows_of f)) (λ given has. absent _ _ (sym (c.in_err-get_str-2.ensures ∙ first_value-rows f (codes "files"))) has.files)

pub returns-in_err-name_in-clause-none : goal.returns-in_err-name_in-clause-none
returns-in_err-name_in-clause-none c =
    let f = found_of c.args.matches.now in
    anyway _ (NoFollow (rows_of f)) (λ given has. c.in_err-name_in.ensures.none given.name has.name)
