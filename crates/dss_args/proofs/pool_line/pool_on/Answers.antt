use Rattle.std.proofs.Common.{codes, false, refl, sym, true, ◌∙◌, ◌≡◌}
use Rattle.clap.specs.Words.{found_of, rows_of}
use Rattle.clap.proofs.WalkLemmas.{first_value-rows}
use Rattle.dss_args.proofs.Matches.{NoPool, absent, anyway}
use Rattle.dss_args.proofs.pool_line.pool_on.Goals as goal

pub returns-clause-some : goal.returns-clause-some
returns-clause-some c =
    let f = found_of c.args.matches.now in
    λ endpoints listen. (
      refl,
      record {
        tokens = sym (c.in_ok-get_str.ensures ∙ first_value-rows f (codes "tokens"));
        endpoints = endpoints;
        name = c.in_ok-name_in.ensures.some;
        etcd_user = sym (c.get_str-2.ensures ∙ first_value-rows f (codes "etcd-user"));
        files = sym (c.get_str-3.ensures ∙ first_value-rows f (codes "files"));
        retention = c.in_ok-choice_in.ensures.some;
        listen = listen;
        count = c.in_ok-choice_in-2.ensures.some;
        max_connections = c.in_ok-number_or.ensures.some;
        admin_port = c.in_ok-admin_in.ensures.some;
        access_log = sym (c.get_str-4.ensures ∙ first_value-rows f (codes "access-log"));
        no_store = sym c.store_option_in.ensures ∙ sym c.is_some.ensures ∙ c.if-is_some.false;
        explain = sym c.is_set.ensures;
        verbose = sym c.is_set-2.ensures;
      },
    )

pub returns-then-is_some-clause-none : goal.returns-then-is_some-clause-none
returns-then-is_some-clause-none c =
    let has_option = sym c.store_option_in.ensures ∙ sym c.is_some.ensures ∙ c.if-is_some.true in
    λ given has. let bad : true ≡ false = sym has_option ∙ has.no_store in cc

pub returns-in_err-get_str-clause-none : goal.returns-in_err-get_str-clause-none
returns-in_err-get_str-clause-none c =
    let f = found_of c.args.matches.now in
    anyway _ (NoPool (rows_of f)) (λ given has. absent _ _ (sym (c.in_err-get_str.ensures ∙ first_value-rows f (codes "tokens"))) has.tokens)

pub returns-in_err-name_in-clause-none : goal.returns-in_err-name_in-clause-none
returns-in_err-name_in-clause-none c =
    let f = found_of c.args.matches.now in
    anyway _ (NoPool (rows_of f)) (λ given has. c.in_err-name_in.ensures.none given.name has.name)

pub returns-in_err-number_or-clause-none : goal.returns-in_err-number_or-clause-none
returns-in_err-number_or-clause-none c =
    let f = found_of c.args.matches.now in
    anyway _ (NoPool (rows_of f)) (λ given has. c.in_err-number_or.ensures.none given.max_connections has.max_connections)

pub returns-in_err-admin_in-clause-none : goal.returns-in_err-admin_in-clause-none
returns-in_err-admin_in-clause-none c =
    let f = found_of c.args.matches.now in
    anyway _ (NoPool (rows_of f)) (λ given has. c.in_err-admin_in.ensures.none given.admin_port has.admin_port)

pub returns-in_err-choice_in-clause-none : goal.returns-in_err-choice_in-clause-none
returns-in_err-choice_in-clause-none c =
    let f = found_of c.args.matches.now in
    anyway _ (NoPool (rows_of f)) (λ given has. c.in_err-choice_in.ensures.none given.retention has.retention)

pub returns-in_err-choice_in-2-clause-none : goal.returns-in_err-choice_in-2-clause-none
returns-in_err-choice_in-2-clause-none c =
    let f = found_of c.args.matches.now in
    anyway _ (NoPool (rows_of f)) (λ given has. c.in_err-choice_in-2.ensures.none given.count has.count)
