use Rattle.std.proofs.Common.{codes, false, refl, sym, true, ◌∙◌, ◌≡◌}
use Rattle.clap.specs.Words.{found_of, rows_of}
use Rattle.clap.proofs.WalkLemmas.{first_value-rows}
use Rattle.dss_args.proofs.Matches.{NoServing, absent, anyway}
use Rattle.dss_args.proofs.command_args.serve_on.Goals as goal

pub returns-clause-some : goal.returns-clause-some
returns-clause-some c =
    let f = found_of c.args.matches.now in
    λ alone has. (
      refl,
      record {
        alone = alone;
        no_pool = sym c.pool_option_in.ensures ∙ sym c.is_some.ensures ∙ c.if-is_some.false;
        tokens = sym (c.in_ok-get_str.ensures ∙ first_value-rows f (codes "tokens"));
        database = sym (c.in_ok-get_str-2.ensures ∙ first_value-rows f (codes "db"));
        listen = has;
        count = c.in_ok-choice_in.ensures.some;
        max_connections = c.in_ok-number_or.ensures.some;
        response_memory = c.in_ok-number_or-2.ensures.some;
        quota = c.in_ok-quota_in.ensures.some;
        retention = c.in_ok-choice_in-2.ensures.some;
        admin_port = c.in_ok-admin_in.ensures.some;
        backup_dir = sym (c.get_str-3.ensures ∙ first_value-rows f (codes "backup-dir"));
        access_log = sym (c.get_str-4.ensures ∙ first_value-rows f (codes "access-log"));
        copies = sym c.lacks_port.ensures ∙ c.if-lacks_port.false;
        double_sync = sym c.is_set.ensures;
        explain = sym c.is_set-2.ensures;
        verbose = sym c.is_set-3.ensures;
      },
    )

pub returns-then-lacks_port-clause-none : goal.returns-then-lacks_port-clause-none
returns-then-lacks_port-clause-none c =
    let f = found_of c.args.matches.now in
    let lacks = sym c.lacks_port.ensures ∙ c.if-lacks_port.true in
    (λ given has. let bad : true ≡ false = sym lacks ∙ has.copies in cc)

pub returns-in_err-get_str-clause-none : goal.returns-in_err-get_str-clause-none
returns-in_err-get_str-clause-none c =
    let f = found_of c.args.matches.now in
    anyway _ (NoServing (rows_of f)) (λ given has. absent _ _ (sym (c.in_err-get_str.ensures ∙ first_value-rows f (codes "tokens"))) has.tokens)

pub returns-in_err-get_str-2-clause-none : goal.returns-in_err-get_str-2-clause-none
returns-in_err-get_str-2-clause-none c =
    let f = found_of c.args.matches.now in
    anyway _ (NoServing (rows_of f)) (λ given has. absent _ _ (sym (c.in_err-get_str-2.ensures ∙ first_value-rows f (codes "db"))) has.database)

pub returns-in_err-choice_in-clause-none : goal.returns-in_err-choice_in-clause-none
returns-in_err-choice_in-clause-none c =
    let f = found_of c.args.matches.now in
    anyway _ (NoServing (rows_of f)) (λ given has. c.in_err-choice_in.ensures.none given.count has.count)

pub returns-in_err-choice_in-2-clause-none : goal.returns-in_err-choice_in-2-clause-none
returns-in_err-choice_in-2-clause-none c =
    let f = found_of c.args.matches.now in
    anyway _ (NoServing (rows_of f)) (λ given has. c.in_err-choice_in-2.ensures.none given.retention has.retention)

pub returns-in_err-number_or-clause-none : goal.returns-in_err-number_or-clause-none
returns-in_err-number_or-clause-none c =
    let f = found_of c.args.matches.now in
    anyway _ (NoServing (rows_of f)) (λ given has. c.in_err-number_or.ensures.none given.max_connections has.max_connections)

pub returns-in_err-number_or-2-clause-none : goal.returns-in_err-number_or-2-clause-none
returns-in_err-number_or-2-clause-none c =
    let f = found_of c.args.matches.now in
    anyway _ (NoServing (rows_of f)) (λ given has. c.in_err-number_or-2.ensures.none given.response_memory has.response_memory)

pub returns-in_err-admin_in-clause-none : goal.returns-in_err-admin_in-clause-none
returns-in_err-admin_in-clause-none c =
    let f = found_of c.args.matches.now in
    anyway _ (NoServing (rows_of f)) (λ given has. c.in_err-admin_in.ensures.none given.admin_port has.admin_port)

pub returns-in_err-quota_in-clause-none : goal.returns-in_err-quota_in-clause-none
returns-in_err-quota_in-clause-none c =
    let f = found_of c.args.matches.now in
    anyway _ (NoServing (rows_of f)) (λ given has. c.in_err-quota_in.ensures.none given.quota has.quota)
