use Rattle.std.proofs.Common.{◌≡◌, ◌∙◌, List, None, ap, codes, subst, sym}
use Rattle.std.proofs.lemmas.Result.{IfOk-weaker}
use Rattle.clap.specs.Words.{Text, found_of, rows_of}
use Rattle.clap.proofs.WalkLemmas.{first_value-rows}
use Rattle.dss_args.specs.CommandArgs.{AreListens, parts_of, texts}
use Rattle.dss_args.proofs.Listens.{no_endpoints}
use Rattle.dss_args.proofs.Matches.{absent, none_too, some_too}
use Rattle.dss_args.proofs.pool_line.endpoints_in.Goals as goal

pub returns-in_default-clause-none : goal.returns-in_default-clause-none
returns-in_default-clause-none c =
    let f = found_of c.args.matches.now in
    λ all has. absent _ _ (sym (c.in_default.ensures ∙ first_value-rows f (codes "pool"))) has.1

pub returns-clause-some : goal.returns-clause-some
returns-clause-some c =
    let f = found_of c.args.matches.now in
    let there = sym (c.in-Some.ensures ∙ first_value-rows f (codes "pool")) in
    let parts : texts c.as_slice.result.now ≡ parts_of c.in-Some.text.now = ap texts c.as_slice.ensures.value ∙ c.in_ok-parts.ensures in
    IfOk-weaker c.each_listen.result _ _
    (λ found are. some_too found _ _ (λ v is. (c.in-Some.text.now, there, subst (λ (l : List Text). AreListens None l v.items) parts is)) are)
    c.each_listen.ensures.some

pub returns-clause-none : goal.returns-clause-none
returns-clause-none c =
    let f = found_of c.args.matches.now in
    let there = sym (c.in-Some.ensures ∙ first_value-rows f (codes "pool")) in
    let parts : texts c.as_slice.result.now ≡ parts_of c.in-Some.text.now = ap texts c.as_slice.ensures.value ∙ c.in_ok-parts.ensures in
    IfOk-weaker c.each_listen.result _ _
    (λ found none. none_too found _ _ (no_endpoints (rows_of f) c.in-Some.text.now (texts c.as_slice.result.now) there parts) none)
    c.each_listen.ensures.none
