use Rattle.std.proofs.Common.{◌∙◌, List, None, Option, Some, codes, subst, sym}
use Rattle.std.proofs.lemmas.Result.{IfOk-weaker}
use Rattle.clap.specs.Words.{Text, found_of, rows_of}
use Rattle.clap.proofs.WalkLemmas.{raw_values-rows}
use Rattle.dss_args.specs.CommandArgs.{ListensOn, texts}
use Rattle.dss_args.proofs.Listens.{listens_nowhere}
use Rattle.dss_args.proofs.Matches.{none_too, some_too}
use Rattle.dss_args.proofs.command_args.listen_in.Goals as goal

pub returns-in-Some-get_strs-clause-some : goal.returns-in-Some-get_strs-clause-some
returns-in-Some-get_strs-clause-some c =
    let f = found_of c.args.matches.now in
    let there = c.in-Some-get_strs.ensures ∙ raw_values-rows f (codes "listen") in
    IfOk-weaker c.each_listen.result _ _
    (λ found are. some_too found _ _ (λ v is. (c.in-Some.port, c.in-Some.ensures.some, subst (λ (o : Option (List Text)). ListensOn c.in-Some.port o v.items) there is)) are)
    c.each_listen.ensures.some

pub returns-in-Some-get_strs-clause-none : goal.returns-in-Some-get_strs-clause-none
returns-in-Some-get_strs-clause-none c =
    let f = found_of c.args.matches.now in
    let there = sym (c.in-Some-get_strs.ensures ∙ raw_values-rows f (codes "listen")) in
    IfOk-weaker c.each_listen.result _ _
    (λ found none. none_too found _ _ (listens_nowhere (rows_of f) c.in-Some.port (Some (texts c.in-Some-get_strs.words.now)) c.in-Some.ensures.some there) none)
    c.each_listen.ensures.none

pub returns-in-None-clause-some : goal.returns-in-None-clause-some
returns-in-None-clause-some c =
    let f = found_of c.args.matches.now in
    let there = c.in-None.ensures ∙ raw_values-rows f (codes "listen") in
    IfOk-weaker c.default_listen.result _ _
    (λ found are. some_too found _ _ (λ v is. (c.in-Some.port, c.in-Some.ensures.some, subst (λ (o : Option (List Text)). ListensOn c.in-Some.port o v.items) there is)) are)
    c.default_listen.ensures.some

pub returns-in-None-clause-none : goal.returns-in-None-clause-none
returns-in-None-clause-none c =
    let f = found_of c.args.matches.now in
    let there = sym (c.in-None.ensures ∙ raw_values-rows f (codes "listen")) in
    IfOk-weaker c.default_listen.result _ _
    (λ found none. none_too found _ _ (listens_nowhere (rows_of f) c.in-Some.port None c.in-Some.ensures.some there) none)
    c.default_listen.ensures.none
