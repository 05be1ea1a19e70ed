use Rattle.std.proofs.Common.{◌∙◌, codes, inr, sym}
use Rattle.clap.specs.Words.{found_of, rows_of}
use Rattle.clap.proofs.WalkLemmas.{first_value-rows}
use Rattle.dss_args.proofs.Listens.{no_admin}
use Rattle.dss_args.proofs.Matches.{anyway}
use Rattle.dss_args.proofs.command_args.admin_in.Goals as goal

pub returns-in_default-clause-some : goal.returns-in_default-clause-some
returns-in_default-clause-some c =
    let f = found_of c.args.matches.now in
    sym (c.in_default.ensures ∙ first_value-rows f (codes "admin-port"))

pub returns-in_err-loopback_of-in-None-clause-none : goal.returns-in_err-loopback_of-in-None-clause-none
returns-in_err-loopback_of-in-None-clause-none c =
    let f = found_of c.args.matches.now in
    let there = sym (c.in-Some.ensures ∙ first_value-rows f (codes "admin-port")) in
    anyway _ _ (no_admin (rows_of f) c.in-Some.text.now there c.in-None.ensures.none c.in_err-loopback_of-in-None.ensures.none)

pub returns-in_ok-loopback_of-in-None-clause-some : goal.returns-in_ok-loopback_of-in-None-clause-some
returns-in_ok-loopback_of-in-None-clause-some c =
    let f = found_of c.args.matches.now in
    let is = c.in_ok-loopback_of-in-None.ensures.some in
    inr (c.in-Some.text.now, sym (c.in-Some.ensures ∙ first_value-rows f (codes "admin-port")), is.0, is.1)
