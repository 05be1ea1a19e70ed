use Rattle.std.proofs.Common.{◌≤◌, ◌+◌, List, arith, drop, length, subst, sym}
use Rattle.std.proofs.lemmas.List.{at_drop_all, at_drop_more}
use Rattle.clap.specs.Words.{Text}
use Rattle.dss_args.specs.CommandArgs.{texts}
use Rattle.dss_args.proofs.Listens.{GoesOn, goes_nowhere, goes_on_last, goes_on_next}
use Rattle.dss_args.proofs.command_args.each_listen.Goals as goal

pub returns-in_default-clause-none : goal.returns-in_default-clause-none
returns-in_default-clause-none c =
    let words = c.args.words.now in
    let i = c.loop-word.word-index in
    let found = c.loop-word.addresses.items in
    goes_nowhere c.args.port (texts words) _ (texts (drop (i + 1) words)) found
    (subst (λ (left : List Text). GoesOn c.args.port (texts words) left found) (at_drop_more texts words i _ c.loop-word-test.true) c.loop-word.invariant)
    c.in_default.ensures.none

pub loop-word-preserved : goal.loop-word-preserved
loop-word-preserved c =
    let words = c.args.words.now in
    let i = c.loop-word.word-index in
    let found = c.loop-word.addresses.items in
    let next = goes_on_next c.args.port (texts words) _ (texts (drop (i + 1) words)) found c.in-Some.address
    (subst (λ (left : List Text). GoesOn c.args.port (texts words) left found) (at_drop_more texts words i _ c.loop-word-test.true) c.loop-word.invariant)
    c.in-Some.ensures.some in
    subst (GoesOn c.args.port (texts words) (texts (drop (i + 1) words))) (sym c.in_ok-push.ensures.items) next

pub returns-clause-some : goal.returns-clause-some
returns-clause-some c =
    let words = c.args.words.now in
    let i = c.loop-word.word-index in
    let ended : length words ≤ i = omega arith in
    let left = subst (λ (rest : List Text). GoesOn c.args.port (texts words) rest c.loop-word.addresses.items) (at_drop_all texts words i ended) c.loop-word.invariant in
    goes_on_last c.args.port (texts words) c.loop-word.addresses.items left
