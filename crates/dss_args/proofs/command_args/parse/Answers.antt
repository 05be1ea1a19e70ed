use Rattle.std.proofs.Common.{◌≡◌, true, List, [], Option, refl, ap, subst, inr, ◌∙◌}
use Rattle.std.specs.Prelude.{IfNone, IfSome}
use Rattle.clap.specs.Faults.{fault_of as mistakes_of, is_simple_and_free}
use Rattle.clap.specs.Kinds.{HasKind}
use Rattle.clap.specs.Words.{App, Row, Text, app_of, is_simple, subcommand_of, subcommand_rows_of}
use Rattle.dss_args.specs.Grammar.{dss_app}
use Rattle.dss_args.specs.CommandArgs.{Asks, AsksNothing, texts}
use Rattle.dss_args.proofs.Matches.{fault_of_kind}
use Rattle.dss_args.proofs.command_args.parse.Goals as goal

is_free : is_simple_and_free dss_app ≡ true
is_free = refl

simple : is_simple dss_app ≡ true
simple = refl

-- The errors of a successful parse, for the program's own command.
faultless : (a : App) (words : List Text) → a ≡ dss_app → (is_simple_and_free a ≡ true → mistakes_of a words ≡ []) → mistakes_of dss_app words ≡ []
faultless a words same none =
    subst (λ (b : App). mistakes_of b words ≡ []) same (none (ap is_simple_and_free same ∙ is_free))

pub returns-in-Err-clause-err : goal.returns-in-Err-clause-err
returns-in-Err-clause-err c =
    let app : app_of c.in_ok-command.field-0 ≡ dss_app = c.in_ok-command.ensures.0 in
    let has = subst (λ (a : App). HasKind (mistakes_of a (texts c.args.words.now)) c.in-Err.error) app (c.in-Err.ensures.kinds (ap is_simple_and_free app ∙ is_free)) in
    fault_of_kind _ _ _ c.fault_of.result has c.fault_of.ensures

pub returns-clause-err : goal.returns-clause-err
returns-clause-err c =
    let app : app_of c.in_ok-command.field-0 ≡ dss_app = c.in_ok-command.ensures.0 in
    let rows : subcommand_rows_of c.in-Ok.matches ≡ subcommand_of dss_app (texts c.args.words.now) = (c.in-Ok.ensures.matches (ap is_simple app ∙ simple)).1 ∙ ap (λ (a : App). subcommand_of a (texts c.args.words.now)) app in
    inr (faultless _ _ app c.in-Ok.ensures.kinds, subst AsksNothing rows (subst (λ o. IfNone o (AsksNothing (subcommand_rows_of c.in-Ok.matches))) c.in-None.is c.in_ok-line.ensures.none))

pub returns-in-Some-clause-faultless : goal.returns-in-Some-clause-faultless
returns-in-Some-clause-faultless c =
    let app : app_of c.in_ok-command.field-0 ≡ dss_app = c.in_ok-command.ensures.0 in
    faultless _ _ app c.in-Ok.ensures.kinds

pub returns-in-Some-clause-ok : goal.returns-in-Some-clause-ok
returns-in-Some-clause-ok c =
    let app : app_of c.in_ok-command.field-0 ≡ dss_app = c.in_ok-command.ensures.0 in
    let rows : subcommand_rows_of c.in-Ok.matches ≡ subcommand_of dss_app (texts c.args.words.now) = (c.in-Ok.ensures.matches (ap is_simple app ∙ simple)).1 ∙ ap (λ (a : App). subcommand_of a (texts c.args.words.now)) app in
    subst (λ (s : Option (Text × List Row)). Asks s c.in-Some.line) rows (subst (λ o. IfSome o (Asks (subcommand_rows_of c.in-Ok.matches))) c.in-Some.is c.in_ok-line.ensures.some)
