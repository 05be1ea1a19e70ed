use Rattle.std.proofs.Common.{codes, sym, subst, ◌∙◌, Option, Some}
use Rattle.std.specs.Prelude.{IfNone, IfSome}
use Rattle.clap.specs.Words.{found_of, rows_of}
use Rattle.clap.proofs.WalkLemmas.{first_value-rows}
use Rattle.dss_args.specs.CommandArgs.{Asks, AsksNothing}
use Rattle.dss_args.specs.declared.command_args.CommandArgs.{CommandArgs}
use Rattle.dss_args.proofs.Matches.{if_none, line_of_tokens, nothing_of_tokens}
use Rattle.dss_args.proofs.command_args.tokens_line.Goals as goal

pub returns-clause-some : goal.returns-clause-some
returns-clause-some c =
    let f = found_of c.args.matches.now in
    let rows = rows_of f in
    subst (λ (o : Option CommandArgs). IfSome o (Asks (Some (codes "tokens", rows)))) (sym c.line_of_options.ensures)
    (line_of_tokens rows c.get_str-check.result c.get_str-new.result c.get_str-scopes.result c.is_set.result
    (c.get_str-check.ensures ∙ first_value-rows f (codes "check"))
    (c.get_str-new.ensures ∙ first_value-rows f (codes "new-token"))
    (c.get_str-scopes.ensures ∙ first_value-rows f (codes "scopes"))
    c.is_set.ensures)

pub returns-clause-none : goal.returns-clause-none
returns-clause-none c =
    let f = found_of c.args.matches.now in
    let rows = rows_of f in
    subst (λ (o : Option CommandArgs). IfNone o (AsksNothing (Some (codes "tokens", rows)))) (sym c.line_of_options.ensures)
    (if_none _ _ (nothing_of_tokens rows c.get_str-check.result c.get_str-new.result c.get_str-scopes.result c.is_set.result
    (c.get_str-check.ensures ∙ first_value-rows f (codes "check"))
    (c.get_str-new.ensures ∙ first_value-rows f (codes "new-token"))
    (c.get_str-scopes.ensures ∙ first_value-rows f (codes "scopes"))
    c.is_set.ensures))
