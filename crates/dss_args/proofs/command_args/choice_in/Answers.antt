use Rattle.std.proofs.Common.{◌∙◌, ap}
use Rattle.std.specs.Prelude.{not}
use Rattle.clap.specs.Words.{found_of, rows_of}
use Rattle.clap.proofs.WalkLemmas.{first_value-rows}
use Rattle.dss_args.proofs.Matches.{anyway, no_choice, no_text, some_text}
use Rattle.dss_args.proofs.command_args.choice_in.Goals as goal

pub returns-then-is_none-clause-some : goal.returns-then-is_none-clause-some
returns-then-is_none-clause-some c =
    let f = found_of c.args.matches.now in
    no_text c.get_str.result _ (c.is_none.ensures ∙ ap not c.if-is_none.true) (c.get_str.ensures ∙ first_value-rows f c.args.name.now)

pub returns-in_err-number_in-clause-none : goal.returns-in_err-number_in-clause-none
returns-in_err-number_in-clause-none c =
    let f = found_of c.args.matches.now in
    anyway _ _ (no_choice c.args.name.now c.args.least c.args.greatest (rows_of f) c.in_err-number_in.ensures.none
    (some_text c.get_str.result _ (c.is_none.ensures ∙ ap not c.if-is_none.false) (c.get_str.ensures ∙ first_value-rows f c.args.name.now)))
