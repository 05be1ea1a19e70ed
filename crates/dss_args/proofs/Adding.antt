-- What a command is after one more argument or subcommand is added.
use Rattle.std.proofs.Common.{ap, ap₂, false, ◌≡◌, ◌∙◌, ◌||◌}
use Rattle.clap.specs.Words.{AddsArg, AddsSubcommand, App, Rule, rule_of, with_rule, with_subcommand}
use Rattle.clap.specs.declared.builder.arg.Arg.{Arg}
use Rattle.clap.specs.declared.builder.command.Command.{Command}
use Rattle.dss_args.specs.Grammar.{HasGrammar}

pub arg_more
    : {old new : Command} {arg : Arg} {app : App} {rule : Rule}
    → HasGrammar app old → rule_of arg ≡ rule → arg.global ≡ false → AddsArg old arg new
    → HasGrammar (with_rule app rule) new
arg_more has is local adds =
    (adds.shape local ∙ ap₂ with_rule has.0 is, adds.globals ∙ ap₂ (λ a b. a || b) has.1 local)

pub command_more
    : {old new sub : Command} {app below : App}
    → HasGrammar app old → HasGrammar below sub → AddsSubcommand old sub new
    → HasGrammar (with_subcommand app below.top) new
command_more has under adds = (
  adds.shape under.1 ∙ ap₂ with_subcommand has.0 (ap (λ (a : App). a.top) under.0),
  adds.globals ∙ ap₂ (λ a b. a || b) has.1 under.1,
)
