use Rattle.std.proofs.Common.{ap, codes, ◌∙◌}
use Rattle.std.proofs.lemmas.Result.{IfOk-weaker}
use Rattle.clap.specs.Simple.{app_of_fields}
use Rattle.clap.specs.Words.{new_app}
use Rattle.clap.specs.declared.builder.command.Command.{Command}
use Rattle.clap.specs.declared.builder.command.Command.TheOpen.{Command-F}
use Rattle.dss_args.specs.Grammar.{HasGrammar}
use Rattle.dss_args.proofs.Adding.{arg_more}
use Rattle.dss_args.proofs.grammar.begin_command.Goals as goal

pub returns : goal.returns
returns c =
    let with_0 : HasGrammar (new_app (codes "begin")) c.about.result = (
      ap app_of_fields c.about.ensures ∙ c.new.ensures.app,
      ap (λ (f : Command-F Command). f.has_globals) c.about.ensures ∙ c.new.ensures.local,
    ) in
    let with_1 = arg_more with_0 c.tokens_option.ensures.rule c.tokens_option.ensures.local c.in_ok-arg.ensures in
    let with_2 = arg_more with_1 c.source_option.ensures.rule c.source_option.ensures.local c.in_ok-arg-2.ensures in
    let with_3 = arg_more with_2 c.first_option.ensures.rule c.first_option.ensures.local c.in_ok-arg-3.ensures in
    IfOk-weaker c.arg-4.result _ _
    (λ command adds. arg_more with_3 c.verbose_flag.ensures.rule c.verbose_flag.ensures.local adds)
    c.arg-4.ensures
