use Rattle.std.proofs.Common.{ap, true, ◌∙◌}
use Rattle.std.proofs.lemmas.Result.{IfOk-weaker}
use Rattle.clap.specs.Simple.{app_of_fields, on_top}
use Rattle.clap.specs.declared.builder.command.Command.{Command}
use Rattle.clap.specs.declared.builder.command.Command.TheOpen.{Command-F}
use Rattle.dss_args.specs.Grammar.{HasGrammar, own_app}
use Rattle.dss_args.proofs.Adding.{command_more}
use Rattle.dss_args.proofs.grammar.command.Goals as goal

pub returns : goal.returns
returns c =
    let with_0 : HasGrammar own_app c.subcommand_required.result = (
      ap app_of_fields c.subcommand_required.ensures
          ∙ ap (on_top (λ s. record s { subcommand_required = true })) (ap app_of_fields c.version.ensures
          ∙ ap (on_top (λ s. record s { has_version = true })) (ap app_of_fields c.about.ensures ∙ c.new.ensures.app)),
      ap (λ (f : Command-F Command). f.has_globals) c.subcommand_required.ensures
          ∙ ap (λ (f : Command-F Command). f.has_globals) c.version.ensures
          ∙ ap (λ (f : Command-F Command). f.has_globals) c.about.ensures ∙ c.new.ensures.local,
    ) in
    let with_1 = command_more with_0 c.in_ok-run_command.ensures c.in_ok-subcommand.ensures in
    let with_2 = command_more with_1 c.in_ok-serve_command.ensures c.in_ok-subcommand-2.ensures in
    let with_3 = command_more with_2 c.in_ok-begin_command.ensures c.in_ok-subcommand-3.ensures in
    let with_4 = command_more with_3 c.in_ok-follow_command.ensures c.in_ok-subcommand-4.ensures in
    let with_5 = command_more with_4 c.in_ok-self_command.ensures c.in_ok-subcommand-5.ensures in
    let with_6 = command_more with_5 c.in_ok-cell_command.ensures c.in_ok-subcommand-6.ensures in
    let with_7 = command_more with_6 c.in_ok-explain_command.ensures c.in_ok-subcommand-7.ensures in
    let with_8 = command_more with_7 c.in_ok-report_command.ensures c.in_ok-subcommand-8.ensures in
    let with_9 = command_more with_8 c.in_ok-backup_command.ensures c.in_ok-subcommand-9.ensures in
    let with_10 = command_more with_9 c.in_ok-verify_command.ensures c.in_ok-subcommand-10.ensures in
    let with_11 = command_more with_10 c.in_ok-upgrade_command.ensures c.in_ok-subcommand-11.ensures in
    let with_12 = command_more with_11 c.in_ok-purge_command.ensures c.in_ok-subcommand-12.ensures in
    IfOk-weaker c.subcommand-13.result _ _ (λ command adds. command_more with_12 c.in_ok-tokens_command.ensures adds) c.subcommand-13.ensures
