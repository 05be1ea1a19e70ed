use Rattle.std.proofs.Common.{ap, codes, ◌∙◌}
use Rattle.std.proofs.lemmas.Result.{IfOk-weaker}
use Rattle.clap.specs.Simple.{app_of_fields}
use Rattle.clap.specs.Words.{new_app}
use Rattle.clap.specs.declared.builder.command.Command.{Command}
use Rattle.clap.specs.declared.builder.command.Command.TheOpen.{Command-F}
use Rattle.dss_args.specs.Grammar.{HasGrammar}
use Rattle.dss_args.proofs.Adding.{arg_more}
use Rattle.dss_args.proofs.grammar.serve_command.Goals as goal

pub returns : goal.returns
returns c =
    let with_0 : HasGrammar (new_app (codes "serve")) c.override_usage.result = (
      ap app_of_fields c.override_usage.ensures ∙ ap app_of_fields c.about.ensures ∙ c.new.ensures.app,
      ap (λ (f : Command-F Command). f.has_globals) c.override_usage.ensures
          ∙ ap (λ (f : Command-F Command). f.has_globals) c.about.ensures ∙ c.new.ensures.local,
    ) in
    let with_1 = arg_more with_0 c.tokens_option.ensures.rule c.tokens_option.ensures.local c.in_ok-arg.ensures in
    let with_2 = arg_more with_1 c.served_option.ensures.rule c.served_option.ensures.local c.in_ok-arg-2.ensures in
    let with_3 = arg_more with_2 c.pool_option.ensures.rule c.pool_option.ensures.local c.in_ok-arg-3.ensures in
    let with_4 = arg_more with_3 c.name_option.ensures.rule c.name_option.ensures.local c.in_ok-arg-4.ensures in
    let with_5 = arg_more with_4 c.user_option.ensures.rule c.user_option.ensures.local c.in_ok-arg-5.ensures in
    let with_6 = arg_more with_5 c.files_option.ensures.rule c.files_option.ensures.local c.in_ok-arg-6.ensures in
    let with_7 = arg_more with_6 c.port_option.ensures.rule c.port_option.ensures.local c.in_ok-arg-7.ensures in
    let with_8 = arg_more with_7 c.count_option.ensures.rule c.count_option.ensures.local c.in_ok-arg-8.ensures in
    let with_9 = arg_more with_8 c.clients_option.ensures.rule c.clients_option.ensures.local c.in_ok-arg-9.ensures in
    let with_10 = arg_more with_9 c.memory_option.ensures.rule c.memory_option.ensures.local c.in_ok-arg-10.ensures in
    let with_11 = arg_more with_10 c.quota_option.ensures.rule c.quota_option.ensures.local c.in_ok-arg-11.ensures in
    let with_12 = arg_more with_11 c.retention_option.ensures.rule c.retention_option.ensures.local c.in_ok-arg-12.ensures in
    let with_13 = arg_more with_12 c.admin_option.ensures.rule c.admin_option.ensures.local c.in_ok-arg-13.ensures in
    let with_14 = arg_more with_13 c.backups_option.ensures.rule c.backups_option.ensures.local c.in_ok-arg-14.ensures in
    let with_15 = arg_more with_14 c.listen_option.ensures.rule c.listen_option.ensures.local c.in_ok-arg-15.ensures in
    let with_16 = arg_more with_15 c.log_option.ensures.rule c.log_option.ensures.local c.in_ok-arg-16.ensures in
    let with_17 = arg_more with_16 c.double_sync_flag.ensures.rule c.double_sync_flag.ensures.local c.in_ok-arg-17.ensures in
    let with_18 = arg_more with_17 c.explain_flag.ensures.rule c.explain_flag.ensures.local c.in_ok-arg-18.ensures in
    IfOk-weaker c.arg-19.result _ _
    (λ command adds. arg_more with_18 c.verbose_flag.ensures.rule c.verbose_flag.ensures.local adds)
    c.arg-19.ensures
