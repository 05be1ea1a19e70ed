use Rattle.std.proofs.Common.{List, sym, subst}
use Rattle.std.proofs.lemmas.Result.{IfOk-weaker}
use Rattle.token_conf.specs.TokenFile.{file_of}
use Rattle.token_check.specs.TokenFileErrors.{Explain}
use Rattle.token_check.specs.declared.token_file_error.TokenFileError.{TokenFileError}
use Rattle.token_check.proofs.Explained.{explains}
use Rattle.token_check.proofs.report.check_token_file.Goals as goal

pub returns-clause-explain : goal.returns-clause-explain
returns-clause-explain c =
    IfOk-weaker c.report_of_text.result _ _ (λ report h. subst (λ (ms : List TokenFileError). Explain ms (file_of c.args.text.now)) (sym h) (explains c.args.text.now)) c.report_of_text.ensures.errors
