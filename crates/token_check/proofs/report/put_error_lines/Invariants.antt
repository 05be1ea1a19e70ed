use Rattle.std.proofs.Common.{◌≡◌, ◌+◌, vec_len}
use Rattle.token_check.proofs.report.put_error_lines.Given as goal

abbrev pub invariant-loop-file_error : goal.invariant-loop-file_error
invariant-loop-file_error l = vec_len l.lines ≡ vec_len l.initial.lines + l.file_error-index
