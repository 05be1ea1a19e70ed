use Rattle.std.proofs.Common.{◌≡◌, ◌+◌, vec_len}
use Rattle.token_check.proofs.report.put_lines_of_warnings.Given as goal

abbrev pub invariant-loop-warning : goal.invariant-loop-warning
invariant-loop-warning l = vec_len l.lines ≡ vec_len l.initial.lines + l.warning-index
