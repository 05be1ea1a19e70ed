use Rattle.std.proofs.Common.{◌∙◌, ℕ, Bool, Option, Some, ap, sym, subst}
use Rattle.std.proofs.lemmas.Result.{IfOk-weaker}
use Rattle.std.specs.String.{string_bytes}
use Rattle.jiff_core.specs.declared.timestamp.Timestamp.{Timestamp}
use Rattle.jiff_fmt.specs.Printer.{IsTimestampText}
use Rattle.dss_command.specs.LogLine.{IsMoment}
use Rattle.dss_command.proofs.log_line.time_text.Goals as goal

pub returns-in-Some : goal.returns-in-Some
returns-in-Some c =
    let printer = c.precision-printer.result in
    let shows = c.precision-printer.ensures ∙ ap (λ (v : Bool × ℕ × Option ℕ). (v.0, v.1, Some 3)) c.new.ensures in
    IfOk-weaker c.from_str.result _ _
    (λ text e. subst (λ (m : Option Timestamp). IsMoment m (string_bytes text)) (sym c.in-Some.is)
    (printer, shows, subst (λ v. IsTimestampText printer c.in-Some.moment v) (sym (e ∙ c.as_str.ensures.value)) c.timestamp_text.ensures))
    c.from_str.ensures.ok
