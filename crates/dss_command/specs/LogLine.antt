-- The line of a request in the access log.
use Rattle.std.specs.Prelude.{◌≡◌, ◌/◌, ◌++◌, ℕ, List, false, Option, Some, None, codes, decimal}
use Rattle.std.specs.Duration.{as_nanos}
use Rattle.std.specs.declared.time.Duration.{Duration}
use Rattle.jiff_core.specs.declared.timestamp.Timestamp.{Timestamp}
use Rattle.jiff_fmt.specs.declared.temporal.printer.DateTimePrinter.{DateTimePrinter}
use Rattle.jiff_fmt.specs.Printer.{IsTimestampText, options}
use Rattle.entity_core.specs.EntityId.{printed}
use Rattle.policy_core.specs.Rule as policy
use Rattle.wire_head.specs.Rule as wire
use Rattle.wire_http.specs.declared.request_info.Outcome.{Outcome}
use Rattle.wire_http.specs.declared.request_info.Outcome.TheVariants as outcomes
use Rattle.admin_http.specs.Operation.{operation_word}
use Rattle.server_base.specs.declared.server_log.LoggedRequest.{LoggedRequest}

-- The time in UTC (RFC 3339) with milliseconds; `-` if it is unknown.
abbrev pub IsMoment : Option Timestamp → List ℕ → Type 0
IsMoment None text = text ≡ codes "-"
IsMoment (Some moment) text = (printer : DateTimePrinter)
    × (options printer ≡ (false, 84, Some 3)) × IsTimestampText printer moment text

abbrev pub uss_text : Option (List ℕ) → List ℕ
uss_text None = codes "-"
uss_text (Some id) = id

abbrev pub entity_text : Option ℕ → List ℕ
entity_text None = codes "-"
entity_text (Some id) = printed id

-- A rule by its number: P4 of the policy, H2 of the protocol.
abbrev pub rule_text : Outcome → List ℕ
rule_text outcomes.Done = codes "-"
rule_text (outcomes.Denied rule) = codes "P" ++ decimal (policy.number_of rule)
rule_text outcomes.Fault = codes "-"
rule_text outcomes.Stopped = codes "-"
rule_text (outcomes.Wire rule) = codes "H" ++ decimal (wire.number_of rule)

-- A duration in whole microseconds.
abbrev pub microseconds_text : Option Duration → List ℕ
microseconds_text None = codes "-"
microseconds_text (Some took) = decimal (as_nanos took / 1_000)

-- The time and the caller of a request.
unfoldable pub who : List ℕ → ℕ → List ℕ → List ℕ
who time connection supplier =
    codes "time=" ++ (time
    ++ (codes " connection=" ++ (decimal connection ++ (codes " supplier=" ++ supplier))))

-- The operation, the entity and the status of a request.
unfoldable pub what : List ℕ → List ℕ → ℕ → List ℕ
what operation entity status =
    codes " operation=" ++ (operation
    ++ (codes " entity=" ++ (entity ++ (codes " status=" ++ decimal status))))

-- The rule that denied a request, its duration and size, and the line end.
unfoldable pub how : List ℕ → List ℕ → ℕ → List ℕ
how rule took size =
    codes " rule=" ++ (rule
    ++ (codes " microseconds=" ++ (took
    ++ (codes " bytes=" ++ (decimal size ++ codes "\n")))))

-- The line with its line end, of a request that was answered at that time.
unfoldable pub log_line : List ℕ → LoggedRequest → List ℕ
log_line time request =
    who time request.connection (uss_text request.noted.now.supplier)
    ++ what (operation_word request.noted.now.operation) (entity_text request.noted.now.entity)
    request.status
    ++ how (rule_text request.noted.now.outcome) (microseconds_text request.took) request.size

-- Holds if this is the line of a request that was answered at that time.
abbrev pub IsLogLine : Option Timestamp → LoggedRequest → List ℕ → Type 0
IsLogLine moment request line = (time : List ℕ) × IsMoment moment time
    × (line ≡ log_line time request)
