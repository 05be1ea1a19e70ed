-- The reasons why a command failed.
use Rattle.std.specs.Prelude.{◌≡◌, ℕ, List, ◌++◌, codes, decimal, Option, Result, Ok, Err}
use Rattle.std.specs.Io.KnownBytes.{Appends}
use Rattle.std.specs.IoError.{error_kind}
use Rattle.std.specs.declared.io.Error.{Error}
use Rattle.std.specs.declared.io.ErrorKind.{ErrorKind}
use Rattle.std.specs.declared.io.ErrorKind.TheVariants as kinds
use Rattle.grid_core.specs.Token as token
use Rattle.policy_core.specs.Rule as rule
use Rattle.space_sql_open.specs.OpenFault as opening
use Rattle.token_conf.specs.ConfFault as conf
use Rattle.wire_http.specs.Fault as streams
use Rattle.dss_command.specs.BackupFault as copies
use Rattle.dss_command.specs.PoolFault as pools
use Rattle.dss_command.specs.declared.fault.Fault.{Fault}
use Rattle.dss_command.specs.declared.fault.Fault.TheVariants as fault
use Rattle.dss_command.specs.declared.pool_fault.PoolFault.TheVariants as pool
use Rattle.dss_report.specs.declared.fault.CellFault.{CellFault}
use Rattle.dss_report.specs.declared.fault.CellFault.TheVariants as cell
use Rattle.dss_report.specs.declared.fault.ReportFault.{ReportFault}
use Rattle.dss_report.specs.declared.fault.ReportFault.TheVariants as report
use Rattle.wire_http.specs.declared.fault.StreamFault.{StreamFault}
use Rattle.wire_http.specs.declared.fault.StreamFault.TheVariants as stream

-- The fault of an aborted stream. Out of memory is a fault of its own.
abbrev pub IsOfStream : StreamFault → Fault → Type 0
IsOfStream stream.Memory found = found ≡ fault.Memory
IsOfStream why found = found ≡ fault.Stream why

-- The fault of printing a cell.
abbrev pub IsOfCell : CellFault → Fault → Type 0
IsOfCell (cell.Token why) found = found ≡ fault.Token why
IsOfCell cell.Memory found = found ≡ fault.Memory

-- The fault of a report: of the database, or out of memory.
abbrev pub IsOfReport : ReportFault → Fault → Type 0
IsOfReport report.Space found = found ≡ fault.DatabaseFailed
IsOfReport report.Memory found = found ≡ fault.Memory

-- The fault of a failed system call. Out of memory is a fault of its own.
abbrev pub told_by : ErrorKind → Fault → Fault
told_by kinds.OutOfMemory why = fault.Memory
told_by kind why = why

-- The number and name of a fault, as printed.
abbrev pub numbered : ℕ → List ℕ → List ℕ
numbered number name = decimal number ++ (codes " " ++ name)

-- The line that is printed for a fault, without its line end.
abbrev pub line_of : Fault → List ℕ
line_of fault.TokensUnread = codes "dss: tokens: cannot read"
line_of (fault.Tokens why) =
    codes "dss: tokens: fault " ++ numbered (conf.fault_number why) (conf.fault_name why)
line_of (fault.Database why) =
    codes "dss: db: fault " ++ numbered (opening.number_of why) (opening.name_of why)
line_of fault.DatabaseFailed = codes "dss: db: fault"
line_of (fault.Copy why) =
    codes "dss: backup: fault " ++ numbered (copies.number_of why) (copies.name_of why)
line_of fault.RequestsUnread = codes "dss: requests: cannot read"
line_of fault.UntilInFuture = codes "dss: until: in the future"
line_of fault.Clock = codes "dss: clock"
line_of fault.RequestTooLong = codes "dss: self: request too long"
line_of fault.AnswerTooLong = codes "dss: self: answer too long"
line_of fault.Socket = codes "dss: socket"
line_of (fault.Pool why) = codes "dss: pool: " ++ pools.text_of why
line_of (fault.Stream why) =
    codes "dss: stream: fault " ++ numbered (streams.number_of why) (streams.name_of why)
line_of (fault.Token why) =
    codes "dss: token: fault " ++ numbered (token.fault_number why) (token.fault_name why)
line_of (fault.Request why) =
    codes "dss: request: P" ++ numbered (rule.number_of why) (rule.name_of why)
line_of fault.BodyTooLong = codes "dss: request: H5 BODYSIZE"
line_of fault.Output = codes "dss: output"
line_of fault.Memory = codes "dss: memory"

-- The exit status of a command that failed. That of a log of a pool that has lost data is one of
-- its own.
abbrev pub fault_status_of : Fault → ℕ
fault_status_of (fault.Pool pool.Shortened) = 3
fault_status_of (fault.Pool pool.Diverged) = 3
fault_status_of why = 1

-- The exit status of a command with this result.
abbrev pub status_of : Result (Unit {0}) Fault → ℕ
status_of (Ok x) = 0
status_of (Err why) = fault_status_of why

-- Holds if the fault of a client is printed on one line.
abbrev pub TellsClient : StreamFault → (old new : Option (List ℕ)) → Type 0
TellsClient why old new =
    (found : Fault) × IsOfStream why found × Appends old new (line_of found ++ codes "\n")

-- How the command ends, given the result of its service to many clients.
abbrev pub EndsServing : Result (Unit {0}) Error → Result (Unit {0}) Fault → Type 0
EndsServing (Ok x) ended = ended ≡ Ok x
EndsServing (Err cause) ended = ended ≡ Err (told_by (error_kind cause) fault.Socket)
