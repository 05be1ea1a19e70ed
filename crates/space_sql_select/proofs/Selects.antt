-- Proofs about the result of a SELECT.
use Rattle.std.proofs.Common.{◌≡◌, ℕ, List, Ok, Err, Result, refl}
use Rattle.sqlite_resolve.specs.declared.compiled.Compiled.{Compiled}
use Rattle.sqlite_resolve.specs.declared.error.CompileError.{CompileError}
use Rattle.sqlite.specs.Order.{Row}
use Rattle.sqlite.specs.Listing.{understood}
use Rattle.sqlite.specs.State.{State, Shown}
use Rattle.sqlite.proofs.Callers.{reads_as, command_of as command_by}
use Rattle.space_sql_schema.specs.Tables.{dss_schema}
use Rattle.space_sql_select.specs.Selecting.{IsSelect, Answers, command_of, command_in}

same_command : (r : Result Compiled CompileError) → command_by r ≡ command_in r
same_command (Ok c) = refl
same_command (Err e) = refl

pub answers_as : (sql : List ℕ) (params : Row) (old new : State) → IsSelect sql → (rows : List Row) → old.now.schema ≡ dss_schema → Shown sql params old new rows → Answers sql params old.now rows
answers_as sql params old new it rows has h = reads_as sql params old new dss_schema has (command_of sql) (same_command (understood dss_schema sql)) it.plain it.unlisted rows h
