-- Definitions of statements that read, and of their results.
use Rattle.std.specs.Prelude.{◌≡◌, ℕ, false, List, Result, Ok, Err}
use Rattle.sqlite_value.specs.Order.{Row}
use Rattle.sqlite.specs.Effect.{Database, Reads}
use Rattle.sqlite.specs.Listing.{understood, reads_listing}
use Rattle.sqlite.specs.Given.{IsPlain}
use Rattle.sqlite_schema.specs.declared.command.Command.{Command}
use Rattle.sqlite_schema.specs.declared.command.Command.TheVariants.{Nothing}
use Rattle.sqlite_resolve.specs.declared.compiled.Compiled.{Compiled}
use Rattle.sqlite_resolve.specs.declared.error.CompileError.{CompileError}
use Rattle.space_sql_schema.specs.Tables.{dss_schema}

abbrev pub command_in : Result Compiled CompileError → Command
command_in (Ok c) = c.command
command_in (Err e) = Nothing

-- The command that the text means for tables of format 2.
abbrev pub command_of : List ℕ → Command
command_of sql = command_in (understood dss_schema sql)

-- Holds if the text is no write that returns rows, and does not read the list of tables.
pub record IsSelect (sql : List ℕ) : Type 0 where
  pub plain : IsPlain (understood dss_schema sql)
  pub unlisted : reads_listing dss_schema sql ≡ false

-- Holds if the rows are the result of the text.
abbrev pub Answers : List ℕ → Row → Database → List Row → Type 0
Answers sql params db rows = Reads (command_of sql) db params rows
