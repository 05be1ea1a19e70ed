-- How a command line ends, given what its arguments request.
use Rattle.std.specs.Prelude.{◌≡◌, ◌⊎◌, ℕ, List, [], Option, None, OnOk, Result, string_bytes}
use Rattle.std.specs.Io.KnownBytes.{Appends}
use Rattle.clap.specs.Faults.{fault_of as mistakes_of}
use Rattle.clap.specs.Words.{Text, subcommand_of}
use Rattle.wire_head.specs.Target.{path_of}
use Rattle.dss_args.specs.Grammar.{dss_app}
use Rattle.dss_args.specs.CommandArgs.{Asks, Explains}
use Rattle.dss_args.specs.declared.fault.LineFault.{LineFault}
use Rattle.dss_args.specs.declared.fault.LineFault.TheVariants as fault
use Rattle.dss_args.specs.declared.command_args.CommandArgs.{CommandArgs}
use Rattle.dss_args.specs.declared.command_args.CommandArgs.TheVariants.{
  Backup,
  Begin,
  Cell,
  CheckTokens,
  Explain,
  Follow,
  Loopback,
  NewSalt,
  NewToken,
  Pool,
  Report,
  Run,
  Serve,
  Purge,
  Upgrade,
  Verify,
}
use Rattle.dss_report.specs.Cell.{IsLineOfToken}
use Rattle.dss_command.specs.Explain.{EndsExplain}
use Rattle.dss_command.specs.Fault.{status_of}
use Rattle.dss_command.specs.declared.fault.Fault.{Fault}

-- Holds if help was written completely with status 0, or the status is 1. Rejected arguments have
-- status 2, and out of memory has 1.
abbrev pub EndsRefused : LineFault → (before after : Option (List ℕ)) → ℕ → Type 0
EndsRefused (fault.Shown text) before after status =
    ((status ≡ 0) × Appends before after (string_bytes text)) ⊎ (status ≡ 1)
EndsRefused (fault.Refused text) before after status = status ≡ 2
EndsRefused fault.Memory before after status = status ≡ 1

-- What the commands that need the system may do.
abbrev pub Doing : Type 1
Doing = CommandArgs → (remaining before after : Option (List ℕ)) → Result (Unit {0}) Fault → Type 0

-- Holds if the line of a token's cell is written.
abbrev pub WritesCell : List ℕ → (before after : Option (List ℕ)) → Type 0
WritesCell token before after = (line : List ℕ) × IsLineOfToken token line × Appends before after line

module _ (does : Doing) where
  -- Holds if the requested command ran with its values. `serve` writes to the second writer,
  -- `backup` to none, `begin` and `follow` to both, and every other command to the first. If
  -- `tokens --new-token` fails, it may write the reason to the second one.
  abbrev pub Does : CommandArgs → (remaining output output' error error' : Option (List ℕ))
      → Result (Unit {0}) Fault → Type 0
  Does (Run tokens now database requests) remaining output output' error error' done =
      does (Run tokens now database requests) remaining output output' done × (error' ≡ error)
  Does (Serve given) remaining output output' error error' done =
      does (Serve given) None error error' done × (output' ≡ output)
  Does (Pool given) remaining output output' error error' done =
      does (Pool given) None error error' done × (output' ≡ output)
  Does (Begin given) remaining output output' error error' done =
      does (Begin given) None output output' done
  Does (Follow given) remaining output output' error error' done =
      does (Follow given) None output output' done
  Does (Loopback tokens now request) remaining output output' error error' done =
      does (Loopback tokens now request) remaining output output' done × (error' ≡ error)
  Does (Cell token) remaining output output' error error' done =
      OnOk done (WritesCell token.now output output') × (error' ≡ error)
  Does (Explain method target now) remaining output output' error error' done =
      EndsExplain (path_of target.now) method.now remaining done × (error' ≡ error)
  Does (Report database places) remaining output output' error error' done =
      does (Report database places) None output output' done × (error' ≡ error)
  Does (Backup database to live) remaining output output' error error' done =
      does (Backup database to live) None None None done × (output' ≡ output) × (error' ≡ error)
  Does (Verify file) remaining output output' error error' done =
      does (Verify file) None output output' done × (error' ≡ error)
  Does (Upgrade database) remaining output output' error error' done =
      does (Upgrade database) None output output' done × (error' ≡ error)
  Does (Purge database until now) remaining output output' error error' done =
      does (Purge database until now) None output output' done × (error' ≡ error)
  Does (CheckTokens file) remaining output output' error error' done =
      does (CheckTokens file) None output output' done × (error' ≡ error)
  Does (NewToken uss scopes) remaining output output' error error' done =
      does (NewToken uss scopes) None output output' done × OnOk done (error' ≡ error)
  Does NewSalt remaining output output' error error' done =
      does NewSalt None output output' done × (error' ≡ error)

  -- States that the command ended with this status, and printed no fault if it succeeded.
  pub record EndsCommand (line : CommandArgs) (remaining output output' error error' : Option (List ℕ))
      (status : ℕ) : Type 0 where
    pub done : Result (Unit {0}) Fault
    pub told : Option (List ℕ)
    pub did : Does line remaining output output' error told done
    pub quiet : OnOk done (error' ≡ told)
    pub status_is : status ≡ status_of done

  -- Holds if valid arguments end as their command does, and other arguments are rejected.
  abbrev pub EndsLine : List Text → (remaining output output' error error' : Option (List ℕ)) → ℕ
      → Type 0
  EndsLine words remaining output output' error error' status =
      ((line : CommandArgs) × Asks (subcommand_of dss_app words) line
      × (mistakes_of dss_app words ≡ [])
      × EndsCommand line remaining output output' error error' status)
      ⊎ ((why : LineFault) × Explains (mistakes_of dss_app words) (subcommand_of dss_app words) why
      × EndsRefused why output output' status)
