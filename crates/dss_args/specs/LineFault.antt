-- The reason why a command line requests no command.
use Rattle.std.specs.Prelude.{◌≡◌, ◌≢◌, ◌⊎◌, ℕ}
use Rattle.clap.specs.declared.error.kind.ErrorKind.{ErrorKind}
use Rattle.clap.specs.declared.error.kind.ErrorKind.TheVariants.{
  DisplayHelp,
  DisplayVersion,
  OutOfMemory,
}
use Rattle.dss_args.specs.declared.fault.LineFault.{LineFault}
use Rattle.dss_args.specs.declared.fault.LineFault.TheVariants as fault

-- The exit status of the program.
abbrev pub status_of : LineFault → ℕ
status_of (fault.Shown _) = 0
status_of (fault.Refused _) = 2
status_of fault.Memory = 1

-- The fault of an error of this kind. Help and the version are printed, other errors are rejected,
-- and memory may run out at any.
abbrev pub IsFaultOf : ErrorKind → LineFault → Type 0
IsFaultOf kind (fault.Shown _) = (kind ≡ DisplayHelp) ⊎ (kind ≡ DisplayVersion)
IsFaultOf kind (fault.Refused _) = (kind ≢ DisplayHelp) × (kind ≢ DisplayVersion)
    × (kind ≢ OutOfMemory)
IsFaultOf kind fault.Memory = Unit {0}
