-- The table of a token file, as a command has it.
use Rattle.std.specs.Prelude.{◌≡◌, List, [], ◌∷◌, ℕ, Result, Ok, Err, IsOk, codes}
use Rattle.token_conf.specs.TokenFile.{ReadsFile, TokenFile, file_of}
use Rattle.token_conf.specs.declared.conf_fault.ConfFault.{ConfFault}
use Rattle.token_conf.specs.declared.conf_fault.ConfFault.TheVariants as conf
use Rattle.token_conf.specs.declared.token_table.TokenTable.{TokenTable}
use Rattle.token_check.specs.TokenFileError.{fault_of}
use Rattle.token_check.specs.declared.token_file_error.TokenFileError.{TokenFileError}
use Rattle.server_base.specs.declared.server_log.TokenReloadFault.{TokenReloadFault}
use Rattle.server_base.specs.declared.server_log.TokenReloadFault.TheVariants as refusal
use Rattle.dss_command.specs.Fault.{line_of}
use Rattle.dss_command.specs.declared.fault.Fault.{Fault}
use Rattle.dss_command.specs.declared.fault.Fault.TheVariants as fault

-- The fault of an invalid token file. Out of memory is a fault of its own.
abbrev pub IsOfTokens : ConfFault → Fault → Type 0
IsOfTokens conf.Memory found = found ≡ fault.Memory
IsOfTokens why found = found ≡ fault.Tokens why

-- Holds if the result of reading a file is passed on.
abbrev pub Passes : Result TokenTable ConfFault → Result TokenTable Fault → Type 0
Passes (Ok table) result = result ≡ Ok table
Passes (Err why) (Ok table) = ⊥
Passes (Err why) (Err found) = IsOfTokens why found

-- Holds of the result of a token file's text.
abbrev pub Tables : List ℕ → Result TokenTable Fault → Type 0
Tables text result =
    (told : Result TokenTable ConfFault) × ReadsFile (file_of text) told × Passes told result

-- How a check of a file with these errors ends: with the fault of the first.
abbrev pub Judges : List TokenFileError → Result (Unit {0}) Fault → Type 0
Judges [] result = result ≡ Ok tt
Judges (m ∷ ms) result = result ≡ Err (fault.Tokens (fault_of m))

-- How a check ends, given what the reader says of the file. If the check succeeds, the reader
-- accepts the file. A fault of the file is the one that the reader returns.
abbrev pub EndsCheck : Result TokenFile ConfFault → Result (Unit {0}) Fault → Type 0
EndsCheck said (Ok x) = IsOk said
EndsCheck said (Err (fault.Tokens why)) = said ≡ Err why
EndsCheck said (Err other) = Unit {0}

-- The line that reports why a changed token file was not loaded, without its line end. It is the
-- line of the fault that a command ends with for such a file. Another salt has a line of its own.
abbrev pub refusal_line : TokenReloadFault → List ℕ
refusal_line refusal.Unread = line_of fault.TokensUnread
refusal_line (refusal.Wrong conf.Memory) = line_of fault.Memory
refusal_line (refusal.Wrong why) = line_of (fault.Tokens why)
refusal_line refusal.OtherSalt = codes "dss: tokens: not reloaded: the salt changed; restart to apply it"
