-- Errors, and the faults that the reader of token files returns for them.
use Rattle.token_conf.specs.declared.conf_fault.ConfFault.{ConfFault}
use Rattle.token_conf.specs.declared.conf_fault.ConfFault.TheVariants as fault
use Rattle.token_check.specs.declared.token_file_error.TokenFileError.{TokenFileError}
use Rattle.token_check.specs.declared.token_file_error.TokenFileError.TheVariants as file_error

-- The fault of an error.
abbrev pub fault_of : TokenFileError → ConfFault
fault_of file_error.Toml = fault.Toml
fault_of file_error.Salt = fault.Salt
fault_of file_error.List = fault.Token
fault_of (file_error.Token n) = fault.Token
fault_of (file_error.Uss n) = fault.Uss
fault_of (file_error.Scopes n) = fault.Scopes
fault_of (file_error.Repeated n earlier) = fault.Repeated
