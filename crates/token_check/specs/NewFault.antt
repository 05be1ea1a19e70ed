-- Why no token is generated.
use Rattle.token_conf.specs.declared.conf_fault.ConfFault.{ConfFault}
use Rattle.token_conf.specs.declared.conf_fault.ConfFault.TheVariants as conf
use Rattle.token_check.specs.declared.new.NewFault.{NewFault}
use Rattle.token_check.specs.declared.new.NewFault.TheVariants as fault

-- The fault of a token file that had such a table.
abbrev pub fault_of : NewFault → ConfFault
fault_of (fault.Uss message) = conf.Uss
fault_of (fault.Scopes message) = conf.Scopes
fault_of fault.Memory = conf.Memory
