-- The numbers and names of the faults of a token file.
use Rattle.std.specs.Prelude.{ℕ, List, codes}
use Rattle.token_conf.specs.declared.conf_fault.ConfFault.{ConfFault}
use Rattle.token_conf.specs.declared.conf_fault.ConfFault.TheVariants.{Toml, Salt, Token, Uss, Scopes, Repeated, Memory}

-- The number of a fault, in the order in which faults are checked.
abbrev pub fault_number : ConfFault → ℕ
fault_number Toml = 1
fault_number Salt = 2
fault_number Token = 3
fault_number Uss = 4
fault_number Scopes = 5
fault_number Repeated = 6
fault_number Memory = 7

abbrev pub fault_name : ConfFault → List ℕ
fault_name Toml = codes "Toml"
fault_name Salt = codes "Salt"
fault_name Token = codes "Token"
fault_name Uss = codes "Uss"
fault_name Scopes = codes "Scopes"
fault_name Repeated = codes "Repeated"
fault_name Memory = codes "Memory"
