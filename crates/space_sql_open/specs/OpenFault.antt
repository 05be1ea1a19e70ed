-- The faults of opening, by number and name.
use Rattle.std.specs.Prelude.{ℕ, List, codes}
use Rattle.space_sql_open.specs.declared.open_fault.OpenFault.{OpenFault}
use Rattle.space_sql_open.specs.declared.open_fault.OpenFault.TheVariants.{NotADss, Version, Store}

abbrev pub number_of : OpenFault → ℕ
number_of NotADss = 1
number_of Version = 2
number_of Store = 3

abbrev pub name_of : OpenFault → List ℕ
name_of NotADss = codes "NotADss"
name_of Version = codes "Version"
name_of Store = codes "Store"
