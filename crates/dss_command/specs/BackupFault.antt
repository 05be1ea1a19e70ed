-- Faults of a backup, by number and name.
use Rattle.std.specs.Prelude.{ℕ, List, codes}
use Rattle.dss_command.specs.declared.backup_fault.BackupFault.{BackupFault}
use Rattle.dss_command.specs.declared.backup_fault.BackupFault.TheVariants.{Damaged, Exists, Read, TooManyChanges, Write}

abbrev pub number_of : BackupFault → ℕ
number_of Exists = 1
number_of Read = 2
number_of Write = 3
number_of TooManyChanges = 4
number_of Damaged = 5

abbrev pub name_of : BackupFault → List ℕ
name_of Exists = codes "Exists"
name_of Read = codes "Read"
name_of Write = codes "Write"
name_of TooManyChanges = codes "TooManyChanges"
name_of Damaged = codes "Damaged"
