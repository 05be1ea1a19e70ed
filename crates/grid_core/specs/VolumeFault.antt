-- The faults of volumes and areas: their numbers and names.
use Rattle.std.specs.Prelude.{ℕ, List, codes}
use Rattle.grid_core.specs.declared.volume_fault.VolumeFault.{VolumeFault}
use Rattle.grid_core.specs.declared.volume_fault.VolumeFault.TheVariants.{Empty, TooMany, Altitude, Time}

abbrev pub fault_number : VolumeFault → ℕ
fault_number Empty = 1
fault_number TooMany = 2
fault_number Altitude = 3
fault_number Time = 4

abbrev pub fault_name : VolumeFault → List ℕ
fault_name Empty = codes "Empty"
fault_name TooMany = codes "TooMany"
fault_name Altitude = codes "Altitude"
fault_name Time = codes "Time"
