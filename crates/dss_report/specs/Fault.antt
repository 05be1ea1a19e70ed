-- Why a report failed.
use Rattle.std.specs.Prelude.{◌≡◌, ◌<◌, ◌⊎◌, ℕ, Bool, true, List, codes}
use Rattle.space_core.specs.Space.{max_count}
use Rattle.dss_report.specs.declared.fault.ReportFault.{ReportFault}
use Rattle.dss_report.specs.declared.fault.ReportFault.TheVariants.{Space, Memory}

abbrev pub number_of : ReportFault → ℕ
number_of Space = 1
number_of Memory = 2

abbrev pub name_of : ReportFault → List ℕ
name_of Space = codes "Space"
name_of Memory = codes "Memory"

-- Holds if the space returned a fault: it counted one more failure (the count saturates), or it is
-- broken.
abbrev pub HasFailed : ℕ → ℕ → Bool → Bool → Type 0
HasFailed refusals refusals' broken broken' =
    (((refusals < refusals') ⊎ (refusals' ≡ max_count)) × (broken' ≡ broken))
    ⊎ (broken' ≡ true)

-- What a fault of a report means for the space.
abbrev pub IsReportFaultOf : ReportFault → ℕ → ℕ → Bool → Bool → Type 0
IsReportFaultOf Space refusals refusals' broken broken' = HasFailed refusals refusals' broken broken'
IsReportFaultOf Memory refusals refusals' broken broken' = (refusals' ≡ refusals) × (broken' ≡ broken)
