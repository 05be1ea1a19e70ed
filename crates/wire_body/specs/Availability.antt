-- Availabilities by name.
use Rattle.std.specs.Prelude.{ℕ, List, codes, if◌then◌else◌, Option, Some, None}
use Rattle.std.specs.Str.{bytes_eq}
use Rattle.entity_core.specs.declared.availability.Availability.{Availability}
use Rattle.entity_core.specs.declared.availability.Availability.TheVariants.{Unknown, Normal, Down}

abbrev pub name_of : Availability → List ℕ
name_of Unknown = codes "Unknown"
name_of Normal = codes "Normal"
name_of Down = codes "Down"

-- The availability with this name. Case matters.
unfoldable pub availability_named : List ℕ → Option Availability
availability_named text =
    if bytes_eq text (name_of Unknown) then Some Unknown
    else (if bytes_eq text (name_of Normal) then Some Normal
    else (if bytes_eq text (name_of Down) then Some Down else None))
