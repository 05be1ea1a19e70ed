-- Definitions of the availability that a USS set.
use Rattle.std.specs.Prelude.{◌≡◌, ℕ, List}
use Rattle.sqlite_value.specs.Order.{Row}
use Rattle.entity_core.specs.Airspace.{VersionedAvailability}
use Rattle.space_sql_schema.specs.Spelling.{IsStated, availability_values}
use Rattle.space_sql_select.specs.declared.availability_record.AvailabilityRecord.{AvailabilityRecord}

-- Holds if the row of `availability` is what a USS has set.
pub record SaysSetting (row : Row) (s : List ℕ × VersionedAvailability) : Type 0 where
  pub values : row ≡ availability_values s
  pub stated : IsStated s

abbrev pub stated_by : AvailabilityRecord → List ℕ × VersionedAvailability
stated_by s = (s.uss, (s.availability, s.version))
