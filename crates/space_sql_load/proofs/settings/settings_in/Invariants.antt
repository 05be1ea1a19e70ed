use Rattle.std.proofs.Common.{drop}
use Rattle.entity_maps.specs.Availabilities.{availability_map}
use Rattle.space_sql_load.proofs.StoredAvailabilities.{SettlesOn}
use Rattle.space_sql_load.proofs.settings.settings_in.Given as goal

abbrev pub invariant-loop-row : goal.invariant-loop-row
invariant-loop-row l = SettlesOn l.rows (drop l.row-index l.rows) (availability_map l.out)
