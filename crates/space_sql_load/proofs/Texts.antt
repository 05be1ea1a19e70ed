-- The texts of the statements that read all rows of a table.
use Rattle.std.specs.Prelude.{ℕ, List, codes}

abbrev pub entities_read : List ℕ
entities_read = codes "SELECT num, kind, id, manager, state, version, serial, ovn, url FROM entity ORDER BY num"

abbrev pub volumes_read : List ℕ
volumes_read = codes "SELECT entity, place, alt_lower, alt_upper, time_start, time_end FROM volume ORDER BY entity, place"

abbrev pub cells_read : List ℕ
cells_read = codes "SELECT entity, volume, place, token, lo, hi FROM cell ORDER BY entity, volume, place"

abbrev pub settings_read : List ℕ
settings_read = codes "SELECT uss, state, version FROM availability"

abbrev pub volume_ids_read : List ℕ
volume_ids_read = codes "SELECT rowid FROM volume ORDER BY rowid"

abbrev pub cell_ids_read : List ℕ
cell_ids_read = codes "SELECT rowid FROM cell ORDER BY rowid"

abbrev pub setting_ids_read : List ℕ
setting_ids_read = codes "SELECT rowid FROM availability ORDER BY rowid"

abbrev pub subs_read : List ℕ
subs_read = codes "SELECT num, id, manager, serial, version, notes, url, for_intents, for_constraints, alt_lower, alt_upper, time_start, time_end FROM subscription ORDER BY num"

abbrev pub sub_cells_read : List ℕ
sub_cells_read = codes "SELECT subscription, place, token, lo, hi FROM subscription_cell ORDER BY subscription, place"

abbrev pub namings_read : List ℕ
namings_read = codes "SELECT entity, subscription FROM naming ORDER BY entity"

abbrev pub sub_cell_ids_read : List ℕ
sub_cell_ids_read = codes "SELECT rowid FROM subscription_cell ORDER BY rowid"
