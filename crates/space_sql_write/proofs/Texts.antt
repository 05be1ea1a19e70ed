-- The texts of the statements.
use Rattle.std.specs.Prelude.{ℕ, List, codes}

abbrev pub clear_cells_text : List ℕ
clear_cells_text = codes "DELETE FROM cell WHERE entity = ?1"

abbrev pub clear_volumes_text : List ℕ
clear_volumes_text = codes "DELETE FROM volume WHERE entity = ?1"

abbrev pub clear_row_text : List ℕ
clear_row_text = codes "DELETE FROM entity WHERE num = ?1"

abbrev pub raise_serial_text : List ℕ
raise_serial_text = codes "UPDATE meta SET serial = serial + 1 WHERE one = 1"

abbrev pub number_text : List ℕ
number_text = codes "SELECT num FROM entity WHERE kind = ?1 AND id = ?2"

abbrev pub insert_row_text : List ℕ
insert_row_text = codes "INSERT INTO entity (num, kind, id, manager, state, version, serial, ovn, url) VALUES (?1, ?2, ?3, ?4, ?5, ?6, ?7, ?8, ?9)"

abbrev pub insert_volume_text : List ℕ
insert_volume_text = codes "INSERT INTO volume (entity, place, alt_lower, alt_upper, time_start, time_end) VALUES (?1, ?2, ?3, ?4, ?5, ?6)"

abbrev pub insert_cell_text : List ℕ
insert_cell_text = codes "INSERT INTO cell (entity, volume, place, token, lo, hi) VALUES (?1, ?2, ?3, ?4, ?5, ?6)"

abbrev pub clear_availability_text : List ℕ
clear_availability_text = codes "DELETE FROM availability WHERE uss = ?1"

abbrev pub insert_availability_text : List ℕ
insert_availability_text = codes "INSERT INTO availability (uss, state, version) VALUES (?1, ?2, ?3)"

abbrev pub clear_naming_text : List ℕ
clear_naming_text = codes "DELETE FROM naming WHERE entity = ?1"

abbrev pub insert_naming_text : List ℕ
insert_naming_text = codes "INSERT INTO naming (entity, subscription) VALUES (?1, ?2)"

abbrev pub sub_number_text : List ℕ
sub_number_text = codes "SELECT num FROM subscription WHERE id = ?1"

abbrev pub clear_sub_cells_text : List ℕ
clear_sub_cells_text = codes "DELETE FROM subscription_cell WHERE subscription = ?1"

abbrev pub clear_sub_row_text : List ℕ
clear_sub_row_text = codes "DELETE FROM subscription WHERE num = ?1"

abbrev pub insert_sub_row_text : List ℕ
insert_sub_row_text = codes "INSERT INTO subscription (num, id, manager, serial, version, notes, url, for_intents, for_constraints, alt_lower, alt_upper, time_start, time_end) VALUES (?1, ?2, ?3, ?4, ?5, ?6, ?7, ?8, ?9, ?10, ?11, ?12, ?13)"

abbrev pub insert_sub_cell_text : List ℕ
insert_sub_cell_text = codes "INSERT INTO subscription_cell (subscription, place, token, lo, hi) VALUES (?1, ?2, ?3, ?4, ?5)"

abbrev pub update_sub_row_text : List ℕ
update_sub_row_text = codes "UPDATE subscription SET id = ?2, manager = ?3, serial = ?4, version = ?5, notes = ?6, url = ?7, for_intents = ?8, for_constraints = ?9, alt_lower = ?10, alt_upper = ?11, time_start = ?12, time_end = ?13 WHERE num = ?1"

abbrev pub raise_notes_text : List ℕ
raise_notes_text = codes "UPDATE subscription SET notes = notes + 1 WHERE id = ?1"
