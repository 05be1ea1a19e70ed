-- The texts of the statements that look up single items.
use Rattle.std.specs.Prelude.{ℕ, List, codes}

abbrev pub serial_read : List ℕ
serial_read = codes "SELECT serial FROM meta WHERE one = 1"

abbrev pub availability_read : List ℕ
availability_read = codes "SELECT uss, state, version FROM availability WHERE uss = ?1"

abbrev pub head_read : List ℕ
head_read = codes "SELECT num, kind, id, manager, state, version, serial, ovn, url FROM entity WHERE kind = ?1 AND id = ?2"

abbrev pub own_volumes_read : List ℕ
own_volumes_read = codes "SELECT entity, place, alt_lower, alt_upper, time_start, time_end FROM volume WHERE entity = ?1 ORDER BY entity, place"

abbrev pub own_cells_read : List ℕ
own_cells_read = codes "SELECT entity, volume, place, token, lo, hi FROM cell WHERE entity = ?1 ORDER BY entity, volume, place"

abbrev pub numbered_read : List ℕ
numbered_read = codes "SELECT num, kind, id, manager, state, version, serial, ovn, url FROM entity WHERE num = ?1"

abbrev pub naming_read : List ℕ
naming_read = codes "SELECT subscription FROM naming WHERE entity = ?1"

abbrev pub sub_id_read : List ℕ
sub_id_read = codes "SELECT id FROM subscription WHERE num = ?1"

abbrev pub sub_read : List ℕ
sub_read = codes "SELECT num, id, manager, serial, version, notes, url, for_intents, for_constraints, alt_lower, alt_upper, time_start, time_end FROM subscription WHERE id = ?1"

abbrev pub sub_numbered_read : List ℕ
sub_numbered_read = codes "SELECT num, id, manager, serial, version, notes, url, for_intents, for_constraints, alt_lower, alt_upper, time_start, time_end FROM subscription WHERE num = ?1"

abbrev pub own_sub_cells_read : List ℕ
own_sub_cells_read = codes "SELECT subscription, place, token, lo, hi FROM subscription_cell WHERE subscription = ?1 ORDER BY subscription, place"

abbrev pub sub_num_read : List ℕ
sub_num_read = codes "SELECT num FROM subscription WHERE id = ?1"

abbrev pub namers_read : List ℕ
namers_read = codes "SELECT entity FROM naming WHERE subscription = ?1"

abbrev pub id_read : List ℕ
id_read = codes "SELECT id FROM entity WHERE num = ?1"
