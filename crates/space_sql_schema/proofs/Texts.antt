-- The texts of the statements that create the tables.
use Rattle.std.specs.Prelude.{ℕ, List, codes}

abbrev pub meta_text : List ℕ
meta_text = codes "CREATE TABLE meta (one INTEGER PRIMARY KEY NOT NULL CHECK (one = 1), format INTEGER NOT NULL, serial INTEGER NOT NULL CHECK (serial >= 0)) STRICT"

abbrev pub entity_text : List ℕ
entity_text = codes "CREATE TABLE entity (num INTEGER PRIMARY KEY NOT NULL, kind INTEGER NOT NULL CHECK (kind IN (0, 1)), id TEXT NOT NULL, manager TEXT NOT NULL, state INTEGER NOT NULL CHECK (state BETWEEN 0 AND 4), version INTEGER NOT NULL CHECK (version BETWEEN 1 AND 2147483647), serial INTEGER NOT NULL CHECK (serial >= 0), ovn TEXT NOT NULL, url TEXT NOT NULL, UNIQUE (kind, id)) STRICT"

abbrev pub volume_text : List ℕ
volume_text = codes "CREATE TABLE volume (entity INTEGER NOT NULL REFERENCES entity (num) ON DELETE CASCADE, place INTEGER NOT NULL, alt_lower INTEGER NOT NULL, alt_upper INTEGER NOT NULL, time_start INTEGER NOT NULL, time_end INTEGER NOT NULL, PRIMARY KEY (entity, place), CHECK (alt_lower <= alt_upper), CHECK (time_start <= time_end)) STRICT"

abbrev pub cell_text : List ℕ
cell_text = codes "CREATE TABLE cell (entity INTEGER NOT NULL, volume INTEGER NOT NULL, place INTEGER NOT NULL, token TEXT NOT NULL, lo INTEGER NOT NULL, hi INTEGER NOT NULL, PRIMARY KEY (entity, volume, place), FOREIGN KEY (entity, volume) REFERENCES volume (entity, place) ON DELETE CASCADE, CHECK (lo <= hi)) STRICT"

abbrev pub range_text : List ℕ
range_text = codes "CREATE INDEX cell_range ON cell (lo, hi)"

abbrev pub drop_range_text : List ℕ
drop_range_text = codes "DROP INDEX IF EXISTS cell_range"

abbrev pub availability_text : List ℕ
availability_text = codes "CREATE TABLE availability (uss TEXT NOT NULL PRIMARY KEY, state INTEGER NOT NULL CHECK (state BETWEEN 0 AND 2), version TEXT NOT NULL) STRICT"

abbrev pub first_row_text : List ℕ
first_row_text = codes "INSERT INTO meta (one, format, serial) VALUES (1, 2, 0)"

abbrev pub old_row_text : List ℕ
old_row_text = codes "INSERT INTO meta (one, format, serial) VALUES (1, 1, 0)"

abbrev pub subscription_text : List ℕ
subscription_text = codes "CREATE TABLE subscription (num INTEGER PRIMARY KEY NOT NULL, id TEXT NOT NULL UNIQUE, manager TEXT NOT NULL, serial INTEGER NOT NULL CHECK (serial >= 0), version TEXT NOT NULL, notes INTEGER NOT NULL CHECK (notes >= 0), url TEXT NOT NULL, for_intents INTEGER NOT NULL CHECK (for_intents IN (0, 1)), for_constraints INTEGER NOT NULL CHECK (for_constraints IN (0, 1)), alt_lower INTEGER NOT NULL, alt_upper INTEGER NOT NULL, time_start INTEGER NOT NULL, time_end INTEGER NOT NULL, CHECK (for_intents = 1 OR for_constraints = 1), CHECK (alt_lower <= alt_upper), CHECK (time_start <= time_end)) STRICT"

abbrev pub subscription_cell_text : List ℕ
subscription_cell_text = codes "CREATE TABLE subscription_cell (subscription INTEGER NOT NULL REFERENCES subscription (num) ON DELETE CASCADE, place INTEGER NOT NULL, token TEXT NOT NULL, lo INTEGER NOT NULL, hi INTEGER NOT NULL, PRIMARY KEY (subscription, place), CHECK (lo <= hi)) STRICT"

abbrev pub subscription_range_text : List ℕ
subscription_range_text = codes "CREATE INDEX subscription_cell_range ON subscription_cell (lo, hi)"

abbrev pub naming_text : List ℕ
naming_text = codes "CREATE TABLE naming (entity INTEGER PRIMARY KEY NOT NULL REFERENCES entity (num) ON DELETE CASCADE, subscription INTEGER NOT NULL REFERENCES subscription (num) ON DELETE RESTRICT) STRICT"

abbrev pub naming_index_text : List ℕ
naming_index_text = codes "CREATE INDEX naming_subscription ON naming (subscription)"

abbrev pub set_format_text : List ℕ
set_format_text = codes "UPDATE meta SET format = 2 WHERE one = 1"

abbrev pub drop_naming_index_text : List ℕ
drop_naming_index_text = codes "DROP INDEX naming_subscription"

abbrev pub drop_naming_text : List ℕ
drop_naming_text = codes "DROP TABLE naming"

abbrev pub drop_subscription_cell_text : List ℕ
drop_subscription_cell_text = codes "DROP TABLE subscription_cell"

abbrev pub drop_subscription_text : List ℕ
drop_subscription_text = codes "DROP TABLE subscription"

abbrev pub drop_availability_text : List ℕ
drop_availability_text = codes "DROP TABLE availability"
