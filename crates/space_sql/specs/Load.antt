-- Definitions of loading all that a space over tables holds.
use Rattle.std.specs.Prelude.{◌≡◌, false}
use Rattle.sqlite_trees.specs.declared.store.Store.{Ghosts}
use Rattle.space_core.specs.Space.{IsContent}
use Rattle.space_sql_load.specs.Checking.{loaded_airspace}
use Rattle.space_sql_load.specs.declared.table_check.LoadedAirspace.{LoadedAirspace}
use Rattle.space_sql.specs.Holding.{SqlSpaceModel, holds_of, is_sound_of}

-- Holds if the loaded airspace is all that an unbroken space holds.
pub record IsAllOf {S : Type 0} (g : Ghosts S) (k : SqlSpaceModel S) (listed : LoadedAirspace)
    : Type 0 where
  pub works : k.broken ≡ false
  pub content : is_sound_of g k → IsContent (holds_of g) k (loaded_airspace listed)
