-- Forward-looking calls of a pool get the same replies with and without its purges, even if others
-- read what has ended.
use Rattle.std.specs.Prelude.{ℕ, List}
use Rattle.entity_core.specs.Airspace.{Airspace, IsAirspace}
use Rattle.entity_purge.specs.Purge.{IsPartlyPurged}
use Rattle.service_calls.specs.Run.{airspace_after, replies_of}
use Rattle.service_purge.specs.Ahead.{AgreeAhead, AllReadOrLookAhead}
use Rattle.pool_core.specs.Acts.{Act, airspace_by, replies_by}
use Rattle.pool_core.specs.Unseen.{PurgesBy, calls_among, replies_among}

-- States that each forward-looking call of a list of acts gets its reply without the purges, if every
-- other call of the list changes nothing. The airspace is the one without purges, partly purged.
abbrev pub PoolReadersMayLookBack : Type 0
PoolReadersMayLookBack = (last : ℕ) (salt : List ℕ) (acts : List Act) (a : Airspace)
    → IsAirspace a → PurgesBy last acts → AllReadOrLookAhead last salt (calls_among acts) a
    → AgreeAhead last salt a (calls_among acts) (replies_among (replies_by salt a acts))
    (replies_of salt a (calls_among acts))
    × IsPartlyPurged last (airspace_after salt a (calls_among acts)) (airspace_by salt a acts)
