-- What is known of all requests of many clients.
use Rattle.std.specs.Prelude.{◌≡◌, ◌-◌, ℕ, List, [], ◌∷◌, ◌++◌, All, map, Option, Some, None}
use Rattle.std.specs.List.{flat_map}
use Rattle.space_core.specs.declared.group_commit.GroupCommit as settles
use Rattle.space_core.specs.declared.space.Space as spaces
use Rattle.service_calls.specs.declared.service.Service.{Service}
use Rattle.service_calls.specs.Batches.{MadeBatches, Batch, all_timed}
use Rattle.service_calls.specs.Run.{TimedCall}
use Rattle.service_calls.specs.Purged.{MadeSegments, Segment}
use Rattle.token_conf.specs.TokenFile.{TokenFile, callers_of}
use Rattle.wire_http.specs.Wire.{RequestCall, timed}
use Rattle.wire_http.specs.declared.moments.Moments as moments
use Rattle.server_base.specs.Calls.{AreAmong, ClockReadings, IsAskedBy, moments_of}
use Rattle.server_watch.specs.Tokens.{IsTakenAfter}

-- Holds if the calls were made under these tables, loaded one after the other: first calls of the
-- callers of the first table, then calls of the callers of the second, and so on.
abbrev pub AskedUnder : List TokenFile → List RequestCall → Type 0
AskedUnder [] all = all ≡ []
AskedUnder (table ∷ tables) all =
    (under : List RequestCall) × (after : List RequestCall) × (all ≡ under ++ after)
    × All (IsAskedBy (callers_of table)) under × AskedUnder tables after

-- The calls of the batches between purges, and of those after the last purge.
abbrev pub all_timed_in : List Segment → List Batch → List TimedCall
all_timed_in segments batches =
    flat_map (λ segment. all_timed segment.batches) segments ++ all_timed batches

-- Holds if each chunk was purged up to a time that the clock returned, in that order, less the
-- retention in seconds. Without a retention there are no chunks.
abbrev pub PurgesAreDue : (keep : Option ℕ) → List (Option ℕ) → List Segment → Type 0
PurgesAreDue None told segments = segments ≡ []
PurgesAreDue (Some keep) told segments = (moments : List ℕ) × AreAmong moments told
    × (map (λ segment. segment.until) segments ≡ map (λ moment. moment - keep) moments)

module _ {S M : Type 0} (g : spaces.Ghosts S) (k : settles.Ghosts S) (m : moments.Ghosts M)
    (gives : List ℕ → Type 0) (keep : Option ℕ) (tokens : TokenFile) where
  -- States that the service executed exactly these calls of requests, in one order for all clients.
  -- Each call was checked against one token table. The first table is that of the start. Each later
  -- one was read whole from the token file as it then was, and has the same salt.
  -- The calls form batches. Each batch ended with a commit, which may have failed. The reply due to
  -- a client follows from that.
  -- Purge chunks ran between batches. They removed only what had ended at least the retention
  -- before a time of the clock. Without a retention nothing was purged.
  -- Each call was made at a time of the clock, which returned no more than these results.
  pub record ServesAll (old new : Service S) (clock clock' : M) : Type 0 where
    pub all : List RequestCall
    pub segments : List Segment
    pub batches : List Batch
    pub told : List (Option ℕ)
    pub later : List TokenFile
    pub taken : All (IsTakenAfter gives tokens) later
    pub requests : AskedUnder (tokens ∷ later) all
    pub calls : all_timed_in segments batches ≡ map timed all
    pub last : Service S
    pub segments_made : MadeSegments g k old segments last
    pub made : MadeBatches g k last batches new
    pub clock_told : ClockReadings m told clock clock'
    pub moments : AreAmong (moments_of all) told
    pub purges : PurgesAreDue keep told segments
