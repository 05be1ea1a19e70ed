-- What is known of the calls that requests make, and of the times of a clock.
use Rattle.std.specs.Prelude.{◌≡◌, ℕ, List, [], ◌∷◌, ◌++◌, All, map, Option, Some, None}
use Rattle.space_core.specs.declared.group_commit.GroupCommit as settles
use Rattle.space_core.specs.declared.space.Space as spaces
use Rattle.service_calls.specs.declared.service.Service.{Service}
use Rattle.service_calls.specs.Batches.{CallRecord, CalledInOrder}
use Rattle.token_conf.specs.TokenFile.{Callers}
use Rattle.wire_operation.specs.Asked.{IsCallOf}
use Rattle.wire_http.specs.Count.{one_more}
use Rattle.wire_http.specs.Wire.{RequestCall, timed}
use Rattle.wire_http.specs.declared.moments.Moments as moments

-- Holds if some request makes this call, and bears the token of its caller.
abbrev pub IsAskedBy : Callers → RequestCall → Type 0
IsAskedBy callers asked = (body : List ℕ) × IsCallOf callers asked.head body asked.endpoint asked.call

-- The results of a clock, in order: a time, or a failure.
abbrev pub ClockReadings : {M : Type 0} → moments.Ghosts M → List (Option ℕ) → M → M → Type 0
ClockReadings m [] clock clock' = clock' ≡ clock
ClockReadings {M} m (Some moment ∷ told) clock clock' =
    (mid : M) × m.gives clock moment mid × ClockReadings m told mid clock'
ClockReadings {M} m (None ∷ told) clock clock' =
    (mid : M) × (m.failures mid ≡ one_more (m.failures clock)) × ClockReadings m told mid clock'

-- Holds if these times are among the results of the clock, in that order.
abbrev pub AreAmong : List ℕ → List (Option ℕ) → Type 0
AreAmong [] told = Unit {0}
AreAmong (moment ∷ more) told = (before : List (Option ℕ)) × (after : List (Option ℕ))
    × (told ≡ before ++ Some moment ∷ after) × AreAmong more after

-- The times of calls.
abbrev pub moments_of : List RequestCall → List ℕ
moments_of all = map (λ asked. asked.moment) all

module _ {S M : Type 0} (g : spaces.Ghosts S) (k : settles.Ghosts S) (m : moments.Ghosts M)
    (callers : Callers) where
  -- States that the service executed calls of requests in a batch that has not ended yet.
  pub record GoesOn (old new : Service S) (clock clock' : M) : Type 0 where
    pub all : List RequestCall
    pub batch : List CallRecord
    pub told : List (Option ℕ)
    pub requests : All (IsAskedBy callers) all
    pub calls : map (λ made. made.timed) batch ≡ map timed all
    pub made : CalledInOrder g k old batch new
    pub clock_told : ClockReadings m told clock clock'
    pub moments : AreAmong (moments_of all) told
