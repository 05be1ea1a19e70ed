-- What follows for replies and durable airspaces, and for purges.
use Rattle.std.specs.Prelude.{◌≡◌, ◌-◌, ℕ, Bool, true, false, List, [], ◌∷◌, ◌++◌, map, Option, Some, None}
use Rattle.std.specs.List.{flat_map}
use Rattle.entity_core.specs.Airspace.{Airspace, IsAirspace, empty_at}
use Rattle.space_core.specs.declared.group_commit.GroupCommit as commits
use Rattle.space_core.specs.declared.space.Space as spaces
use Rattle.space_core.specs.Space.{IsContent}
use Rattle.service_calls.specs.declared.service.Service.{Service}
use Rattle.service_calls.specs.Held.{is_shut, salt_of, space_of}
use Rattle.service_calls.specs.Purged.{RunsPurged, Segment, all_delivered_in}
use Rattle.service_calls.specs.Run.{has_stopped}
use Rattle.service_calls.specs.Stale.{AllNumbered}
use Rattle.service_purge.specs.Segments.{AreUnseen, KnownOver, LookAheadOncePurged}
use Rattle.server_backend.specs.BackendEvent.{Advances, Announces, Answers, BackendEvent, Forgets, Gives, GivesNone, Receives, Settles, Stops}
use Rattle.database_backend.specs.Batches.{Cut, batches_of}

-- ---- purges

-- The time of an advance at which a purge is plausible: the clock returned it, and is not held as
-- wrong.
abbrev pub time_at : (moment : Option ℕ) → (held : Bool) → List ℕ
time_at None held = []
time_at (Some time) true = []
time_at (Some time) false = time ∷ []

abbrev pub time_in : BackendEvent → List ℕ
time_in (Receives moment call received) = []
time_in Settles = []
time_in (Advances moment held now) = time_at moment held
time_in (Gives ticket outcome) = []
time_in GivesNone = []
time_in (Announces ticket) = []
time_in (Answers moment ticket outcome) = []
time_in (Forgets ticket) = []
time_in Stops = []

-- The plausible times of events, in order.
abbrev pub times_of : List BackendEvent → List ℕ
times_of events = flat_map time_in events

-- Holds if these numbers are among those, in that order.
abbrev pub AreAmong : List ℕ → List ℕ → Type 0
AreAmong [] all = Unit {0}
AreAmong (number ∷ more) all = (before : List ℕ) × (after : List ℕ)
    × (all ≡ before ++ number ∷ after) × AreAmong more after

-- Holds if each chunk was purged up to one of these times, in that order, less the retention in
-- seconds. Without a retention there are no chunks.
abbrev pub PurgesAreDue : (retention : Option ℕ) → (times : List ℕ) → List Segment → Type 0
PurgesAreDue None times segments = segments ≡ []
PurgesAreDue (Some seconds) times segments = (due : List ℕ) × AreAmong due times
    × (map (λ segment. segment.until) segments ≡ map (λ time. time - seconds) due)

-- ---- the policy

module _ {S : Type 0} (g : spaces.Ghosts S) (k : commits.Ghosts S) where
  -- Holds if a service that was not shut ran. Its space had a single airspace and nothing pending
  -- before, and is sound afterwards.
  pub record RunsFrom (a : Airspace) (old new : Service S) : Type 0 where
    pub goes : is_shut old ≡ false
    pub calm : k.is_pending (space_of old) ≡ false
    pub content : IsContent g.holds (space_of old) a
    pub sound : g.is_sound (space_of new)

  -- True if some delivered reply is `Stopped`.
  abbrev pub stops : {retention : Option ℕ} {events : List BackendEvent} {old new : Service S}
      → Cut g k retention events old new → Bool
  stops cut = has_stopped (all_delivered_in cut.segments (batches_of cut))

  -- Holds if the delivered replies and the durable airspace are those of the policy over what the
  -- purges left. If no reply was `Stopped`, and each call is forward-looking from the purges before
  -- it, they are those of the policy without purges.
  pub record RunsAsPolicy (a : Airspace) {retention : Option ℕ} {events : List BackendEvent}
      {old new : Service S} (cut : Cut g k retention events old new) : Type 0 where
    pub runs : RunsPurged k (salt_of old) a cut.segments (batches_of cut) new
    pub unseen : IsAirspace a → stops cut ≡ false
        → LookAheadOncePurged (salt_of old) a cut.segments (batches_of cut)
        → AreUnseen k (salt_of old) a cut.segments (batches_of cut) new

  -- Holds if each durable entity has the OVN of its own serial. If no reply was `Stopped`, the last
  -- put of the later of two meeting entities knew the other, and the index of each subscription is
  -- the number of calls that notified it.
  pub record IsKnownFrom (n : ℕ) {retention : Option ℕ} {events : List BackendEvent}
      {old new : Service S} (cut : Cut g k retention events old new) : Type 0 where
    pub numbered : (b : Airspace) → k.persists (space_of new) b → AllNumbered (salt_of old) b
    pub known : stops cut ≡ false → (b : Airspace) → k.persists (space_of new) b
        → KnownOver (salt_of old) (empty_at n) cut.segments (batches_of cut) b

  -- ---- laws

  -- States that over each cut of events, the delivered replies and the durable airspace are those
  -- of the policy.
  abbrev pub EventsAreThePolicy : Type 0
  EventsAreThePolicy = (retention : Option ℕ) (events : List BackendEvent) (old new : Service S)
      (a : Airspace) (cut : Cut g k retention events old new) → RunsFrom a old new
      → RunsAsPolicy a cut

  -- States what is known of the durable airspace after events from the empty airspace.
  abbrev pub EventsAreKnown : Type 0
  EventsAreKnown = (retention : Option ℕ) (events : List BackendEvent) (old new : Service S) (n : ℕ)
      (cut : Cut g k retention events old new) → RunsFrom (empty_at n) old new → IsKnownFrom n cut

  -- States that over each cut of events, each chunk was purged up to a time of the clock less the
  -- retention, in the order of these times, and none at a time that was held as wrong.
  abbrev pub PurgesArePlausible : Type 0
  PurgesArePlausible = (retention : Option ℕ) (events : List BackendEvent) (old new : Service S)
      (cut : Cut g k retention events old new)
      → PurgesAreDue retention (times_of events) cut.segments
