-- What happens at the instances of a pool, in the order of real time.
use Rattle.std.specs.Prelude.{◌≡◌, ◌==◌, ◌++◌, ℕ, List, [], ◌∷◌, map, Option, Some, None, if◌then◌else◌}
use Rattle.std.specs.List.{flat_map}
use Rattle.space_core.specs.declared.space.Space as spaces
use Rattle.wire_http.specs.declared.moments.Moments as moments
use Rattle.server_watch.specs.declared.token_watch.TokenSource as sources
use Rattle.server_backend.specs.declared.backend.Backend as backends
use Rattle.server_clients.specs.Backends.{all_backend_events}
use Rattle.server_clients.specs.ServerEvents.{FollowAll, ServerEvent, ServerState, Setup, backend_events_of}
use Rattle.entity_core.specs.Airspace.{Airspace}
use Rattle.pool_core.specs.Events.{InstanceEvent, PoolEvent, events_at}
use Rattle.pool_core.specs.Log.{LogEvent}
use Rattle.pool_core.specs.declared.log.Log as logs
use Rattle.pool_instance.specs.Parts.{log_of, salt_in, space_in}
use Rattle.pool_instance.specs.State.{IsAfter}
use Rattle.pool_backend.specs.Pool.{AreGivenIn, instance_of, outcomes_of, retention_of}
use Rattle.pool_backend.specs.Served.{AreKnown, AreParts, Story, events_in}
use Rattle.pool_backend.specs.declared.pool.PoolInstance.{PoolInstance}

-- A step at an instance: an event of its server, with what the instance did in it, a list for each
-- event of its backend. Without an event of a server it is what the instance did before it served
-- clients, or what another process of the pool did.
pub record Step : Type 0 where
  pub instance : ℕ
  pub event : Option ServerEvent
  pub parts : List (List InstanceEvent)

-- ---- events in steps

abbrev pub server_events_in : Option ServerEvent → List ServerEvent
server_events_in None = []
server_events_in (Some event) = event ∷ []

abbrev pub parts_in : Option ServerEvent → List (List InstanceEvent) → List (List InstanceEvent)
parts_in None parts = []
parts_in (Some event) parts = parts

-- The events of the server of an instance, and what the instance did in them.
abbrev pub server_events_at : (instance : ℕ) → List Step → List ServerEvent
server_events_at i steps =
    flat_map (λ step. if i == step.instance then server_events_in step.event else []) steps

abbrev pub parts_at : (instance : ℕ) → List Step → List (List InstanceEvent)
parts_at i steps =
    flat_map (λ step. if i == step.instance then parts_in step.event step.parts else []) steps

-- The events of the pool.
abbrev pub events_of_step : Step → List PoolEvent
events_of_step step =
    map (λ event. record { instance = step.instance; event = event }) (events_in step.parts)

abbrev pub pool_events : List Step → List PoolEvent
pool_events steps = flat_map events_of_step steps

-- ---- instances that serve

-- Holds if these are what an instance did in an event of its server.
abbrev pub ArePartsOf : (retention : Option ℕ) → Option ServerEvent → List (List InstanceEvent)
    → Type 0
ArePartsOf retention None parts = Unit {0}
ArePartsOf retention (Some event) parts = AreParts retention (backend_events_of event) parts

module _ {L I S M T : Type 0} (gl : logs.Ghosts L) (gs : spaces.Ghosts S)
    (b : backends.Ghosts (PoolInstance L I S)) (m : moments.Ghosts M) (t : sources.Ghosts T) where
  -- Holds if an instance serves its clients in these steps, with this salt. It started from the
  -- airspace `start`, and does in them what its server and its backend state: `ServesPoolClients` in
  -- dss_command has the same of the program.
  pub record ServesIn (steps : List Step) (salt : List ℕ) (start : Airspace) (i : ℕ) : Type 0 where
    pub setup : Setup
    pub old : ServerState (PoolInstance L I S) M T
    pub new : ServerState (PoolInstance L I S) M T
    pub follow : FollowAll b m t setup (server_events_at i steps) old new
    pub story : Story gl gs (all_backend_events (server_events_at i steps)) old.backend new.backend
    pub given : (before : List InstanceEvent) → AreGivenIn before (outcomes_of old.backend)
        → AreKnown before (all_backend_events (server_events_at i steps)) story.parts
    -- Each step has what the instance did in it. Before its server began it did `before`.
    pub each : (step : Step) (first after : List Step) → steps ≡ first ++ step ∷ after
        → step.instance ≡ i → ArePartsOf (retention_of old.backend) step.event step.parts
    pub parts : story.parts ≡ parts_at i steps
    pub before : List InstanceEvent
    pub all : events_at i (pool_events steps) ≡ before ++ events_in story.parts
    pub none : outcomes_of old.backend ≡ []
    pub past : Option (List LogEvent)
    pub after : IsAfter gl gs past start before (instance_of old.backend)
    pub sound : gs.is_sound (space_in (instance_of new.backend))
    pub salt_is : salt_in (instance_of old.backend) ≡ salt
    pub name_is : gl.writer (log_of (instance_of old.backend)) ≡ i
