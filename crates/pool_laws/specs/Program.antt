-- What the contract of `serve_pool_port` says is what the law of a pool asks of an instance.
use Rattle.std.specs.Prelude.{◌≡◌, ◌++◌, ℕ, List, [], ◌∷◌, Option}
use Rattle.entity_core.specs.Airspace.{Airspace}
use Rattle.space_core.specs.declared.space.Space as spaces
use Rattle.wire_http.specs.declared.moments.Moments as moments
use Rattle.server_base.specs.History.{HistoryEvent}
use Rattle.server_watch.specs.declared.token_watch.TokenSource as sources
use Rattle.server_watch.specs.declared.token_watch.TokenWatch.{TokenWatch}
use Rattle.server_backend.specs.declared.backend.Backend as backends
use Rattle.server_clients.specs.ServerEvents.{Setup}
use Rattle.server.specs.Rounds.{events_of_run}
use Rattle.pool_core.specs.Events.{InstanceEvent, events_at}
use Rattle.pool_core.specs.Log.{LogEvent}
use Rattle.pool_core.specs.declared.log.Log as logs
use Rattle.pool_instance.specs.Parts.{log_of, salt_in, space_in}
use Rattle.pool_instance.specs.State.{IsAfter}
use Rattle.pool_backend.specs.Pool.{instance_of, outcomes_of, retention_of}
use Rattle.pool_backend.specs.Served.{events_in}
use Rattle.pool_backend.specs.declared.pool.PoolInstance.{PoolInstance}
use Rattle.dss_command.specs.Pool.{ServesPoolClients}
use Rattle.pool_laws.specs.Steps.{ArePartsOf, ServesIn, Step, parts_at, pool_events, server_events_at}

module _ {L S M T : Type 0} (I : Type 0) (gl : logs.Ghosts L) (gs : spaces.Ghosts S)
    (b : backends.Ghosts (PoolInstance L I S)) (m : moments.Ghosts M) (t : sources.Ghosts T) where
  -- Holds if the steps at an instance are what it did: before its server, by `before`, and in the
  -- events of its server, as these rounds say.
  pub record AreStepsOf (steps : List Step) (i : ℕ) {setup : Setup} {watch : TokenWatch T}
      {old new : PoolInstance L I S} {clock clock' : M} {past now : Option (List HistoryEvent)}
      (served : ServesPoolClients gl gs b m t setup watch old new clock clock' past now)
      (before : List InstanceEvent) : Type 0 where
    pub events : server_events_at i steps
        ≡ events_of_run served.serves.runs.rounds served.serves.runs.last
    pub parts : served.story.parts ≡ parts_at i steps
    pub each : (step : Step) (first after : List Step) → steps ≡ first ++ step ∷ after
        → step.instance ≡ i → ArePartsOf (retention_of old) step.event step.parts
    pub all : events_at i (pool_events steps) ≡ before ++ events_in served.story.parts

  -- States that an instance which served so serves in its steps. It started from the airspace `start`
  -- and gave no outcome before; its space is sound at the end.
  abbrev pub ProgramServes : Type 0
  ProgramServes = (steps : List Step) (i : ℕ) (start : Airspace) (setup : Setup)
      (watch : TokenWatch T) (old new : PoolInstance L I S) (clock clock' : M)
      (past now : Option (List HistoryEvent)) (log : Option (List LogEvent))
      (before : List InstanceEvent)
      (served : ServesPoolClients gl gs b m t setup watch old new clock clock' past now)
      → AreStepsOf steps i served before → IsAfter gl gs log start before (instance_of old)
      → outcomes_of old ≡ [] → gs.is_sound (space_in (instance_of new))
      → gl.writer (log_of (instance_of old)) ≡ i
      → ServesIn gl gs b m t steps (salt_in (instance_of old)) start i
