-- Lemmas: a server over an instance of a pool.
use Rattle.std.proofs.Common.{◌≡◌, List, Option, subst, sym}
use Rattle.space_core.specs.declared.space.Space as spaces
use Rattle.wire_http.specs.declared.moments.Moments as clocks
use Rattle.server_base.specs.History.{HistoryEvent}
use Rattle.server_watch.specs.declared.clock_watch.ClockWatch.{ClockWatch}
use Rattle.server_watch.specs.declared.token_watch.TokenSource as sources
use Rattle.server_watch.specs.declared.token_watch.TokenWatch.{TokenWatch}
use Rattle.server_backend.specs.BackendEvent.{BackendEvent}
use Rattle.server_backend.specs.Does.{DoesAll}
use Rattle.server_backend.specs.declared.backend.Backend as backends
use Rattle.server_clients.specs.Backends.{EventsAreTheBackends, all_backend_events}
use Rattle.server_clients.specs.ServerEvents.{ServerEvent, Setup}
use Rattle.server.specs.Rounds.{ServesClients, events_of_run, start}
use Rattle.pool_core.specs.Events.{InstanceEvent}
use Rattle.pool_core.specs.declared.log.Log as logs
use Rattle.pool_backend.specs.Pool.{AreGivenIn, StepsAs, outcomes_of}
use Rattle.pool_backend.specs.Served.{AreKnown, OutcomesAreGiven, Story}
use Rattle.pool_backend.specs.declared.pool.PoolInstance.{PoolInstance}
use Rattle.dss_command.specs.Pool.{ServesPoolClients}

module _ {L I S M T : Type 0} (gl : logs.Ghosts L) (gs : spaces.Ghosts S) (b : backends.Ghosts (PoolInstance L I S)) (m : clocks.Ghosts M) (t : sources.Ghosts T)
    (is : (events : List BackendEvent) (old new : PoolInstance L I S) → DoesAll b.steps events old new → DoesAll (StepsAs gl gs) events old new)
    (are : EventsAreTheBackends b m t) (given : OutcomesAreGiven I gl gs) where
  abbrev Given : List ServerEvent → PoolInstance L I S → PoolInstance L I S → Type 0
  Given events old new = (story : Story gl gs (all_backend_events events) old new)
      × ((before : List InstanceEvent) → AreGivenIn before (outcomes_of old) → AreKnown before (all_backend_events events) story.parts)

  -- What the instance did is what one of a pool does.
  pub serves_pool : (setup : Setup) (watch : TokenWatch T) (old new : PoolInstance L I S) (known : ClockWatch) (clock clock' : M) (past now : Option (List HistoryEvent))
      → ServesClients b m t setup known watch old new clock clock' past now → ServesPoolClients gl gs b m t setup watch old new clock clock' past now
  serves_pool setup watch old new known clock clock' past now serves =
      let events = events_of_run serves.runs.rounds serves.runs.last in
      let does = is (all_backend_events events) old serves.end.backend
      (are setup events (start b m t setup old clock known watch) serves.end serves.runs.follow) in
      let told = subst (λ (v : PoolInstance L I S). Given events old v) serves.backend_is (given (all_backend_events events) old serves.end.backend does) in
      record { known = known; serves = serves; story = told.0; given = told.1 }

-- The same over equal histories.
pub over_histories : {L I S M T : Type 0} (gl : logs.Ghosts L) (gs : spaces.Ghosts S) (b : backends.Ghosts (PoolInstance L I S)) (m : clocks.Ghosts M) (t : sources.Ghosts T) (setup : Setup) (watch : TokenWatch T) (old new : PoolInstance L I S) (clock clock' : M)
    (past between mid now : Option (List HistoryEvent)) → between ≡ past → now ≡ mid → ServesPoolClients gl gs b m t setup watch old new clock clock' between mid → ServesPoolClients gl gs b m t setup watch old new clock clock' past now
over_histories gl gs b m t setup watch old new clock clock' past between mid now first last serves =
    subst (λ (v : Option (List HistoryEvent)). ServesPoolClients gl gs b m t setup watch old new clock clock' v now) first
    (subst (λ (v : Option (List HistoryEvent)). ServesPoolClients gl gs b m t setup watch old new clock clock' between v) (sym last) serves)
