-- What the command `serve` does for its clients.
use Rattle.std.specs.Prelude.{◌≡◌, ◌⊎◌, ℕ, List, Option, false, is_some}
use Rattle.service_calls.specs.Held as held
use Rattle.service_calls.specs.declared.service.Service.{Service}
use Rattle.space_core.specs.declared.group_commit.GroupCommit as settles
use Rattle.space_core.specs.declared.space.Space as spaces
use Rattle.token_conf.specs.TokenFile.{TokenFile, salt_of}
use Rattle.wire_http.specs.declared.moments.Moments as moments
use Rattle.server_base.specs.History.{HistoryEvent}
use Rattle.server_watch.specs.declared.clock_watch.ClockWatch.{ClockWatch}
use Rattle.server_watch.specs.declared.token_watch.TokenSource as sources
use Rattle.server_watch.specs.declared.token_watch.TokenWatch.{TokenWatch}
use Rattle.server_backend.specs.declared.backend.Backend as backends
use Rattle.database_backend.specs.Database.{retention_of, service_of}
use Rattle.database_backend.specs.declared.database.Database.{Database}
use Rattle.server_clients.specs.ServerEvents.{ServerEvent, ServerState, Setup}
use Rattle.server.specs.Rounds.{RoundsRun, events_of_run, start}
use Rattle.server.specs.Watches.{setup_of}
use Rattle.database_laws.specs.OneList.{IsOneList}
use Rattle.dss_command.specs.declared.clients.ServeConfig.{ServeConfig}

-- Holds if this is a new service over that space, with the salt of the token file.
pub record IsServiceOver {S : Type 0} (tokens : TokenFile) (space : S) (service : Service S)
    : Type 0 where
  pub space_is : held.space_of service ≡ space
  pub salt_is : held.salt_of service ≡ salt_of tokens
  pub goes : held.is_shut service ≡ false

-- The setup of a server with this configuration.
abbrev pub setup_in : ServeConfig → Setup
setup_in given = setup_of given.explaining given.tokens.now (is_some given.operated)
    (is_some given.limits.count)

-- `keep` is the retention, and `watch` the watch on the token file at the start.
module _ {S M T : Type 0} (g : spaces.Ghosts S) (k : settles.Ghosts S)
    (b : backends.Ghosts (Database S)) (m : moments.Ghosts M) (t : sources.Ghosts T)
    (setup : Setup) (keep : Option ℕ) (watch : TokenWatch T) where
  -- States that a server over a new service answered clients in rounds, that the history of the
  -- sockets records exactly its events, and that the space is returned as it then is.
  --
  -- The service executed the calls of exactly the requests that were received, each of the caller
  -- whose token the request bears. Each client was sent the texts of the replies to its calls. All
  -- calls were in batches that have ended. Between batches, entities that ended at least the
  -- retention ago may have been purged.
  pub record ServesClients (old new : S) (clock clock' : M) (past now : Option (List HistoryEvent))
      : Type 0 where
    pub begins : Database S
    pub known : ClockWatch
    pub end : ServerState (Database S) M T
    pub starts : IsServiceOver setup.first old (service_of begins)
    pub keeps : retention_of begins ≡ keep
    pub runs : RoundsRun b m t setup (start b m t setup begins clock known watch) end past now
    pub calls : IsOneList g k b m t setup (events_of_run runs.rounds runs.last)
        (start b m t setup begins clock known watch) end
    pub clock_is : end.clock ≡ clock'
    pub ends : new ≡ held.space_of (service_of end.backend)

  -- Holds if nothing was done, or clients were answered so.
  abbrev pub MayServe : (old new : S) → (clock clock' : M)
      → (past now : Option (List HistoryEvent)) → Type 0
  MayServe old new clock clock' past now =
      ((new ≡ old) × (clock' ≡ clock) × (now ≡ past)) ⊎ ServesClients old new clock clock' past now

-- The events of such a server, and the service at its start and at its end.
module _ {S M T : Type 0} {g : spaces.Ghosts S} {k : settles.Ghosts S}
    {b : backends.Ghosts (Database S)} {m : moments.Ghosts M} {t : sources.Ghosts T}
    {setup : Setup} {keep : Option ℕ} {watch : TokenWatch T} {old new : S} {clock clock' : M}
    {past now : Option (List HistoryEvent)} where
  abbrev pub events_of : ServesClients g k b m t setup keep watch old new clock clock' past now
      → List ServerEvent
  events_of serves = events_of_run serves.runs.rounds serves.runs.last

  abbrev pub first_of : ServesClients g k b m t setup keep watch old new clock clock' past now
      → Service S
  first_of serves = service_of serves.begins

  abbrev pub last_of : ServesClients g k b m t setup keep watch old new clock clock' past now
      → Service S
  last_of serves = service_of serves.end.backend
