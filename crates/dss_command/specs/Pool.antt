-- What an instance of a pool serves that starts from an airspace.
use Rattle.std.specs.Prelude.{◌≡◌, ◌⊎◌, Bool, true, false, List, [], Option, Result, Ok, Err, is_some}
use Rattle.std.specs.IoError.{error_kind}
use Rattle.std.specs.declared.io.Error.{Error}
use Rattle.entity_core.specs.Airspace.{Airspace}
use Rattle.space_core.specs.Space.{IsContent}
use Rattle.space_core.specs.declared.space.Space as spaces
use Rattle.token_conf.specs.TokenFile.{TokenFile, salt_of}
use Rattle.wire_http.specs.declared.moments.Moments as clocks
use Rattle.server_base.specs.History.{HistoryEvent}
use Rattle.server_watch.specs.declared.clock_watch.ClockWatch.{ClockWatch}
use Rattle.server_watch.specs.declared.token_watch.TokenSource as sources
use Rattle.server_watch.specs.declared.token_watch.TokenWatch.{TokenWatch}
use Rattle.server_backend.specs.declared.backend.Backend as backends
use Rattle.server_clients.specs.Backends.{all_backend_events}
use Rattle.server_clients.specs.ServerEvents.{Setup}
use Rattle.server.specs.Rounds.{ServesClients, events_of_run}
use Rattle.server.specs.Watches.{setup_of}
use Rattle.pool_core.specs.Events.{InstanceEvent}
use Rattle.pool_core.specs.Log.{LogEvent}
use Rattle.pool_core.specs.declared.log.Log as logs
use Rattle.pool_instance.specs.Parts.{salt_in}
use Rattle.pool_instance.specs.State.{IsAfter}
use Rattle.pool_instance.specs.declared.instance.Instance.{Instance}
use Rattle.pool_backend.specs.Pool.{AreGivenIn, outcomes_of}
use Rattle.pool_backend.specs.Served.{AreKnown, Story}
use Rattle.pool_backend.specs.declared.pool.PoolInstance.{PoolInstance}
use Rattle.dss_command.specs.Fault.{told_by}
use Rattle.dss_command.specs.declared.pool.PoolConfig.{PoolConfig}
use Rattle.dss_command.specs.declared.fault.Fault.{Fault}
use Rattle.dss_command.specs.declared.fault.Fault.TheVariants as fault
use Rattle.dss_command.specs.declared.pool_fault.PoolFault.TheVariants as pools

-- `tokens` is the token table of the start.
module _ {L S : Type 0} (gl : logs.Ghosts L) (gs : spaces.Ghosts S) (tokens : TokenFile) where
  -- States that an instance has done nothing, over a log that had this history. It starts from the
  -- airspace `start`, with the salt of the token file.
  pub record StartsFrom (past : Option (List LogEvent)) (start : Airspace) (x : Instance L S)
      : Type 0 where
    pub after : IsAfter gl gs past start [] x
    pub salt_is : salt_in x ≡ salt_of tokens

  -- Holds if an instance starts from the airspace that a space holds.
  abbrev pub StartsOver : Option (List LogEvent) → S → Instance L S → Type 0
  StartsOver past space x = (start : Airspace) → IsContent gs.holds space start
      → StartsFrom past start x

-- `watch` is the watch on the token file at the start.
module _ {L I S M T : Type 0} (gl : logs.Ghosts L) (gs : spaces.Ghosts S)
    (b : backends.Ghosts (PoolInstance L I S)) (m : clocks.Ghosts M) (t : sources.Ghosts T)
    (setup : Setup) (watch : TokenWatch T) where
  -- States that an instance served its clients in rounds, from the state at its start, that the
  -- history of the sockets records exactly the events, and that what the instance did in them is
  -- that of an instance of a pool, whatever it did before and whatever its log had. A reply is given
  -- only after the instance answered so, and a reason for status 503 only after the request failed.
  pub record ServesPoolClients (old new : PoolInstance L I S) (clock clock' : M)
      (past now : Option (List HistoryEvent)) : Type 0 where
    pub known : ClockWatch
    pub serves : ServesClients b m t setup known watch old new clock clock' past now
    pub story : Story gl gs
        (all_backend_events (events_of_run serves.runs.rounds serves.runs.last)) old new
    pub given : (before : List InstanceEvent) → AreGivenIn before (outcomes_of old)
        → AreKnown before
        (all_backend_events (events_of_run serves.runs.rounds serves.runs.last)) story.parts

  -- Holds if nothing was done, or clients were served so.
  abbrev pub MayServePool : (old new : PoolInstance L I S) → (clock clock' : M)
      → (past now : Option (List HistoryEvent)) → Type 0
  MayServePool old new clock clock' past now = ((new ≡ old) × (clock' ≡ clock) × (now ≡ past))
      ⊎ ServesPoolClients old new clock clock' past now

-- The setup of a server with this configuration.
abbrev pub pool_setup_in : PoolConfig → Setup
pool_setup_in given = setup_of given.explaining given.tokens.now (is_some given.operated)
    (is_some given.limits.count)

-- How the command ends, given the result of its service, and whether the instance has ended.
abbrev pub EndsPool : Result (Unit {0}) Error → Bool → Result (Unit {0}) Fault → Type 0
EndsPool (Ok x) false ended = ended ≡ Ok x
EndsPool (Ok x) true ended = ended ≡ Err (fault.Pool pools.Ended)
EndsPool (Err cause) is_ended ended = ended ≡ Err (told_by (error_kind cause) fault.Socket)
