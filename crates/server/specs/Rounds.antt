-- What `serve` does: rounds of events.
use Rattle.std.specs.Prelude.{◌≡◌, ◌⊎◌, ℕ, Bool, true, false, List, ◌∷◌, ◌++◌, Option, None}
use Rattle.std.specs.List.{AllPass, flat_map}
use Rattle.std.specs.declared.time.Duration.{Duration}
use Rattle.token_conf.specs.TokenFile.{TokenFile}
use Rattle.wire_http.specs.declared.moments.Moments as moments
use Rattle.server_base.specs.History.{Extends, HistoryEvent}
use Rattle.server_watch.specs.declared.clock_watch.ClockWatch.{ClockWatch}
use Rattle.server_watch.specs.declared.token_watch.TokenSource as sources
use Rattle.server_watch.specs.declared.token_watch.TokenWatch.{TokenWatch}
use Rattle.server_backend.specs.Phase.{Quiet}
use Rattle.server_backend.specs.declared.backend.Backend as backends
use Rattle.server_clients.specs.ServerEvents.{FollowAll, Looks, Moves, ServerEvent, ServerState, Setup, history_of, no_clients}
use Rattle.server.specs.Runs.{is_plain, phase_over}

-- A round at a time of the monotonic clock: clients are accepted; the token file is looked at;
-- clients have turns, after which no draft is left; the backend advances, at a reading of the
-- clock; and outcomes are delivered, and clients ended and closed.
pub record Round : Type 0 where
  pub now : Duration
  pub accepts : List ServerEvent
  pub found : Option TokenFile
  pub turns : List ServerEvent
  pub moment : Option ℕ
  pub held : Bool
  pub rest : List ServerEvent
  pub accepts_plain : AllPass is_plain accepts
  pub turns_plain : AllPass is_plain turns
  pub rest_plain : AllPass is_plain rest
  pub settled : phase_over (accepts ++ turns) Quiet ≡ Quiet
  pub none_after : phase_over rest Quiet ≡ Quiet

abbrev pub events_of_round : Round → List ServerEvent
events_of_round r =
    r.accepts ++ Looks r.now r.found ∷ (r.turns ++ Moves r.moment r.held r.now ∷ r.rest)

-- The events of rounds, and of one that was broken off before the look at the token file.
abbrev pub events_of_run : List Round → (last : List ServerEvent) → List ServerEvent
events_of_run rounds last = flat_map events_of_round rounds ++ last

module _ {B M T : Type 0} (b : backends.Ghosts B) (m : moments.Ghosts M) (t : sources.Ghosts T)
    (setup : Setup) where
  -- Holds if rounds, and the events of one that was broken off, lead from one state to the other,
  -- and the history of the sockets records exactly them.
  pub record RoundsRun (old new : ServerState B M T) (past now : Option (List HistoryEvent))
      : Type 0 where
    pub rounds : List Round
    pub last : List ServerEvent
    pub last_plain : AllPass is_plain last
    pub last_settled : phase_over last Quiet ≡ Quiet
    pub follow : FollowAll b m t setup (events_of_run rounds last) old new
    pub history : Extends past now (flat_map history_of (events_of_run rounds last))

  -- Holds if a round ends at this time: the backend advances, at a reading of the clock; and
  -- outcomes are delivered, and clients ended and closed.
  pub record EndsRound (at : Duration) (old new : ServerState B M T)
      (past now : Option (List HistoryEvent)) : Type 0 where
    pub moment : Option ℕ
    pub held : Bool
    pub rest : List ServerEvent
    pub rest_plain : AllPass is_plain rest
    pub none_after : phase_over rest Quiet ≡ Quiet
    pub follow : FollowAll b m t setup (Moves moment held at ∷ rest) old new
    pub history : Extends past now (flat_map history_of rest)

  -- The state of a server at its start.
  abbrev pub start : B → M → ClockWatch → TokenWatch T → ServerState B M T
  start backend clock known watch = record {
    backend = backend;
    clients = no_clients;
    clock = clock;
    known = known;
    table = setup.first;
    watch = watch;
    stops = false;
  }

  -- Holds if a server may end without an error in this state: an operator stopped it, its backend
  -- has ended, or all of a limited number of connections are closed.
  abbrev pub MayEnd : ServerState B M T → Type 0
  MayEnd end = ((setup.is_operated ≡ true) × (end.stops ≡ true))
      ⊎ ((b.is_over end.backend ≡ true)
      ⊎ ((setup.is_counted ≡ true) × ((key : ℕ) → end.clients key ≡ None)))

  -- States that rounds lead from the backend, the clock and the watches at the start, without
  -- clients, to the backend and the clock at the end, and that the history of the sockets records
  -- exactly their events.
  pub record ServesClients (known : ClockWatch) (watch : TokenWatch T) (old new : B)
      (clock clock' : M) (past now : Option (List HistoryEvent)) : Type 0 where
    pub end : ServerState B M T
    pub runs : RoundsRun (start old clock known watch) end past now
    pub backend_is : end.backend ≡ new
    pub clock_is : end.clock ≡ clock'

  -- The same, and the server may end there without an error.
  pub record ServesToEnd (known : ClockWatch) (watch : TokenWatch T) (old new : B)
      (clock clock' : M) (past now : Option (List HistoryEvent)) : Type 0 where
    pub serves : ServesClients known watch old new clock clock' past now
    pub may_end : MayEnd serves.end

module _ {B M T : Type 0} (b : backends.Ghosts B) (m : moments.Ghosts M) (t : sources.Ghosts T)
  where
    -- States that after the last request of each round its batch ends, and all outcomes are given:
    -- after rounds, no draft is left.
    abbrev pub RoundsAreSettled : Type 0
    RoundsAreSettled = (setup : Setup) (old new : ServerState B M T)
        (past now : Option (List HistoryEvent)) (run : RoundsRun b m t setup old new past now)
        → phase_over (events_of_run run.rounds run.last) Quiet ≡ Quiet
