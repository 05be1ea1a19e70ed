-- The events of a server: what it does for its clients, and with its backend.
use Rattle.std.specs.Prelude.{◌≡◌, ℕ, Bool, true, List, [], ◌∷◌, Option, Some, None, IfSome, option_map, unwrap_or}
use Rattle.std.specs.List.{flat_map}
use Rattle.std.specs.declared.time.Duration.{Duration}
use Rattle.token_conf.specs.TokenFile.{TokenFile}
use Rattle.wire_http.specs.SetAt.{set_at}
use Rattle.wire_http.specs.declared.explaining.Explaining.{Explaining}
use Rattle.wire_http.specs.declared.moments.Moments as moments
use Rattle.server_base.specs.History.{Accepted, Extends, HistoryEvent}
use Rattle.server_base.specs.declared.server_log.ClockEvent.{ClockEvent}
use Rattle.server_watch.specs.ClockWatch.{Records, confirmed, is_held_in, state_of}
use Rattle.server_watch.specs.TokenWatch.{LooksOnce}
use Rattle.server_watch.specs.Tokens.{IsTakenAfter}
use Rattle.server_watch.specs.declared.clock_watch.ClockWatch.{ClockWatch}
use Rattle.server_watch.specs.declared.token_watch.TokenSource as sources
use Rattle.server_watch.specs.declared.token_watch.TokenWatch.{TokenWatch}
use Rattle.server_backend.specs.BackendEvent.{Advances, Announces, Answers, BackendEvent, Forgets, Gives, GivesNone, Receives as Takes, Settles, Stops as StopsBackend, is_own, outcome_in}
use Rattle.server_backend.specs.declared.backend.Backend as backends
use Rattle.server_backend.specs.declared.outcome.Outcome.{Outcome}
use Rattle.server_clients.specs.ClientEvents.{ClientEvent, Occurs, ReadsOnceAs, ServedClient, backend_events_in, history_of_event, served_client}
use Rattle.server_clients.specs.ClientState.{ClientState, IsClosable, new_client, told}

-- An event of a server. A client is accepted under a key, or closed as soon as it is accepted. An
-- event of one client occurs. The backend gives an outcome under a ticket, for which memory may run
-- out, or does something else. It advances, at a reading of the clock, which may be held as wrong.
-- The token file is looked at, with the table to load. An operator confirms the clock, or stops the
-- server. A client is closed.
pub data ServerEvent : Type 0 where
  Accepts : (key name : ℕ) → ServerEvent
  Refuses : (name : ℕ) → ServerEvent
  Acts : (key name : ℕ) → (event : ClientEvent) → ServerEvent
  Tells : (event : BackendEvent) → (ticket : ℕ) → (outcome : Outcome) → (lost : Bool) → ServerEvent
  Works : (event : BackendEvent) → ServerEvent
  Moves : (moment : Option ℕ) → (held : Bool) → (now : Duration) → ServerEvent
  Looks : (now : Duration) → (found : Option TokenFile) → ServerEvent
  Confirms : ServerEvent
  Stops : ServerEvent
  Closes : (key : ℕ) → ServerEvent

-- What the history of the sockets records of an event.
abbrev pub history_of : ServerEvent → List HistoryEvent
history_of (Accepts key name) = Accepted name ∷ []
history_of (Refuses name) = Accepted name ∷ []
history_of (Acts key name event) = history_of_event name event
history_of (Tells event ticket outcome lost) = []
history_of (Works event) = []
history_of (Moves moment held now) = []
history_of (Looks now found) = []
history_of Confirms = []
history_of Stops = []
history_of (Closes key) = []

-- What the backend does in an event.
abbrev pub backend_events_of : ServerEvent → List BackendEvent
backend_events_of (Accepts key name) = []
backend_events_of (Refuses name) = []
backend_events_of (Acts key name event) = backend_events_in event
backend_events_of (Tells event ticket outcome lost) = event ∷ []
backend_events_of (Works event) = event ∷ []
backend_events_of (Moves moment held now) = Advances moment held now ∷ []
backend_events_of (Looks now found) = []
backend_events_of Confirms = []
backend_events_of Stops = []
backend_events_of (Closes key) = []

-- The clients, by their keys.
abbrev pub Clients : Type 0
Clients = ℕ → Option ClientState

abbrev pub no_clients : Clients
no_clients = λ key. None

-- The clients after the backend gave an outcome under a ticket.
abbrev pub all_told : (ticket : ℕ) → Outcome → (lost : Bool) → Clients → Clients
all_told ticket outcome lost clients = λ key. option_map (told ticket outcome lost) (clients key)

-- A server: its backend, its clients, the clock, what is known of it, the active token table, and
-- the watch on the token file. `stops` says that an operator stopped it.
pub record ServerState (B M T : Type 0) : Type 0 where
  pub backend : B
  pub clients : Clients
  pub clock : M
  pub known : ClockWatch
  pub table : TokenFile
  pub watch : TokenWatch T
  pub stops : Bool

-- How a server was set up: whether responses have explanations, the first token table, whether
-- there is an admin port, and whether the number of connections is limited.
pub record Setup : Type 0 where
  pub explaining : Explaining
  pub first : TokenFile
  pub is_operated : Bool
  pub is_counted : Bool

-- Holds if that is known of the clock after this result: a wrong time holds purges, any other is
-- the last right one. A failure changes nothing.
abbrev pub KnowsAfter : Option ℕ → (now : Duration) → ClockWatch → ClockWatch → Type 0
KnowsAfter (Some moment) now known known' =
    (news : Option ClockEvent) × Records moment now known known' news
KnowsAfter None now known known' = known' ≡ known

-- Holds if the clock was read once for a request that waited and was answered. No other outcome has
-- a time.
abbrev pub ReadsFor : {M : Type 0} → moments.Ghosts M → BackendEvent → M → M → Type 0
ReadsFor m (Answers moment ticket outcome) clock clock' = m.gives clock moment clock'
ReadsFor m (Gives ticket outcome) clock clock' = clock' ≡ clock
ReadsFor m (Takes moment call received) clock clock' = ⊥
ReadsFor m Settles clock clock' = ⊥
ReadsFor m (Advances moment held now) clock clock' = ⊥
ReadsFor m GivesNone clock clock' = ⊥
ReadsFor m (Announces ticket) clock clock' = ⊥
ReadsFor m (Forgets ticket) clock clock' = ⊥
ReadsFor m StopsBackend clock clock' = ⊥

module _ {B M T : Type 0} (b : backends.Ghosts B) (m : moments.Ghosts M) (t : sources.Ghosts T)
    (setup : Setup) where
  -- Holds if the event leads from one state to the other. An outcome reaches each client whose
  -- request waits under its ticket. Only a client that has all its responses, or that the server
  -- stopped answering for a reason, is closed.
  abbrev pub Follows : ServerEvent → ServerState B M T → ServerState B M T → Type 0
  Follows (Accepts key name) s s' = (s.clients key ≡ None)
      × (s' ≡ record s { clients = set_at s.clients key (Some (new_client name)) })
  Follows (Refuses name) s s' = s' ≡ s
  Follows (Acts key name event) s s' = (l : ClientState) × (s.clients key ≡ Some l)
      × (l.name ≡ name) × (end : ServedClient B M)
      × Occurs b m setup.explaining s.table event (served_client s.backend s.clock l) end
      × (s' ≡ record s {
        backend = end.backend;
        clock = end.clock;
        clients = set_at s.clients key (Some end.client);
      })
  Follows (Tells event ticket outcome lost) s s' = (backend : B) × (clock : M)
      × (outcome_in event ≡ Some (ticket, outcome)) × ReadsFor m event s.clock clock
      × b.steps s.backend event backend
      × (s' ≡ record s {
        backend = backend;
        clock = clock;
        clients = all_told ticket outcome lost s.clients;
      })
  Follows (Works event) s s' = (backend : B) × (is_own event ≡ true)
      × b.steps s.backend event backend × (s' ≡ record s { backend = backend })
  Follows (Moves moment held now) s s' = (backend : B) × (clock : M) × (known : ClockWatch)
      × ReadsOnceAs m moment s.clock clock × KnowsAfter moment now s.known known
      × (held ≡ is_held_in known)
      × b.steps s.backend (Advances moment held now) backend
      × (s' ≡ record s { backend = backend; clock = clock; known = known })
  Follows (Looks now found) s s' = (watch : TokenWatch T)
      × LooksOnce t setup.first now s.watch watch found
      × IfSome found (IsTakenAfter t.gives setup.first)
      × (s' ≡ record s { table = unwrap_or found s.table; watch = watch })
  Follows Confirms s s' = (setup.is_operated ≡ true) × (known : ClockWatch)
      × (state_of known ≡ confirmed (state_of s.known)) × (s' ≡ record s { known = known })
  Follows Stops s s' = (setup.is_operated ≡ true) × (s' ≡ record s { stops = true })
  Follows (Closes key) s s' = (l : ClientState) × (s.clients key ≡ Some l) × IsClosable l
      × (s' ≡ record s { clients = set_at s.clients key None })

  -- Holds if the events lead from one state to the other.
  abbrev pub FollowAll : List ServerEvent → ServerState B M T → ServerState B M T → Type 0
  FollowAll [] s s' = s' ≡ s
  FollowAll (event ∷ events) s s' =
      (mid : ServerState B M T) × Follows event s mid × FollowAll events mid s'

  -- Holds if some events lead from one state to the other, and the history records exactly them.
  pub record ServerRuns (s s' : ServerState B M T) (past now : Option (List HistoryEvent))
      : Type 0 where
    pub events : List ServerEvent
    pub follow : FollowAll events s s'
    pub history : Extends past now (flat_map history_of events)
