-- The turns of clients, and the outcomes that are delivered to them.
use Rattle.std.specs.Prelude.{◌≡◌, ◌⊎◌, ℕ, List, Option, Some, None, option_and_then, option_map}
use Rattle.token_conf.specs.TokenFile.{TokenFile}
use Rattle.wire_http.specs.SetAt.{set_at}
use Rattle.wire_http.specs.declared.explaining.Explaining.{Explaining}
use Rattle.wire_http.specs.declared.moments.Moments as moments
use Rattle.server_base.specs.History.{HistoryEvent}
use Rattle.server_backend.specs.declared.backend.Backend as backends
use Rattle.server_backend.specs.declared.outcome.Outcome.{Outcome}
use Rattle.server_clients.specs.ClientConnection.{TellsAndSteps}
use Rattle.server_clients.specs.ClientEvents.{ClientRuns, ServedClient, served_client}
use Rattle.server_clients.specs.ClientState.{ClientState}
use Rattle.server_clients.specs.ServerEvents.{Clients}

-- The ticket under which the request of a client was drafted or waits, if there is one.
abbrev pub ticket_in : ClientState → Option ℕ
ticket_in l = option_map (λ w. w.ticket) l.waits

-- The same of the client under a key.
abbrev pub ticket_at : Clients → (key : ℕ) → Option ℕ
ticket_at clients key = option_and_then ticket_in (clients key)

-- A backend with a clock, and the clients.
pub record ServedClients (B M : Type 0) : Type 0 where
  pub backend : B
  pub clock : M
  pub clients : Clients

abbrev pub served_clients : {B M : Type 0} → B → M → Clients → ServedClients B M
served_clients backend clock clients =
    record { backend = backend; clock = clock; clients = clients }

-- `explaining` says whether responses have explanations. `table` is the active token table.
module _ {B M : Type 0} (b : backends.Ghosts B) (m : moments.Ghosts M) (explaining : Explaining)
    (table : TokenFile) (key : ℕ) (old new : ServedClients B M)
    (past now : Option (List HistoryEvent)) where
  -- Holds if events of the client under the key lead from the one to the other, and the history
  -- records exactly them. No other client changed.
  pub record RunsClient : Type 0 where
    pub client : ClientState
    pub there : old.clients key ≡ Some client
    pub end : ServedClient B M
    pub runs : ClientRuns b m explaining table (served_client old.backend old.clock client) end
        past now
    pub new_is : new
        ≡ served_clients end.backend end.clock (set_at old.clients key (Some end.client))

  -- The same, or nothing happened.
  abbrev pub MayRunClient : Type 0
  MayRunClient = ((new ≡ old) × (now ≡ past)) ⊎ RunsClient

module _ (key ticket : ℕ) (outcome : Outcome) (old new : Clients)
    (past now : Option (List HistoryEvent)) where
  -- Holds if an outcome under a ticket was delivered to the client under the key, which took steps
  -- after that. No other client changed.
  pub record TellsClient : Type 0 where
    pub client : ClientState
    pub there : old key ≡ Some client
    pub end : ClientState
    pub tells : TellsAndSteps ticket outcome client end past now
    pub new_is : new ≡ set_at old key (Some end)

  -- The same, or there is no such client.
  abbrev pub MayTellClient : Type 0
  MayTellClient = ((old key ≡ None) × (new ≡ old) × (now ≡ past)) ⊎ TellsClient
