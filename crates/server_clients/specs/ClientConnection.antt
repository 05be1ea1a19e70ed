-- The state of a client connection.
use Rattle.std.specs.Prelude.{ℕ, Bool, List, Option}
use Rattle.server_base.specs.History.{HistoryEvent}
use Rattle.server_backend.specs.declared.outcome.Outcome.{Outcome}
use Rattle.server_clients.specs.declared.client_connection.ClientConnection.{ClientConnection}
use Rattle.server_clients.specs.ClientIo.{client_state}
use Rattle.server_clients.specs.ClientState.{ClientState, ClientSteps, told}

-- The state of the client of a connection, whose name its socket has.
abbrev pub state_of_client : {T : Type 0} → (name : T → ℕ) → ClientConnection T → ClientState
state_of_client name client = client_state name client.io

-- Holds if the client was told an outcome under a ticket, for which memory may have run out, and
-- took steps after that.
abbrev pub TellsAndSteps : (ticket : ℕ) → Outcome → (l l' : ClientState)
    → (past now : Option (List HistoryEvent)) → Type 0
TellsAndSteps ticket outcome l l' past now =
    (lost : Bool) × ClientSteps (told ticket outcome lost l) l' past now
