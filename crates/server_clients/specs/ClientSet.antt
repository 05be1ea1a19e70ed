-- The clients of a server, and their changes without a request.
use Rattle.std.specs.Prelude.{◌≡◌, ◌<◌, ◌≤◌, ℕ, Bool, true, false, List, [], ◌∷◌, Option, Some, None, option_map}
use Rattle.std.specs.List.{flat_map}
use Rattle.slab.specs.Slab.{Slab, get}
use Rattle.wire_http.specs.SetAt.{set_at}
use Rattle.server_base.specs.History.{Accepted, Extends, HistoryEvent}
use Rattle.server_clients.specs.declared.client_connection.ClientConnection.{ClientConnection}
use Rattle.server_clients.specs.declared.client_set.ClientSet.{ClientSet}
use Rattle.server_clients.specs.ClientConnection.{state_of_client}
use Rattle.server_clients.specs.ClientState.{ClientState, ClientStep, IsClosable, StepsBy, history_of_step, limited, new_client}
use Rattle.server_clients.specs.ServerEvents.{Clients}

-- The clients of these connections, whose names their sockets have.
abbrev pub clients_with : {T : Type 0} → (name : T → ℕ) → Slab (ClientConnection T) → Clients
clients_with name connections =
    λ key. option_map (λ client. state_of_client name client) (get connections key)

abbrev pub clients_of : {T : Type 0} → (name : T → ℕ) → ClientSet T → Clients
clients_of name set = clients_with name set.connections

-- A change of the clients without a request: a client is accepted under a key, or closed as soon
-- as it is accepted; it takes steps; or it is closed.
pub data SetChange : Type 0 where
  Adds : (key name : ℕ) → SetChange
  Rejects : (name : ℕ) → SetChange
  TakesSteps : (key name : ℕ) → (steps : List ClientStep) → SetChange
  Removes : (key : ℕ) → SetChange

-- What the history records of a change.
abbrev pub history_of_change : SetChange → List HistoryEvent
history_of_change (Adds key name) = Accepted name ∷ []
history_of_change (Rejects name) = Accepted name ∷ []
history_of_change (TakesSteps key name steps) = flat_map (history_of_step name) steps
history_of_change (Removes key) = []

-- Holds if the change leads from the one to the other. Only a vacant key is given to a client. Only
-- a client that may be closed is closed.
abbrev pub ChangesTo : SetChange → Clients → Clients → Type 0
ChangesTo (Adds key name) old new =
    (old key ≡ None) × (new ≡ set_at old key (Some (new_client name)))
ChangesTo (Rejects name) old new = new ≡ old
ChangesTo (TakesSteps key name steps) old new =
    (l : ClientState) × (old key ≡ Some l) × (l.name ≡ name)
    × (l' : ClientState) × StepsBy steps l l' × (new ≡ set_at old key (Some l'))
ChangesTo (Removes key) old new =
    (l : ClientState) × (old key ≡ Some l) × IsClosable l × (new ≡ set_at old key None)

-- Holds if the changes lead from the one to the other.
abbrev pub ChangesBy : List SetChange → Clients → Clients → Type 0
ChangesBy [] old new = new ≡ old
ChangesBy (change ∷ changes) old new =
    (mid : Clients) × ChangesTo change old mid × ChangesBy changes mid new

-- Holds if some changes lead from the one to the other, and the history records exactly them.
pub record SetChanges (old new : Clients) (past now : Option (List HistoryEvent)) : Type 0 where
  pub changes : List SetChange
  pub by : ChangesBy changes old new
  pub history : Extends past now (flat_map history_of_change changes)

-- Holds if a client of that name got a vacant key, or if nothing changed.
abbrev pub AddsIf : Bool → (name : ℕ) → Clients → Clients → Type 0
AddsIf true name old new =
    (key : ℕ) × (old key ≡ None) × (new ≡ set_at old key (Some (new_client name)))
AddsIf false name old new = new ≡ old

-- Holds if the client under that key may make at most one more request. If there is none, nothing
-- changed.
abbrev pub LimitsAt : (key : ℕ) → Clients → Clients → Type 0
LimitsAt key old new = new ≡ set_at old key (option_map limited (old key))

-- Holds if each client with a key below `bound` may make at most one more request, and nothing else
-- changed.
pub record LimitsBelow (bound : ℕ) (old new : Clients) : Type 0 where
  pub below : (key : ℕ) → key < bound → new key ≡ option_map limited (old key)
  pub others : (key : ℕ) → bound ≤ key → new key ≡ old key

-- The same of sets of clients, whose names their sockets have.
module _ {T : Type 0} (name : T → ℕ) (old new : ClientSet T) where
  -- Holds if the clients are as before.
  abbrev pub KeepsClients : Type 0
  KeepsClients = clients_of name new ≡ clients_of name old

  -- Holds if some changes of the clients lead from the one to the other, and the history records
  -- exactly them.
  abbrev pub ChangesClients : (past now : Option (List HistoryEvent)) → Type 0
  ChangesClients past now = SetChanges (clients_of name old) (clients_of name new) past now

  -- Holds if some changes of which the history records nothing lead from the one to the other.
  abbrev pub ChangesUnseen : Type 0
  ChangesUnseen = (past : Option (List HistoryEvent)) → ChangesClients past past
