-- That no two clients wait under one ticket, and what becomes of tickets.
use Rattle.std.specs.Prelude.{◌≡◌, ◌<◌, ℕ, Bool, List, map, Option, Some}
use Rattle.server_base.specs.History.{HistoryEvent}
use Rattle.server_backend.specs.BackendEvent.{Forgets}
use Rattle.server_backend.specs.Does.{DoesAll}
use Rattle.server_backend.specs.declared.backend.Backend as backends
use Rattle.server_backend.specs.declared.outcome.Outcome.{Outcome}
use Rattle.server_clients.specs.ClientSet.{SetChanges}
use Rattle.server_clients.specs.ServerEvents.{Clients, all_told}
use Rattle.server_clients.specs.Turns.{ticket_at}

-- Holds if at most one client waits under the ticket.
abbrev pub IsAlone : (ticket : ℕ) → Clients → Type 0
IsAlone ticket clients = (key other : ℕ) → ticket_at clients key ≡ Some ticket
    → ticket_at clients other ≡ Some ticket → key ≡ other

-- Holds if no two clients wait under one ticket, and each waits under one that the backend gave.
pub record AreNumbered {B : Type 0} (b : backends.Ghosts B) (backend : B) (clients : Clients)
    : Type 0 where
  pub alone : (ticket : ℕ) → IsAlone ticket clients
  pub given : (key ticket : ℕ) → ticket_at clients key ≡ Some ticket → ticket < b.tickets backend

-- Holds if the outcome was delivered to each client that waits under the ticket, for which memory
-- may have run out, and clients changed after that.
abbrev pub TellsAll : (ticket : ℕ) → Outcome → (old new : Clients)
    → (past now : Option (List HistoryEvent)) → Type 0
TellsAll ticket outcome old new past now =
    (lost : Bool) × SetChanges (all_told ticket outcome lost old) new past now

-- Holds if the backend forgot some requests.
abbrev pub ForgetsAll : {B : Type 0} → backends.Ghosts B → B → B → Type 0
ForgetsAll b old new =
    (tickets : List ℕ) × DoesAll b.steps (map (λ ticket. Forgets ticket) tickets) old new
