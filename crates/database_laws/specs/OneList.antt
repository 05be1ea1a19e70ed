-- The calls of all clients of a server over a database, as one list, and what the clients are sent.
use Rattle.std.specs.Prelude.{◌≡◌, false, List}
use Rattle.service_calls.specs.Held.{is_shut}
use Rattle.service_calls.specs.Purged.{all_delivered_in}
use Rattle.space_core.specs.declared.group_commit.GroupCommit as settles
use Rattle.space_core.specs.declared.space.Space as spaces
use Rattle.wire_http.specs.declared.moments.Moments as moments
use Rattle.server_watch.specs.declared.token_watch.TokenSource as sources
use Rattle.server_backend.specs.Phase.{Quiet, phase_at_end}
use Rattle.server_backend.specs.declared.backend.Backend as backends
use Rattle.server_clients.specs.Backends.{all_backend_events}
use Rattle.server_clients.specs.ServerEvents.{FollowAll, ServerEvent, ServerState, Setup}
use Rattle.database_backend.specs.Database.{IsQuiet, retention_of, service_of, tickets_of, told_of}
use Rattle.database_backend.specs.declared.database.Database.{Database}
use Rattle.database_laws.specs.Kept.{AreKept}
use Rattle.database_laws.specs.Requests.{all_requests}
use Rattle.database_laws.specs.Responses.{EachIsSent}
use Rattle.database_laws.specs.Serve.{ServesAll}

-- Holds if the first token table is active, no call was made since the last commit, and all
-- outcomes were given.
pub record StartsQuiet {S M T : Type 0} (setup : Setup) (s : ServerState (Database S) M T) : Type 0
  where
    pub table : s.table ≡ setup.first
    pub quiet : IsQuiet s.backend
    pub told : told_of s.backend ≡ tickets_of s.backend

module _ {S M T : Type 0} (g : spaces.Ghosts S) (k : settles.Ghosts S)
    (b : backends.Ghosts (Database S)) (m : moments.Ghosts M) (t : sources.Ghosts T)
    (setup : Setup) (events : List ServerEvent) (old new : ServerState (Database S) M T) where
  -- Holds if the calls of all clients form one list of calls, which the service executed in
  -- batches, with purges between them. It is the list of their requests. Each client was sent the
  -- texts of the replies that the batches deliver, at the places of its requests. No change with
  -- the reply `Done` is lost.
  pub record IsOneList : Type 0 where
    pub serves : ServesAll g k m t.gives (retention_of old.backend) setup.first
        (service_of old.backend) (service_of new.backend) old.clock new.clock
    pub asked : serves.all ≡ all_requests events
    pub sent : EachIsSent b m t setup old (all_delivered_in serves.segments serves.batches) events
    pub kept : is_shut (service_of old.backend) ≡ false → AreKept serves.segments serves.batches

-- ---- the law

module _ {S M T : Type 0} (g : spaces.Ghosts S) (k : settles.Ghosts S)
    (b : backends.Ghosts (Database S)) (m : moments.Ghosts M) (t : sources.Ghosts T) where
  -- States that the calls of all clients form such a list. The events end the last batch and give
  -- its outcomes.
  abbrev pub CallsOfClientsAreOneList : Type 0
  CallsOfClientsAreOneList = (setup : Setup) (events : List ServerEvent)
      (old new : ServerState (Database S) M T) → FollowAll b m t setup events old new
      → StartsQuiet setup old → phase_at_end (all_backend_events events) Quiet ≡ Quiet
      → IsOneList g k b m t setup events old new
