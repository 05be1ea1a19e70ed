-- Executions of a server over a database, and their clients.
use Rattle.std.specs.Prelude.{◌≡◌, ◌+◌, ℕ, List, ◌∷◌, ◌++◌, length, map}
use Rattle.entity_core.specs.Airspace.{Airspace}
use Rattle.service_calls.specs.Held.{salt_of}
use Rattle.service_calls.specs.Purged.{all_delivered_in}
use Rattle.service_calls.specs.Run.{TimedCall}
use Rattle.service_step.specs.declared.reply.Reply.{Reply}
use Rattle.space_core.specs.declared.group_commit.GroupCommit as settles
use Rattle.wire_http.specs.Wire.{timed}
use Rattle.wire_http.specs.declared.moments.Moments as moments
use Rattle.server_watch.specs.declared.token_watch.TokenSource as sources
use Rattle.server_backend.specs.declared.backend.Backend as backends
use Rattle.server_clients.specs.Clients.{StaysOpen, sent_to}
use Rattle.server_clients.specs.ServerEvents.{Accepts, FollowAll, ServerEvent, ServerState, Setup}
use Rattle.database_backend.specs.Database.{service_of}
use Rattle.database_backend.specs.declared.database.Database.{Database}
use Rattle.database_laws.specs.Requests.{all_requests}
use Rattle.database_laws.specs.Responses.{IsSentThePolicy, IsSentUpTo}

module _ {S M T : Type 0} (k : settles.Ghosts S) (b : backends.Ghosts (Database S))
    (m : moments.Ghosts M) (t : sources.Ghosts T) where
  -- An execution: its events, and the list of calls that explains what clients were sent in them.
  -- Such a list exists by the law `clients_get_the_policy`.
  pub record Execution : Type 0 where
    pub setup : Setup
    pub start : Airspace
    pub events : List ServerEvent
    pub old : ServerState (Database S) M T
    pub new : ServerState (Database S) M T
    pub follow : FollowAll b m t setup events old new
    pub policy : IsSentThePolicy k b m t setup start events old new

  -- The salt of its OVNs, its calls with their times, and the replies that were delivered to them.
  abbrev pub salt_in : Execution → List ℕ
  salt_in run = salt_of (service_of run.old.backend)

  abbrev pub calls_in : Execution → List TimedCall
  calls_in run = map timed (all_requests run.events)

  abbrev pub replies_in : Execution → List Reply
  replies_in run = all_delivered_in run.policy.segments run.policy.batches

  -- A client of an execution. It was accepted under a key after the events `before`, and is not
  -- closed in the events `during`.
  pub record Client (run : Execution) : Type 0 where
    pub before : List ServerEvent
    pub during : List ServerEvent
    pub rest : List ServerEvent
    pub key : ℕ
    pub name : ℕ
    pub split : run.events ≡ before ++ Accepts key name ∷ (during ++ rest)
    pub stays : StaysOpen key during

  -- What is known of what the client is sent up to the end of these events.
  abbrev pub sent_of : (run : Execution) (client : Client run) → IsSentUpTo b m t run.setup run.old
      (replies_in run) client.before client.during client.key client.name
  sent_of run client = run.policy.clients client.before client.during client.rest client.key
      client.name client.split client.stays

  -- The bytes that it was sent up to then, and those that it may still be sent.
  abbrev pub bytes_for : (run : Execution) → Client run → List ℕ
  bytes_for run client =
      sent_to client.key client.during ++ (sent_of run client).sent.client.ready

  -- The number of requests that the backend received before the client was accepted, and up to the
  -- end of these events.
  abbrev pub place_of : (run : Execution) → Client run → ℕ
  place_of run client = length (all_requests client.before)

  abbrev pub count_up_to : (run : Execution) → Client run → ℕ
  count_up_to run client = place_of run client + length (all_requests client.during)
