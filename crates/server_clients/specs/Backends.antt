-- What a server did with its backend.
use Rattle.std.specs.Prelude.{List}
use Rattle.std.specs.List.{flat_map}
use Rattle.wire_http.specs.declared.moments.Moments as moments
use Rattle.server_watch.specs.declared.token_watch.TokenSource as sources
use Rattle.server_backend.specs.BackendEvent.{BackendEvent}
use Rattle.server_backend.specs.Does.{DoesAll}
use Rattle.server_backend.specs.declared.backend.Backend as backends
use Rattle.server_clients.specs.ServerEvents.{FollowAll, ServerEvent, ServerState, Setup, backend_events_of}

-- What the backend did in the events of a server, in order.
abbrev pub all_backend_events : List ServerEvent → List BackendEvent
all_backend_events events = flat_map backend_events_of events

-- States that the events of a server are, for its backend, a list of events. So each law of the
-- backend holds of them.
abbrev pub EventsAreTheBackends : {B M T : Type 0} → backends.Ghosts B → moments.Ghosts M
    → sources.Ghosts T → Type 0
EventsAreTheBackends {B} {M} {T} b m t = (setup : Setup) (events : List ServerEvent)
    (old new : ServerState B M T) → FollowAll b m t setup events old new
    → DoesAll b.steps (all_backend_events events) old.backend new.backend
