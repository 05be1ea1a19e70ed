-- What a server did with its backend.
use Rattle.std.proofs.Common.{◌≡◌, List, [], ◌∷◌, ◌++◌, ap, subst}
use Rattle.std.specs.List.{flat_map}
use Rattle.token_conf.specs.TokenFile.{TokenFile}
use Rattle.wire_http.specs.declared.explaining.Explaining.{Explaining}
use Rattle.wire_http.specs.declared.moments.Moments as moments
use Rattle.server_watch.specs.declared.token_watch.TokenSource as sources
use Rattle.server_backend.specs.BackendEvent.{BackendEvent}
use Rattle.server_backend.specs.Does.{DoesAll}
use Rattle.server_backend.specs.declared.backend.Backend as backends
use Rattle.server_clients.specs.ClientEvents.{Asks, ClientEvent, EndsStream, Occurs, ReadsClock, ServedClient, Steps, backend_events_in}
use Rattle.server_clients.specs.ServerEvents.{Accepts, Acts, Closes, Confirms, FollowAll, Follows, Looks, Moves, Refuses, ServerEvent, ServerState, Setup, Stops, Tells, Works, backend_events_of}

module _ {B M T : Type 0} (b : backends.Ghosts B) (m : moments.Ghosts M) (t : sources.Ghosts T)
    (setup : Setup) where
  -- The events go on from an equal backend.
  from : (events : List BackendEvent) (x y n : B) → y ≡ x → DoesAll b.steps events y n → DoesAll b.steps events x n
  from events x y n same h = subst (λ (v : B). DoesAll b.steps events v n) same h

  acted : (explaining : Explaining) (table : TokenFile) (event : ClientEvent) (events : List BackendEvent) (old new : ServedClient B M) (n : B) → Occurs b m explaining table event old new
      → DoesAll b.steps events new.backend n → DoesAll b.steps (backend_events_in event ++ events) old.backend n
  acted explaining table (Steps step) events old new n h k = from events old.backend new.backend n (ap (λ (s : ServedClient B M). s.backend) h.2) k
  acted explaining table (Asks asked made received texts lost) events old new n h k = (h.2, h.4, from events h.2 new.backend n (ap (λ (s : ServedClient B M). s.backend) h.5) k)
  acted explaining table (EndsStream end) events old new n h k = from events old.backend new.backend n (ap (λ (s : ServedClient B M). s.backend) h.3) k
  acted explaining table (ReadsClock moment) events old new n h k = from events old.backend new.backend n (ap (λ (s : ServedClient B M). s.backend) h.2) k

  one : (event : ServerEvent) (events : List BackendEvent) (old mid : ServerState B M T) (n : B) → Follows b m t setup event old mid
      → DoesAll b.steps events mid.backend n → DoesAll b.steps (backend_events_of event ++ events) old.backend n
  one (Accepts key name) events old mid n h k = from events old.backend mid.backend n (ap (λ (s : ServerState B M T). s.backend) h.1) k
  one (Refuses name) events old mid n h k = from events old.backend mid.backend n (ap (λ (s : ServerState B M T). s.backend) h) k
  one (Acts key name event) events old mid n h k =
      acted setup.explaining old.table event events _ h.3 n h.4 (from events h.3.backend mid.backend n (ap (λ (s : ServerState B M T). s.backend) h.5) k)
  one (Tells event ticket outcome lost) events old mid n h k = (h.0, h.4, from events h.0 mid.backend n (ap (λ (s : ServerState B M T). s.backend) h.5) k)
  one (Works event) events old mid n h k = (h.0, h.2, from events h.0 mid.backend n (ap (λ (s : ServerState B M T). s.backend) h.3) k)
  one (Moves moment held now) events old mid n h k = (h.0, h.6, from events h.0 mid.backend n (ap (λ (s : ServerState B M T). s.backend) h.7) k)
  one (Looks now found) events old mid n h k = from events old.backend mid.backend n (ap (λ (s : ServerState B M T). s.backend) h.3) k
  one Confirms events old mid n h k = from events old.backend mid.backend n (ap (λ (s : ServerState B M T). s.backend) h.3) k
  one Stops events old mid n h k = from events old.backend mid.backend n (ap (λ (s : ServerState B M T). s.backend) h.1) k
  one (Closes key) events old mid n h k = from events old.backend mid.backend n (ap (λ (s : ServerState B M T). s.backend) h.3) k

  pub are_the_backends : (events : List ServerEvent) (old new : ServerState B M T) → FollowAll b m t setup events old new
      → DoesAll b.steps (flat_map backend_events_of events) old.backend new.backend
  are_the_backends [] old new h = ap (λ (s : ServerState B M T). s.backend) h
  are_the_backends (event ∷ events) old new h =
      one event (flat_map backend_events_of events) old h.0 new.backend h.1 (are_the_backends events h.0 new h.2)
