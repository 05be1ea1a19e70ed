-- The requests of all clients of a server, as one list.
use Rattle.std.specs.Prelude.{List, [], ◌∷◌}
use Rattle.std.specs.List.{flat_map}
use Rattle.wire_http.specs.Wire.{RequestCall}
use Rattle.server_clients.specs.ClientEvents.{Asks, ClientEvent, EndsStream, ReadsClock, Steps}
use Rattle.server_clients.specs.ServerEvents.{Accepts, Acts, Closes, Confirms, Looks, Moves, Refuses, ServerEvent, Stops, Tells, Works}

-- The request that the backend received in an event, if it received one.
abbrev pub requests_by : ClientEvent → List RequestCall
requests_by (Steps step) = []
requests_by (Asks asked made received texts lost) = asked ∷ []
requests_by (EndsStream end) = []
requests_by (ReadsClock moment) = []

abbrev pub requests_in : ServerEvent → List RequestCall
requests_in (Accepts key name) = []
requests_in (Refuses name) = []
requests_in (Acts key name event) = requests_by event
requests_in (Tells event ticket outcome lost) = []
requests_in (Works event) = []
requests_in (Moves moment held now) = []
requests_in (Looks now found) = []
requests_in Confirms = []
requests_in Stops = []
requests_in (Closes key) = []

-- The requests of all clients that the backend received, in order.
abbrev pub all_requests : List ServerEvent → List RequestCall
all_requests events = flat_map requests_in events
