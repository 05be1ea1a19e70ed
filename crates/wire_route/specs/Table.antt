-- The routes as the rows of a router, as a step of the proofs. The definition of routes does not
-- depend on it.
use Rattle.std.specs.Prelude.{◌≡◌, ℕ, List, [], Result, Ok, Err, Option, None, option_map}
use Rattle.matchit.specs.Rows.{RowsOf}
use Rattle.matchit.specs.Router.{RouteOf, route_from, nearest}
use Rattle.matchit.specs.Route.{Scan, parse_route}
use Rattle.matchit.specs.Order.{placed}
use Rattle.matchit.specs.Seek.{first}
use Rattle.matchit.specs.declared.error.InsertError.{InsertError}
use Rattle.entity_core.specs.declared.nature.Kind.TheVariants.{Intent, Constraint}
use Rattle.wire_route.specs.declared.endpoint.Endpoint.{Endpoint}
use Rattle.wire_route.specs.declared.endpoint.Endpoint.TheVariants.{Query, Entity, EntityAtOvn, Availability, SubscriptionQuery, Subscription, SubscriptionAtVersion}
use Rattle.wire_route.specs.Endpoint.{route_of}

abbrev pub Rows : Type 0
Rows = RowsOf (RouteOf Endpoint)

abbrev on_read : Result Scan InsertError → Endpoint → Rows → Rows
on_read (Ok s) endpoint rows = placed (s.pattern, route_from s endpoint) rows
on_read (Err e) endpoint rows = rows

-- The rows with the route of an endpoint added.
unfoldable pub with_route : Endpoint → Rows → Rows
with_route endpoint rows = on_read (parse_route (route_of endpoint)) endpoint rows

abbrev fits_read : Result Scan InsertError → Rows → Type 0
fits_read (Ok s) rows = nearest s.pattern rows ≡ None
fits_read (Err e) rows = ⊥

-- Holds if the route of the endpoint can be parsed and conflicts with no row.
unfoldable pub Fits : Endpoint → Rows → Type 0
Fits endpoint rows = fits_read (parse_route (route_of endpoint)) rows

-- The rows of all routes.
unfoldable pub table : Rows
table =
    with_route SubscriptionAtVersion
    (with_route Subscription
    (with_route SubscriptionQuery
    (with_route Availability
    (with_route (EntityAtOvn Constraint)
    (with_route (Entity Constraint)
    (with_route (Query Constraint)
    (with_route (EntityAtOvn Intent)
    (with_route (Entity Intent) (with_route (Query Intent) [])))))))))

-- The endpoint to which the router leads a path.
abbrev pub named_endpoint : List ℕ → Option Endpoint
named_endpoint path = option_map (λ r. r.value) (first table path)
