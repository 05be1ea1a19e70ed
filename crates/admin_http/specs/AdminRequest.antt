-- The endpoints of the admin port, by path and method.
use Rattle.std.specs.Prelude.{◌≡◌, ◌≢◌, ℕ, List, codes}
use Rattle.admin_http.specs.declared.admin_route.AdminRequest.{AdminRequest}
use Rattle.admin_http.specs.declared.admin_route.AdminRequest.TheVariants.{Does, Refuses, Unknown}
use Rattle.admin_http.specs.declared.admin_route.Health.{Health}
use Rattle.admin_http.specs.declared.admin_route.Health.TheVariants as state
use Rattle.admin_http.specs.declared.admin_route.AdminRoute.{AdminRoute}
use Rattle.admin_http.specs.declared.admin_route.AdminRoute.TheVariants as page

abbrev pub path_of : AdminRoute → List ℕ
path_of page.Health = codes "/health"
path_of page.Metrics = codes "/metrics"
path_of page.Stop = codes "/stop"
path_of page.Backup = codes "/backup"
path_of page.File = codes "/file"
path_of page.Airspace = codes "/airspace"
path_of page.ResumePurges = codes "/purge/resume"

abbrev pub method_of : AdminRoute → List ℕ
method_of page.Health = codes "GET"
method_of page.Metrics = codes "GET"
method_of page.Stop = codes "POST"
method_of page.Backup = codes "POST"
method_of page.File = codes "POST"
method_of page.Airspace = codes "GET"
method_of page.ResumePurges = codes "POST"

-- Holds if no endpoint has this path.
abbrev pub IsNoPath : List ℕ → Type 0
IsNoPath path = (p : AdminRoute) → path ≢ path_of p

-- Holds if this is the result of routing a method and a path.
abbrev pub IsAsked : (method path : List ℕ) → AdminRequest → Type 0
IsAsked method path (Does p) = (path ≡ path_of p) × (method ≡ method_of p)
IsAsked method path (Refuses p) = (path ≡ path_of p) × (method ≢ method_of p)
IsAsked method path Unknown = IsNoPath path

-- The status of an endpoint's response. Only that of `/health` depends on the health of the
-- service. Those of `/backup` and `/file` apply without a directory for them, and that of `/airspace`
-- without a snapshot.
abbrev pub status_at : AdminRoute → Health → ℕ
status_at page.Health state.Serving = 200
status_at page.Health state.Degraded = 200
status_at page.Health state.Failing = 503
status_at page.Health state.Silent = 503
status_at page.Health state.Stopped = 503
status_at page.Health state.Stopping = 503
status_at page.Metrics health = 200
status_at page.Stop health = 200
status_at page.Backup health = 404
status_at page.File health = 404
status_at page.Airspace health = 503
status_at page.ResumePurges health = 200

abbrev pub status_of : AdminRequest → Health → ℕ
status_of (Does p) health = status_at p health
status_of (Refuses p) health = 405
status_of Unknown health = 404
